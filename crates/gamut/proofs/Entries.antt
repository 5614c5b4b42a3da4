-- Every entry that is filled is a number from 0 to 200 with its sign bit clear, so a table of filled rows is never refused by number 7. Assumes nothing.
use mathlib.Core.Path.{◌≡◌, refl}
use mathlib.Core.Bool.{Bool, true, false, cond}
use mathlib.Core.List.{List, ◌++◌}
use Prim.Native.Nat.{ℕ, zero, suc}
use native.Mathlib.Omega.{arith}
use lib.Ieee.{Float, nan, of_int}
use lib.ListN.{get_or}
use Rattle.limits.specs.Taken.{f32_of, entry_taken, every}
use Rattle.limits.proofs.Lists.{each_append, each_true, every_true}
use Rattle.halving.specs.Midpoint.{halve}
use Rattle.halving.proofs.Range.{UpTo, halve_up_to, up_to_taken}
use Rattle.color.specs.Color.{lch_in_gamut}
use Rattle.gamut.specs.Gamut.{max_chroma, entries_from, row_of}

-- whatever the lightness and the direction are
chroma_up_to : (l cos sin : Float) → UpTo 200 (max_chroma l cos sin)
unfolding max_chroma of_int
chroma_up_to l cos sin = go (lch_in_gamut l cos sin (f32_of 200)) (halve (lch_in_gamut l cos sin) 40 (f32_of 0) (f32_of 200)) (halve_up_to 200 (lch_in_gamut l cos sin) 40 (f32_of 0) (f32_of 200) (omega arith) (omega arith) (omega arith))
  where
    go : (t : Bool) (found : Float) → UpTo 200 found → UpTo 200 (cond t (f32_of 200) found)
    go true found h = omega arith
    go false found h = h

pub chroma_taken_lem : (l cos sin : Float) → entry_taken (max_chroma l cos sin) ≡ true
unfolding entry_taken
chroma_taken_lem l cos sin = up_to_taken 200 (max_chroma l cos sin) (omega arith) (chroma_up_to l cos sin)

entries_taken_lem : (l : Float) (cs ss : List Float) (n j : ℕ) → every entry_taken (entries_from l cs ss n j) ≡ true
unfolding every entries_from
entries_taken_lem l cs ss zero j = refl
entries_taken_lem l cs ss (suc n) j = rw (chroma_taken_lem l (get_or cs j nan) (get_or ss j nan)) (entries_taken_lem l cs ss n (suc j))

-- a filled row is taken by number 7
pub row_taken : (l : Float) (cs ss : List Float) → every entry_taken (row_of l cs ss) ≡ true
unfolding row_of
row_taken l cs ss = entries_taken_lem l cs ss 720 0

-- and so is a table of rows that are each taken, one after the other
pub rows_taken : (row table : List Float) → every entry_taken row ≡ true → every entry_taken table ≡ true → every entry_taken (row ++ table) ≡ true
rows_taken row table r t = every_true entry_taken (row ++ table) (each_append (λ x. entry_taken x ≡ true) row table (each_true entry_taken row r) (each_true entry_taken table t))
