-- A chain of indices, each at least step after the one before and the last at least step before the stop: what is taken from a start is one, and where
-- there is one, taking the earliest each time succeeds. Assumes nothing.
use mathlib.Core.Path.{◌≡◌, refl, sym, ap, ◌∙◌}
use mathlib.Core.Logic.{◌⊎◌, inl, inr}
use mathlib.Core.Bool.{Bool, true, false, cond}
use mathlib.Core.List.{List, [], ◌∷◌}
use Prim.Native.Nat.{ℕ, zero, suc, ◌+◌, ◌-◌, ◌*◌, ◌≤◌, ◌<◌}
use native.Mathlib.Nat.{le_trans, le_of_suc-le-suc, not-suc-le-zero}
use native.Mathlib.Omega.{arith}
use lib.Dec.{leb, ltb}
use lib.ListN.{length, get_or}
use borrow.Author.Tests.{leb-true, le-leb, ltb-true, lt-ltb}
use Rattle.limits.proofs.Floats.{never}
use Rattle.placement_rules.specs.Ring.{Places, nowhere, placed, before, earliest, onward, from_start}
use Rattle.placement_rules.proofs.Earliest.{from, to, is_ok, first}

-- the answer is no 'none'
abbrev pub Some : Places → Type 0
Some nowhere = ⊥
Some (placed is) = Unit

module _ (ok : ℕ → Bool) (step stop : ℕ) where
  abbrev pub Chain : ℕ → List ℕ → Type 0
  Chain cur [] = cur + step ≤ stop
  Chain cur (j ∷ is) = (cur + step ≤ j) × ((ok j ≡ true) × Chain j is)

  pub closes : (cur : ℕ) (is : List ℕ) → Chain cur is → cur + step ≤ stop
  closes cur [] c = c
  closes cur (j ∷ is) c = let h = closes j is c.1.1 in let k = c.0 in omega arith

  -- each later index is at least step on, at least step before the stop, and allowed
  pub later : (cur : ℕ) (is : List ℕ) → Chain cur is → (q : ℕ) → q < length is → (cur + step ≤ get_or is q 0) × ((get_or is q 0 + step ≤ stop) × (ok (get_or is q 0) ≡ true))
  later cur [] c q h = absurd (not-suc-le-zero h)
  later cur (j ∷ is) c zero h = (c.0, (closes j is c.1.1, c.1.0))
  later cur (j ∷ is) c (suc q) h =
      let r = later j is c.1.1 q (le_of_suc-le-suc h) in
      let a = c.0 in
      let b = r.0 in
      (omega arith, (r.1.0, r.1.1))

  -- any two of them are at least step apart
  pub pairs : (cur : ℕ) (is : List ℕ) → Chain cur is → (p q : ℕ) → p < q → q < length is → get_or is p 0 + step ≤ get_or is q 0
  pairs cur [] c p q l h = absurd (not-suc-le-zero h)
  pairs cur (j ∷ is) c p zero l h = absurd (not-suc-le-zero l)
  pairs cur (j ∷ is) c zero (suc q) l h = (later j is c.1.1 q (le_of_suc-le-suc h)).0
  pairs cur (j ∷ is) c (suc p) (suc q) l h = pairs j is c.1.1 p q (le_of_suc-le-suc l) (le_of_suc-le-suc h)

  -- ---- what is taken is a chain
  abbrev pub Taken : ℕ → ℕ → Places → Type 0
  Taken more cur nowhere = Unit
  Taken more cur (placed is) = (length is ≡ more) × Chain cur is

  module _ (some_step : 1 ≤ step) where
    pub taken : (more cur : ℕ) → Taken more cur (onward ok step stop more cur)
    unfolding onward
    taken zero cur = go (leb step (stop - cur)) (leb-true step (stop - cur))
      where
        go : (t : Bool) → (t ≡ true → step ≤ stop - cur) → Taken zero cur (cond t (placed []) nowhere)
        go true f = (refl, let h = f refl in omega arith)
        go false f = tt
    taken (suc more) cur =
        let j = earliest ok (stop - (cur + step)) (cur + step) in
        go j (from ok (stop - (cur + step)) (cur + step)) (is_ok ok (stop - (cur + step)) (cur + step)) (ltb j stop) (ltb-true j stop) (onward ok step stop more j) (taken more j)
      where
        grown : (j : ℕ) (rest : Places) → cur + step ≤ j → ok j ≡ true → Taken more j rest → Taken (suc more) cur (before j rest)
        grown j nowhere l o t = tt
        grown j (placed is) l o t = (ap suc t.0, (l, (o, t.1)))

        go : (j : ℕ) → cur + step ≤ j → (j < cur + step + (stop - (cur + step)) → ok j ≡ true) → (b : Bool) → (b ≡ true → j < stop) → (rest : Places) → Taken more j rest → Taken (suc more) cur (cond b (before j rest) nowhere)
        go j l o true f rest t = grown j rest l (o (let h = f refl in omega arith)) t
        go j l o false f rest t = tt

    -- ---- where there is a chain from a later place, taking the earliest succeeds
    pub succeeds : (cur cur' : ℕ) (is : List ℕ) → cur ≤ cur' → Chain cur' is → Some (onward ok step stop (length is) cur)
    unfolding onward
    succeeds cur cur' [] l c = rw (le-leb step (stop - cur) (omega arith)) tt
    succeeds cur cur' (j ∷ is) l c =
        let e = earliest ok (stop - (cur + step)) (cur + step) in
        let a = c.0 in
        let z : j + step ≤ stop = closes j is c.1.1 in
        let m : e ≤ j = first ok (stop - (cur + step)) (cur + step) j (omega arith) (omega arith) c.1.0 in
        rw (lt-ltb e stop (omega arith)) (some e (onward ok step stop (length is) e) (succeeds e j is m c.1.1))
      where
        some : (i : ℕ) (rest : Places) → Some rest → Some (before i rest)
        some i nowhere h = h
        some i (placed xs) h = tt
