-- The levels named, one after the other: the tests of all of them (`all_indices`, `all_rows`), each of them (`level_of`). Assumes nothing.
use mathlib.Core.Path.{◌≡◌, refl, sym, ap, ◌∙◌, subst}
use mathlib.Core.Bool.{false}
use mathlib.Core.List.{List, [], ◌∷◌, ◌++◌}
use Prim.Native.Nat.{ℕ, suc, ◌+◌, ◌<◌}
use lib.Dec.{ltb}
use native.Mathlib.Omega.{arith}
use lib.Ieee.{Float, nan, inf}
use lib.ListN.{length, get_or, get_or-replicate, length-append}
use lib.Seq.{get_or-append_seam}
use Rattle.std.specs.List.{list_all}
use Rattle.std.proofs.Common.{append_assoc}
use Rattle.std.proofs.lemmas.List.{append-nil, get_or_default}
use Rattle.limits.specs.Taken.{entry_taken, every}
use Rattle.gamut.specs.Table.{levels_in, row_at}
use Rattle.gamut.proofs.Table.{row_long}
use Rattle.pair_rules.specs.Rows.{lesser, least, value_at, ring_length, least_row}
use Rattle.pair_rules.specs.Pair.{entries_taken}
use Rattle.pair_rules.proofs.Choices.{each_at}
use Rattle.pair_rules.proofs.Rows.{least_is}
use Rattle.level_set_rules.specs.Set.{rows_at, indices_taken}
use Rattle.level_set_rules.proofs.Named.{first_row}
use Rattle.level_set.specs.Inner.{LevelOf, Named, Endless, Lowered}

pub all_indices : (n : ℕ) (levels : List ℕ) → list_all (λ l. ltb l n) levels ≡ indices_taken n levels
unfolding indices_taken
all_indices n [] = refl
all_indices n (l ∷ levels) = rw (all_indices n levels)

pub all_rows : (t : List Float) (levels : List ℕ) → list_all (λ l. every entry_taken (row_at t l)) levels ≡ entries_taken (rows_at t levels)
unfolding entries_taken
all_rows t [] = refl
all_rows t (l ∷ levels) = rw (all_rows t levels)

-- each of them is a level of the table
pub level_of : (t : List Float) (levels : List ℕ) → Named t levels → (level i : ℕ) → i < length levels → level ≡ get_or levels i level → LevelOf t level
level_of t levels named level i at is =
    record { long = named.long; few_levels = named.few_levels; within = subst (λ (l : ℕ). l < levels_in t) (get_or_default levels i 0 level at ∙ sym is) (each_at (λ (l : ℕ). l < levels_in t) levels named.within i at) }

-- ---- from the last one on: those that are behind, and at each hue their value
pub record Behind (t : List Float) (levels left : List ℕ) (row : List Float) : Type 0 where
  pub behind : List ℕ
  pub split : levels ≡ left ++ behind
  pub long : length row ≡ 720
  pub values : (h : ℕ) → h < 720 → get_or row h nan ≡ value_at (rows_at t behind) h

module _ (t : List Float) (levels : List ℕ) where
  pub none_behind : (left : List ℕ) (row : List Float) → left ≡ levels → Endless row → Behind t levels left row
  unfolding value_at least
  none_behind left row a e = record { behind = []; split = sym (append-nil left ∙ a); long = ap length e; values = λ (h : ℕ) (u : h < 720). ap (λ (x : List Float). get_or x h nan) e ∙ get_or-replicate 720 h (inf false) nan u }

  -- one more
  module _ (left rest : List ℕ) (row : List Float) (level : ℕ) (b : Behind t levels left row) (step : left ≡ rest ++ (level ∷ [])) where
    split : levels ≡ rest ++ (level ∷ b.behind)
    split = b.split ∙ ap (λ (ls : List ℕ). ls ++ b.behind) step ∙ append_assoc rest (level ∷ []) b.behind

    pub next_long : Named t levels → length (row_at t level) ≡ 720
    next_long named =
        let long : length levels ≡ length rest + suc (length b.behind) = ap length split ∙ length-append rest (level ∷ b.behind) in
        let is : level ≡ get_or levels (length rest) level = sym (ap (λ (ls : List ℕ). get_or ls (length rest) level) split ∙ get_or-append_seam rest level b.behind level) in
        row_long t (levels_in t) level named.long (level_of t levels named level (length rest) (omega arith) is).within

    pub next_behind : (next : List Float) → Lowered (row_at t level) row next → Behind t levels rest next
    unfolding value_at least
    next_behind next low = record { behind = level ∷ b.behind; split = split; long = low.long ∙ b.long; values = values }
      where
        values : (h : ℕ) → h < 720 → get_or next h nan ≡ value_at (rows_at t (level ∷ b.behind)) h
        values h u = low.at h (omega (arith, b.long)) ∙ ap (lesser (get_or (row_at t level) h nan)) (b.values h u)

  pub all_behind : Named t levels → (left : List ℕ) (row : List Float) → length left ≡ 0 → Behind t levels left row → row ≡ least_row (rows_at t levels)
  all_behind named [] row e b =
      let ring = first_row t named.long levels named.some_level named.within in
      least_is (rows_at t levels) row (b.long ∙ sym ring)
      (λ (h : ℕ) (u : h < ring_length (rows_at t levels)). b.values h (omega (arith, ring)) ∙ ap (λ (ls : List ℕ). value_at (rows_at t ls) h) (sym b.split))
  all_behind named (l ∷ left) row e b = absurd (omega arith)
