-- What a pair hands out is at most the lesser of both its rows' largest entries (`pair_within`): each hue that it hands out has at least its chroma in both rows, and an entry is
-- at most its row's largest. And that lesser is itself an entry of one of the two rows (`top_entry`). Assumes nothing.
use mathlib.Core.Path.{◌≡◌, refl, sym, ap, ◌∙◌, subst}
use mathlib.Core.Logic.{◌⊎◌, inl, inr}
use mathlib.Core.Bool.{Bool, true, false, cond}
use mathlib.Core.List.{List, [], ◌∷◌}
use Prim.Native.Nat.{ℕ, suc, ◌%◌, ◌<◌}
use native.Mathlib.Nat.{mod-lt}
use native.Mathlib.Omega.{arith}
use lib.Ieee.{Float, binary32, nan, of_int, to_bits, lt, le}
use lib.ListN.{length, get_or, take}
use borrow.Author.Tests.{le-leb}
use Rattle.limits.specs.Answers.{value}
use Rattle.limits.specs.Taken.{f32_of, entry_taken, every}
use Rattle.limits.specs.Each.{Each, F32}
use Rattle.limits.proofs.HueCount.{hue_count}
use Rattle.halving.proofs.Plain.{Plain, le_plain, le_through, le_both}
use Rattle.gamut.specs.Table.{levels_in, row_at}
use Rattle.gamut.proofs.Table.{row_f32}
use Rattle.placement_rules.specs.Placing.{allowed_at, step_for, work_needed}
use Rattle.pair_rules.specs.Rows.{lesser, greater, value_at, least_row, largest_from, largest}
use Rattle.pair_rules.specs.Pair.{found, alike, lengths_taken, entries_taken}
use Rattle.pair_rules.specs.Limit.{Limit}
use Rattle.pair_rules.proofs.Rows.{least_at, least_of_one}
use Rattle.pair_rules.proofs.Choices.{zero_plain, value_plain, most_plain, value_most}
use Rattle.pair_rules.proofs.Promise.{best_is_limit, what_is_handed}
use Rattle.search_rules.specs.declared.Job.{Job}
use Rattle.search_rules.specs.Job.{unbroken, floor_of, pair_best}
use Rattle.search_rules.proofs.Unbroken.{sound}
use Rattle.search_rules.proofs.Floor.{BestF32, floor_f32, floor_from, chroma_plain}
use Rattle.search_rules.proofs.Rows.{Good, long, taken, rows_f32, pair_says_lem}
use Rattle.ceiling_rules.specs.Ceiling.{top_at}
use Rattle.ceiling_rules.specs.Meant.{Entry}

-- ---- one row
-- the largest from a number on is that number or one of the values
from_or_entry : (so : Float) (xs : List Float) → (largest_from so xs ≡ so) ⊎ ((i : ℕ) × ((i < length xs) × (get_or xs i nan ≡ largest_from so xs)))
unfolding largest_from greater
from_or_entry so [] = inl refl
from_or_entry so (x ∷ xs) = go (lt so x) (λ (y : Float). from_or_entry y xs)
  where
    go : (b : Bool) → ((y : Float) → (largest_from y xs ≡ y) ⊎ ((i : ℕ) × ((i < length xs) × (get_or xs i nan ≡ largest_from y xs))))
        → (largest_from (cond b x so) xs ≡ so) ⊎ ((i : ℕ) × ((i < suc (length xs)) × (get_or (x ∷ xs) i nan ≡ largest_from (cond b x so) xs)))
    go false rest = elim (rest so) [ inl e ↦ inl e | inr (i, (h, e)) ↦ inr (suc i, (omega arith, e)) ]
    go true rest = elim (rest x) [ inl e ↦ inr (0, (omega arith, sym e)) | inr (i, (h, e)) ↦ inr (suc i, (omega arith, e)) ]

zero_bits : to_bits binary32 (f32_of 0) ≡ 0
unfolding to_bits of_int
zero_bits = refl

module _ (row : List Float) (whole : length row ≡ 720) (each_taken : every entry_taken row ≡ true) (f32 : Each F32 row) where
  lengths : lengths_taken (row ∷ []) ≡ true
  unfolding lengths_taken alike
  lengths = rw whole

  entries : entries_taken (row ∷ []) ≡ true
  unfolding entries_taken
  entries = rw each_taken

  pub largest_plain : Plain (largest row)
  largest_plain = subst (λ (r : List Float). Plain (largest r)) (least_of_one row) (most_plain (row ∷ []) lengths entries (f32, tt))

  -- an entry is that of the one row's least row
  entry_is : (i : ℕ) → i < 720 → value_at (row ∷ []) i ≡ get_or row i nan
  entry_is i h = sym (least_at (row ∷ []) i (omega arith)) ∙ ap (λ (r : List Float). get_or r i nan) (least_of_one row)

  pub entry_plain : (i : ℕ) → i < 720 → Plain (get_or row i nan)
  entry_plain i h = subst Plain (entry_is i h) (value_plain (row ∷ []) lengths entries (f32, tt) i (omega arith))

  entry_most : (i : ℕ) → i < 720 → le (get_or row i nan) (largest row) ≡ true
  entry_most i h = subst (λ (r : List Float). le (get_or row i nan) (largest r) ≡ true) (least_of_one row) (subst (λ (x : Float). le x (largest (least_row (row ∷ []))) ≡ true) (entry_is i h) (value_most (row ∷ []) lengths entries (f32, tt) i (omega arith)))

  zero_least : (i : ℕ) → i < 720 → le (f32_of 0) (get_or row i nan) ≡ true
  zero_least i h = let z = zero_bits in le_plain (f32_of 0) (get_or row i nan) zero_plain (entry_plain i h) ∙ le-leb (to_bits binary32 (f32_of 0)) (to_bits binary32 (get_or row i nan)) (omega arith)

  -- the largest is an entry: where all are 0, any
  pub largest_entry : (i : ℕ) × ((i < 720) × (get_or row i nan ≡ largest row))
  unfolding largest
  largest_entry = elim (from_or_entry (f32_of 0) row) [
    | inl e ↦ (0, (omega arith, le_both (get_or row 0 nan) (largest row) (entry_plain 0 (omega arith)) largest_plain (entry_most 0 (omega arith)) (subst (λ (x : Float). le x (get_or row 0 nan) ≡ true) (sym e) (zero_least 0 (omega arith)))))
    | inr (i, (h, e)) ↦ (i, (omega arith, e))
  ]

  -- a hue that is allowed at c has an entry of at least c, and that is at most the largest
  pub allowed_within : (c : Float) → Plain c → (i : ℕ) → allowed_at row c i ≡ true → le c (largest row) ≡ true
  unfolding allowed_at
  allowed_within c C i a =
      let at = i % length row in
      let h : at < length row = mod-lt i (omega arith) in
      let in_row : at < 720 = omega arith in
      le_through c (get_or row at nan) (largest row) C (entry_plain at in_row) largest_plain a (entry_most at in_row)

-- ---- two rows
-- what holds of two holds of the one that a test picks
pub of_either : {A : Type 0} (P : A → Type 0) (b : Bool) (x y : A) → P x → P y → P (cond b x y)
of_either P true x y p q = p
of_either P false x y p q = q

of_lesser : (P : Float → Type 0) (x y : Float) → P x → P y → P (lesser x y)
unfolding lesser
of_lesser P x y p q = of_either P (lt y x) y x q p

module _ (t : List Float) (good : Good t) (d l : ℕ) (D : d < levels_in t) (L : l < levels_in t) where
  row_plain : (i : ℕ) → i < levels_in t → Plain (largest (row_at t i))
  row_plain i h = largest_plain (row_at t i) (long t good i h) (taken t good i) (row_f32 t i good.entries_f32)

  pub top_plain : Plain (top_at t d l)
  unfolding top_at
  top_plain = of_lesser Plain (largest (row_at t d)) (largest (row_at t l)) (row_plain d D) (row_plain l L)

  row_entry : (i : ℕ) → i < levels_in t → Entry t (largest (row_at t i))
  row_entry i h = (i, (h, largest_entry (row_at t i) (long t good i h) (taken t good i) (row_f32 t i good.entries_f32)))

  pub top_entry : Entry t (top_at t d l)
  unfolding top_at
  top_entry = of_lesser (Entry t) (largest (row_at t d)) (largest (row_at t l)) (row_entry d D) (row_entry l L)

  -- what the pair hands out, from the floor of a job that is not broken
  pub pair_within : (j : Job) → unbroken j ≡ true → BestF32 j.best → (c : Float) (hues : List ℕ) → pair_best j t d l ≡ found c hues → (F32 c) × (Plain c) × (le c (top_at t d l) ≡ true)
  unfolding top_at
  pair_within j u f32 c hues e =
      let k = j.settings.k in
      let rows = row_at t d ∷ row_at t l ∷ [] in
      let says = pair_says_lem t good d l D L j u ∙ ap value e in
      let floor = floor_of j.best in
      let limit : Limit k (step_for k) rows c hues = best_is_limit k (step_for k) floor rows (work_needed 720) (floor_f32 j.best f32) (rows_f32 t good d l D L) c hues (floor_from j.levels j.best (sound j u).best_held_lem) says in
      let handed = what_is_handed k (step_for k) floor rows (work_needed 720) (floor_f32 j.best f32) (rows_f32 t good d l D L) c hues says in
      let C : Plain c = (chroma_plain c handed.f32_is handed.in_range).0 in
      let some = (hue_count k (sound j u).hue_count_taken_lem).0 in
      let first = get_or (take k hues) 0 0 in (
        handed.f32_is,
        C,
        of_lesser (λ (x : Float). le c x ≡ true) (largest (row_at t d)) (largest (row_at t l))
            (allowed_within (row_at t d) (long t good d D) (taken t good d) (row_f32 t d good.entries_f32) c C first (limit.placed.0.allowed 0 (omega arith)))
            (allowed_within (row_at t l) (long t good l L) (taken t good l) (row_f32 t l good.entries_f32) c C first (limit.placed.1.0.allowed 0 (omega arith))),
      )
