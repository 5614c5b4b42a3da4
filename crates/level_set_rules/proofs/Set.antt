-- What the best of a set of levels means, for a table of f32. A chroma that is found is near the limit of the rows named (`set_is_near`, and by fractions
-- `set_by_fractions`); an accepted call says none exactly when no hue has a value above 0 (`none_exactly`); and where some hue has, it says what the rows say from a floor
-- of 0, as a pair of them does (`set_of_two`). Assumes nothing.
use mathlib.Core.Path.{◌≡◌, refl, sym, ap, ◌∙◌, subst}
use mathlib.Core.Logic.{◌⊎◌, inl, inr, ◌↔◌}
use mathlib.Core.Bool.{Bool, true, false, cond}
use mathlib.Core.List.{List, [], ◌∷◌}
use Prim.Native.Nat.{ℕ, suc, ◌+◌, ◌*◌, ◌^◌, ◌≤◌, ◌<◌}
use native.Mathlib.Omega.{arith}
use lib.Ieee.{Float, nan, binary32, to_bits, of_int, lt, le}
use lib.Ieee.Exact.{HasValue}
use lib.ListN.{length, get_or}
use borrow.Author.Tests.{leb-true, ltb-true, lt-ltb}
use Rattle.limits.specs.Answers.{value}
use Rattle.limits.specs.Taken.{f32_of}
use Rattle.limits.specs.Each.{Each, F32}
use Rattle.limits.proofs.Floats.{never}
use Rattle.limits.proofs.HueCount.{count_taken}
use Rattle.halving.proofs.Plain.{Plain, le_plain, lt_plain}
use Rattle.gamut.specs.Table.{row_at}
use Rattle.placement_rules.specs.Placing.{step_for}
use Rattle.pair_rules.specs.Rows.{greater, value_at, ring_length, least_row, largest_from, largest, common}
use Rattle.pair_rules.specs.Pair.{none, found, best_over, pair_says}
use Rattle.pair_rules.specs.Limit.{Hues, Near}
use Rattle.pair_rules.proofs.Evenly.{evenly, some_hues}
use Rattle.pair_rules.proofs.Rows.{least_long, least_at}
use Rattle.pair_rules.proofs.Choices.{value_plain, most_plain, value_most, common_plain, zero_plain}
use Rattle.pair_rules.proofs.Promise.{best_is_near, near_by_fractions, none_is_none}
use Rattle.level_set_rules.specs.Set.{rows_at, set_over, set_says}
use Rattle.level_set_rules.specs.Meant.{NoneAbove, SomeAbove, SetTaken}
use Rattle.level_set_rules.proofs.Accepted.{set_only, set_given}
use Rattle.level_set_rules.proofs.Named.{zero_f32, rows_f32, ring, lengths, entries, as_rows}

-- ---- the best over a row, by whether a value is above 0
module _ (k : ℕ) (row : List Float) where
  pub over_some : lt (f32_of 0) (largest row) ≡ true → set_over k row ≡ best_over k (step_for k) (f32_of 0) row
  unfolding set_over
  over_some h = ap (λ (b : Bool). cond b (best_over k (step_for k) (f32_of 0) row) none) h

  pub over_none : lt (f32_of 0) (largest row) ≡ false → set_over k row ≡ none
  unfolding set_over
  over_none h = ap (λ (b : Bool). cond b (best_over k (step_for k) (f32_of 0) row) none) h

  over_found : (c : Float) (hues : List ℕ) → set_over k row ≡ found c hues → best_over k (step_for k) (f32_of 0) row ≡ found c hues
  over_found c hues h = go (lt (f32_of 0) (largest row)) refl
    where
      go : (b : Bool) → lt (f32_of 0) (largest row) ≡ b → best_over k (step_for k) (f32_of 0) row ≡ found c hues
      go true e = sym (over_some e) ∙ h
      go false e = let z : none ≡ found c hues = sym (over_none e) ∙ h in absurd (let w : ◌≡◌ {A = ℕ} 0 1 = cc in omega arith)

-- ---- what is above 0
zero_bits : to_bits binary32 (f32_of 0) ≡ 0
unfolding of_int to_bits
zero_bits = refl

-- a number above another that is above 0
above_through : (x y : Float) → Plain x → Plain y → lt (f32_of 0) x ≡ true → le x y ≡ true → lt (f32_of 0) y ≡ true
above_through x y X Y h l =
    let a : to_bits binary32 (f32_of 0) < to_bits binary32 x = ltb-true (to_bits binary32 (f32_of 0)) (to_bits binary32 x) (sym (lt_plain (f32_of 0) x zero_plain X) ∙ h) in
    let b : to_bits binary32 x ≤ to_bits binary32 y = leb-true (to_bits binary32 x) (to_bits binary32 y) (sym (le_plain x y X Y) ∙ l) in
    lt_plain (f32_of 0) y zero_plain Y ∙ lt-ltb (to_bits binary32 (f32_of 0)) (to_bits binary32 y) (omega arith)

-- none is below 0
not_below : (x : Float) → Plain x → lt x (f32_of 0) ≡ true → ⊥
not_below x X h =
    let e = zero_bits in
    let a : to_bits binary32 x < to_bits binary32 (f32_of 0) = ltb-true (to_bits binary32 x) (to_bits binary32 (f32_of 0)) (sym (lt_plain x (f32_of 0) X zero_plain) ∙ h) in
    omega arith

-- where the largest of some is above 0, one of them is
abbrev Some : List Float → Type 0
Some xs = (i : ℕ) × ((i < length xs) × (lt (f32_of 0) (get_or xs i nan) ≡ true))

from_some : (so : Float) (xs : List Float) → lt (f32_of 0) (largest_from so xs) ≡ true → (lt (f32_of 0) so ≡ true) ⊎ Some xs
unfolding largest_from greater
from_some so [] h = inl h
from_some so (x ∷ xs) h = go (lt so x) (from_some (cond (lt so x) x so) xs h)
  where
    go : (b : Bool) → (lt (f32_of 0) (cond b x so) ≡ true) ⊎ Some xs → (lt (f32_of 0) so ≡ true) ⊎ Some (x ∷ xs)
    go true (inl e) = inr (0, (omega arith, e))
    go false (inl e) = inl e
    go b (inr s) = let u = s.1.0 in inr (suc s.0, (omega arith, s.1.1))

not_itself : lt (f32_of 0) (f32_of 0) ≡ false
unfolding lt of_int
not_itself = refl

largest_some : (xs : List Float) → lt (f32_of 0) (largest xs) ≡ true → Some xs
unfolding largest
largest_some xs h = elim (from_some (f32_of 0) xs h) [ inl e ↦ never (sym not_itself ∙ e) | inr s ↦ s ]

-- ---- a call that is accepted, over a table of f32
module _ (k : ℕ) (t : List Float) (levels : List ℕ) (room : ℕ) (f32 : Each F32 t) where
  abbrev rows : List (List Float)
  rows = rows_at t levels

  abbrev row : List Float
  row = least_row rows

  module _ (taken : SetTaken k t levels room) where
    -- some value is above 0 exactly when the largest is
    some_most : SomeAbove t levels → lt (f32_of 0) (largest row) ≡ true
    some_most s =
        let i = s.0 in
        let u : i < ring_length rows = subst (λ (n : ℕ). i < n) (sym (ring k t levels room taken)) s.1.0 in
        let L = lengths k t levels room taken in
        let E = entries k t levels room taken in
        let F = rows_f32 t levels f32 in
        above_through (value_at rows i) (largest row) (value_plain rows L E F i u) (most_plain rows L E F) s.1.1 (value_most rows L E F i u)

    most_some : lt (f32_of 0) (largest row) ≡ true → SomeAbove t levels
    most_some h =
        let s = largest_some row h in
        let u : s.0 < ring_length rows = let e = least_long rows in let l = s.1.0 in omega arith in
        (s.0, (subst (λ (n : ℕ). s.0 < n) (ring k t levels room taken) u, ap (lt (f32_of 0)) (sym (least_at rows s.0 u)) ∙ s.1.1))

    -- from a floor of 0 something is found
    never_none : best_over k (step_for k) (f32_of 0) row ≡ none → ⊥
    never_none h =
        let below = none_is_none k (step_for k) (f32_of 0) rows room zero_f32 (rows_f32 t levels f32) (as_rows k t levels room taken ∙ ap value h) in
        let some = subst (λ (n : ℕ). Hues n k (step_for k) (evenly (step_for k) k 0)) (sym (ring k t levels room taken)) (some_hues k (count_taken k taken.hue_count)) in
        not_below (common rows (evenly (step_for k) k 0))
        (common_plain rows (lengths k t levels room taken) (entries k t levels room taken) (rows_f32 t levels f32) k (step_for k) (evenly (step_for k) k 0) taken.hue_count.0 some)
        (below (evenly (step_for k) k 0) some)

    -- where some hue has a value above 0, what is said is what the rows say from a floor of 0
    pub set_of_rows : SomeAbove t levels → set_says k t levels room ≡ value (best_over k (step_for k) (f32_of 0) row)
    set_of_rows s = set_given k t levels room taken ∙ ap value (over_some k row (some_most s))

    pub none_exactly : (set_says k t levels room ≡ value none) ↔ NoneAbove t levels
    none_exactly = (none_said, none_meant)
      where
        none_said : set_says k t levels room ≡ value none → NoneAbove t levels
        none_said h i u above =
            let e = (set_only k t levels room none h).1 in
            never_none (sym (over_some k row (some_most (i, (u, above)))) ∙ e)

        none_meant : NoneAbove t levels → set_says k t levels room ≡ value none
        none_meant h = set_given k t levels room taken ∙ ap value (go (lt (f32_of 0) (largest row)) refl)
          where
            go : (b : Bool) → lt (f32_of 0) (largest row) ≡ b → set_over k row ≡ none
            go false e = over_none k row e
            go true e = let s = most_some e in absurd (h s.0 s.1.0 s.1.1)

  -- ---- a chroma that is found
  module _ (c : Float) (hues : List ℕ) (says : set_says k t levels room ≡ value (found c hues)) where
    accepted : SetTaken k t levels room
    accepted = (set_only k t levels room (found c hues) says).0

    best : best_over k (step_for k) (f32_of 0) row ≡ found c hues
    best = over_found k row c hues (set_only k t levels room (found c hues) says).1

    pub set_is_near : (ring_length rows ≡ 720) × Near k (step_for k) rows c hues
    set_is_near = (ring k t levels room accepted, best_is_near k (step_for k) (f32_of 0) rows room zero_f32 (rows_f32 t levels f32) c hues (as_rows k t levels room accepted ∙ ap value best))

    -- "Of all placements, none has a common chroma more than 2^-15 above the answer.": where k other hues have a / d in common and c is b / d
    pub set_by_fractions : (others : List ℕ) → Hues 720 k (step_for k) others → (a b d : ℕ) → 0 < d → HasValue (common rows others) false a d → HasValue c false b d → a * 2 ^ 15 ≤ b * 2 ^ 15 + d
    set_by_fractions others s =
        near_by_fractions k (step_for k) (f32_of 0) rows room zero_f32 (rows_f32 t levels f32) c hues (as_rows k t levels room accepted ∙ ap value best) others (subst (λ (n : ℕ). Hues n k (step_for k) others) (sym (ring k t levels room accepted)) s)

-- two levels: what the pair of their rows says from a floor of 0
pub set_of_two : (k : ℕ) (t : List Float) (d l room : ℕ) → Each F32 t → SetTaken k t (d ∷ l ∷ []) room → SomeAbove t (d ∷ l ∷ [])
    → set_says k t (d ∷ l ∷ []) room ≡ pair_says k (step_for k) (f32_of 0) (row_at t d) (row_at t l) room
set_of_two k t d l room f32 taken s = set_of_rows k t (d ∷ l ∷ []) room f32 taken s ∙ sym (as_rows k t (d ∷ l ∷ []) room taken)
