-- What is said of a call, by its step and its checks (`declined`, `refusing`, `passing`), and of one that is taken by the row of least values: the best of that one row from a floor of 0
-- where its largest is above 0, and none else (`something`, `nothing`). Assumes nothing.
use mathlib.Core.Path.{◌≡◌, refl, sym, ap, ◌∙◌}
use mathlib.Core.Bool.{Bool, true, false, cond}
use mathlib.Core.List.{List, [], ◌∷◌}
use Prim.Native.Nat.{ℕ}
use lib.Ieee.{Float, lt}
use lib.ListN.{length}
use Rattle.std.specs.Prelude.{Option, Result}
use Rattle.limits.specs.Answers.{Said, value, refused, pass}
use Rattle.limits.specs.Taken.{f32_of, hue_count_taken}
use Rattle.limits.specs.declared.Refusal.{Refusal}
use Rattle.limits.proofs.Checks.{differ, all_pass, said, failing}
use Rattle.placement_rules.specs.Placing.{step_for, step_says}
use Rattle.pair_rules.specs.declared.Chosen.{Chosen}
use Rattle.pair_rules.specs.Rows.{least_row, largest}
use Rattle.pair_rules.specs.Pair.{Best, none, best_over, lengths_taken, alike, entries_taken, rows_say, Gives}
use Rattle.pair_rules.proofs.Rows.{least_long, least_of_one, least_taken}
use Rattle.pair_rules.proofs.Gaps.{gives_same}
use Rattle.level_set_rules.specs.Set.{rows_at, set_over, named_checked, set_checked, set_says}
use Rattle.level_set_rules.specs.Meant.{SetTaken}
use Rattle.level_set_rules.proofs.Accepted.{named_checks, in_words}
use Rattle.level_set_rules.proofs.Named.{rows_say_lem, ring, lengths, entries}
use Rattle.level_set_rules.proofs.Set.{over_some, over_none}

-- ---- by the step
module _ (k : ℕ) (t : List Float) (levels : List ℕ) (room : ℕ) where
  abbrev over : Best
  over = set_over k (least_row (rows_at t levels))

  -- there is none: the hue count is refused
  pub declined : (n : ℕ) → refused n ≡ step_says k → set_says k t levels room ≡ refused n
  unfolding set_says set_checked step_says
  declined n h = go (hue_count_taken k) h
    where
      go : (b : Bool) → refused n ≡ cond b (value (step_for k)) (refused 1) → cond b (named_checked t levels room (value over)) (refused 1) ≡ refused n
      go true h = differ n (step_for k) h
      go false h = let same : ◌≡◌ {A = ℕ} 1 n = cc in ap refused same

  -- there is one: it is the step for k, and the other checks are left
  module _ (step : ℕ) (is : value step ≡ step_says k) where
    pub has_step : (hue_count_taken k ≡ true) × (step ≡ step_for k)
    unfolding step_says
    has_step = go (hue_count_taken k) refl is
      where
        go : (b : Bool) → hue_count_taken k ≡ b → value step ≡ cond b (value (step_for k)) (refused 1) → (b ≡ true) × (step ≡ step_for k)
        go true e h = (refl, cc)
        go false e h = differ 1 step (sym h)

    left : set_says k t levels room ≡ named_checked t levels room (value over)
    unfolding set_says set_checked
    left = rw has_step.0

    pub refusing : (n : ℕ) → refused n ≡ named_checked t levels room pass → set_says k t levels room ≡ refused n
    unfolding named_checked
    refusing n h = left ∙ failing (named_checks k t levels room) (value over) tt n (sym h)

    module _ (checked : value tt ≡ named_checked t levels room pass) where
      pub passing : set_says k t levels room ≡ value over
      unfolding named_checked
      passing = left ∙ said (named_checks k t levels room) (value over) (all_pass (named_checks k t levels room) pass tt (sym checked)).0

      pub taken : SetTaken k t levels room
      unfolding named_checked
      taken = in_words k t levels room has_step.0 (all_pass (named_checks k t levels room) pass tt (sym checked)).0

-- ---- by the row of least values
module _ (k step : ℕ) (t : List Float) (levels : List ℕ) (room : ℕ) (taken : SetTaken k t levels room) (row : List Float) (is : row ≡ least_row (rows_at t levels)) where
  abbrev rows : List (List Float)
  rows = rows_at t levels

  abbrev least : List Float
  least = least_row rows

  long : length least ≡ 720
  long = least_long rows ∙ ring k t levels room taken

  -- what is handed back over the row is handed back over the circle
  pub given_round : {r : Result (Option Chosen) Refusal} {x y : Said Best} → x ≡ y → Gives (length row) k r x → Gives 720 k r y
  given_round e g = gives_same (ap length is ∙ long) e g

  one_length : lengths_taken (least ∷ []) ≡ true
  unfolding lengths_taken alike
  one_length = rw long

  one_entries : entries_taken (least ∷ []) ≡ true
  unfolding entries_taken
  one_entries = rw (least_taken rows (lengths k t levels room taken) (entries k t levels room taken))

  -- the best of that row alone
  alone : step ≡ step_for k → rows_say k step (f32_of 0) (row ∷ []) room ≡ value (best_over k (step_for k) (f32_of 0) least)
  alone for = rw (is, for) (rows_say_lem k (least ∷ []) room taken.hue_count long one_length one_entries taken.room_enough ∙ ap (λ (x : List Float). value (best_over k (step_for k) (f32_of 0) x)) (least_of_one least))

  pub something : step ≡ step_for k → (most : Float) → most ≡ largest row → lt (f32_of 0) most ≡ true → rows_say k step (f32_of 0) (row ∷ []) room ≡ value (set_over k least)
  something for most e h = alone for ∙ sym (ap value (over_some k least (ap (λ (x : List Float). lt (f32_of 0) (largest x)) (sym is) ∙ ap (lt (f32_of 0)) (sym e) ∙ h)))

  pub nothing : (most : Float) → most ≡ largest row → lt (f32_of 0) most ≡ false → value none ≡ value (set_over k least)
  nothing most e h = sym (ap value (over_none k least (ap (λ (x : List Float). lt (f32_of 0) (largest x)) (sym is) ∙ ap (lt (f32_of 0)) (sym e) ∙ h)))
