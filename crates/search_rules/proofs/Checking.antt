-- The checks of a start, over its test of the gap, and of a step as lists, in the order in which they are made, what those of a step say where all pass, and what a step then
-- says of its pair (`searched_is`). Assumes nothing.
use mathlib.Core.Path.{◌≡◌, refl, ap}
use mathlib.Core.Bool.{Bool, true, ◌&&◌, cond}
use mathlib.Core.List.{List, [], ◌∷◌}
use Prim.Native.Nat.{ℕ, ◌*◌, ◌≤◌, ◌<◌}
use lib.Dec.{leb, ltb, eqb}
use lib.Ieee.{Float}
use borrow.Author.Tests.{leb-true, ltb-true, eqb-true, le-leb, lt-ltb, eq-eqb}
use Rattle.limits.specs.Answers.{Said, value, refused}
use Rattle.limits.specs.Taken.{hue_count_taken, entry_taken, every}
use Rattle.limits.proofs.Checks.{Check, check, AllPass}
use Rattle.gamut.specs.Table.{row_at, table_taken}
use Rattle.placement_rules.specs.Placing.{work_needed}
use Rattle.pair_rules.specs.Pair as pair
use Rattle.search_rules.specs.declared.Settings.{Settings}
use Rattle.search_rules.specs.declared.Job.{Job}
use Rattle.search_rules.specs.Job.{unbroken, qualifies, moved_on, after_pair, pair_best, searched, job_after}

abbrev pub start_checks : (Float → Bool) → Settings → List Float → List Check
start_checks gaps s table = check (hue_count_taken s.k) 1 ∷ check (gaps s.gap) 2 ∷ check (table_taken table) 6 ∷ check (every entry_taken table) 7 ∷ []

abbrev pub step_checks : Job → ℕ → ℕ → List Check
step_checks j size room = check (unbroken j) 15 ∷ check (ltb j.position (j.levels * j.levels)) 14 ∷ check (eqb size (j.levels * 720)) 6 ∷ check (leb (work_needed 720) room) 8 ∷ []

-- what a step that is not refused by 15, 14, 6 or 8 stands on
pub record StepPassed (j : Job) (size room : ℕ) : Type 0 where
  pub sound : unbroken j ≡ true
  pub unfinished : j.position < j.levels * j.levels
  pub whole : size ≡ j.levels * 720
  pub room_enough : work_needed 720 ≤ room

module _ (j : Job) (size room : ℕ) where
  pub step_passed : AllPass (step_checks j size room) → StepPassed j size room
  step_passed t = record {
    sound = t.0;
    unfinished = ltb-true j.position (j.levels * j.levels) t.1.0;
    whole = eqb-true size (j.levels * 720) t.1.1.0;
    room_enough = leb-true (work_needed 720) room t.1.1.1.0;
  }

  pub step_passes : StepPassed j size room → AllPass (step_checks j size room)
  step_passes p = (p.sound, (lt-ltb j.position (j.levels * j.levels) p.unfinished, (eq-eqb size (j.levels * 720) p.whole, (le-leb (work_needed 720) room p.room_enough, tt))))

-- ---- what a step says of a pair of levels, by whether it qualifies, whether its two rows are taken, and what its best is
abbrev pub both_rows : List Float → ℕ → ℕ → Bool
both_rows t d l = every entry_taken (row_at t d) && every entry_taken (row_at t l)

abbrev pub goes_on : Job → ℕ → ℕ → Bool → Bool → pair.Best → Said Job
goes_on j d l q e best = cond q (cond e (value (after_pair j d l best)) (refused 7)) (value (moved_on j))

pub searched_is : (j : Job) (t : List Float) (d l : ℕ) → searched j t d l ≡ goes_on j d l (qualifies j.settings d l) (both_rows t d l) (pair_best j t d l)
unfolding searched
searched_is j t d l = refl

-- an accepted call leaves its new job
pub leaves : (j new : Job) (said : Said Job) → said ≡ value new → job_after j said ≡ new
leaves j new said e = ap (job_after j) e
