-- What a start and a step say by what their checks found: all pass, or the first that fails. Assumes nothing.
use mathlib.Core.Path.{◌≡◌, refl}
use mathlib.Core.List.{List}
use Prim.Native.Nat.{ℕ}
use lib.Ieee.{Float}
use Rattle.std.specs.Prelude.{Ok, Err}
use Rattle.limits.specs.Answers.{Said, refused, pass}
use Rattle.limits.specs.Refusals.{number, said}
use Rattle.limits.specs.declared.Refusal.{Refusal}
use Rattle.limits.proofs.Checks.{passed, fine, wrong}
use Rattle.gamut.proofs.Table.{Levelled, levelled}
use Rattle.search_rules.specs.declared.Settings.{Settings}
use Rattle.search_rules.specs.declared.Job.{Job}
use Rattle.search_rules.specs.Job.{gap_starts, start_checked_by, start_checked, step_checked}
use Rattle.search_rules.proofs.Checking.{start_checks, step_checks, StepPassed, step_passed}

-- ---- a start
module _ (s : Settings) (table : List Float) where
  pub start_fine : {A : Type 0} (x : Said A) → said (Ok tt) ≡ start_checked s table pass → start_checked s table x ≡ x
  unfolding start_checked_by
  start_fine x told = fine (start_checks gap_starts s table) (Ok tt) told x refl

  pub start_wrong : {A : Type 0} (x : Said A) (w : Refusal) → said (Err w) ≡ start_checked s table pass → start_checked s table x ≡ refused (number w)
  unfolding start_checked_by
  start_wrong x w told = wrong (start_checks gap_starts s table) (Err w) told x w refl

  pub start_levels : said (Ok tt) ≡ start_checked s table pass → Levelled table
  unfolding start_checked_by
  start_levels told = levelled table (passed (start_checks gap_starts s table) (Ok tt) told refl).1.1.0

-- ---- a step
module _ (j : Job) (size room : ℕ) where
  pub step_fine : {A : Type 0} (x : Said A) → said (Ok tt) ≡ step_checked j size room pass → step_checked j size room x ≡ x
  unfolding step_checked
  step_fine x told = fine (step_checks j size room) (Ok tt) told x refl

  pub step_wrong : {A : Type 0} (x : Said A) (w : Refusal) → said (Err w) ≡ step_checked j size room pass → step_checked j size room x ≡ refused (number w)
  unfolding step_checked
  step_wrong x w told = wrong (step_checks j size room) (Err w) told x w refl

  pub step_known : said (Ok tt) ≡ step_checked j size room pass → StepPassed j size room
  unfolding step_checked
  step_known told = step_passed j size room (passed (step_checks j size room) (Ok tt) told refl)
