-- Req 04: a step and a search come out identical with any two work buffers of at least 720 entries, refused ones too (`same_step`, `same_search`); and two lists of calls
-- that are equal but for such buffers leave the same job from any job record, with the same history and the same answer at every place (`same_run`). Assumes nothing.
use mathlib.Core.Path.{◌≡◌, refl, ap, ◌∙◌}
use mathlib.Core.Logic.{◌⊎◌, inl, inr}
use mathlib.Core.List.{List, [], ◌∷◌}
use Prim.Native.Nat.{ℕ, zero, suc, ◌*◌, ◌≤◌}
use native.Mathlib.Omega.{arith}
use lib.Ieee.{Float}
use lib.ListN.{length}
use Rattle.limits.specs.Answers.{Said, value, refused}
use Rattle.gamut.specs.Table.{levels_in}
use Rattle.placement_rules.proofs.Room.{enough}
use Rattle.search_rules.specs.declared.Settings.{Settings}
use Rattle.search_rules.specs.declared.Job.{Job}
use Rattle.search_rules.specs.Job.{begun, step_checked, step_says, job_after, steps_from, search_says}
use Rattle.search_rules.specs.Runs.{Call, step, given, run, History, unstarted, since, noted, history_from, history}
use Rattle.search_rules.specs.Rooms.{LongSteps, Alike, answers_over}

-- ---- a step, and a search
module _ (short long : ℕ) (a : 720 ≤ short) (b : 720 ≤ long) where
  pub same_step : (j : Job) (t : List Float) → step_says j t short ≡ step_says j t long
  unfolding step_says step_checked
  same_step j t = rw (enough 720 short a, enough 720 long b)

  same_steps : (n : ℕ) (j : Job) (t : List Float) → steps_from n j t short ≡ steps_from n j t long
  unfolding steps_from
  same_steps zero j t = refl
  same_steps (suc n) j t = same_steps n (job_after j (step_says j t short)) t ∙ ap (λ (x : Said Job). steps_from n (job_after j x) t long) (same_step j t)

  pub same_search : (s : Settings) (t : List Float) → search_says s t short ≡ search_says s t long
  unfolding search_says
  same_search s t = rw (enough 720 short a, enough 720 long b, same_steps (levels_in t * levels_in t) (begun s (levels_in t)) t)

-- one lap, and the three that document 01 asks for
pub one_lap_as_three : (j : Job) (t : List Float) → step_says j t 720 ≡ step_says j t 2160
one_lap_as_three j t = same_step 720 2160 (omega arith) (omega arith) j t

-- ---- lists of calls
same_given : (c c' : Call) → (c ≡ c') ⊎ LongSteps c c' → (j : Job) → given c j ≡ given c' j
same_given c c' (inl e) j = ap (λ (x : Call). given x j) e
same_given c c' (inr s) j = rw (s.first_is, s.second_is) (same_step (length s.work) (length s.work') s.long s.long' j s.table)

same_noted : (c c' : Call) → (c ≡ c') ⊎ LongSteps c c' → (x : Said Job) (h : History) → noted c x h ≡ noted c' x h
same_noted c c' (inl e) x h = ap (λ (y : Call). noted y x h) e
same_noted c c' (inr s) x h = rw (s.first_is, s.second_is) (both_steps x h)
  where
    both_steps : (x : Said Job) (h : History) → noted (step s.table s.work) x h ≡ noted (step s.table s.work') x h
    both_steps (refused n) h = refl
    both_steps (value j) unstarted = refl
    both_steps (value j) (since t n) = refl

same_from : (calls calls' : List Call) → Alike calls calls' → (h : History) (j : Job) → (run calls j ≡ run calls' j) × ((history_from h calls j ≡ history_from h calls' j) × (answers_over calls j ≡ answers_over calls' j))
unfolding run history_from answers_over
same_from [] [] e h j = (refl, (refl, refl))
same_from [] (c' ∷ calls') e h j = absurd e
same_from (c ∷ calls) [] e h j = absurd e
same_from (c ∷ calls) (c' ∷ calls') e h j =
    let r = same_from calls calls' e.1 (noted c' (given c' j) h) (job_after j (given c' j)) in
    rw (same_given c c' e.0 j, same_noted c c' e.0 (given c' j) h) (r.0, (r.1.0, ap (λ (x : List (Said Job)). given c' j ∷ x) r.1.1))

pub same_run : (calls calls' : List Call) → Alike calls calls' → (j : Job) → (run calls j ≡ run calls' j) × ((history calls j ≡ history calls' j) × (answers_over calls j ≡ answers_over calls' j))
same_run calls calls' e j = same_from calls calls' e unstarted j
