-- The auditor's questions. After any list of start and step calls over one table in which, since the last accepted start, every pair was gone through, what the job hands out is
-- the limit of the table for that start's settings to within one f32, and its none means that none exists (`stepped_is_limit`). So it is for `search`, which is such a list
-- (`search_is_limit`), and for the job after any list, once it is run to its end (`run_to_end_is_limit`), a kept one among them (`kept_is_limit`). All are demand 3 where no
-- pair is left. Assumes nothing.
use mathlib.Core.Path.{◌≡◌, sym, ◌∙◌, subst}
use mathlib.Core.List.{List, ◌∷◌, ◌++◌}
use Prim.Native.Nat.{ℕ, suc, ◌+◌, ◌*◌, ◌≤◌, ◌<◌}
use native.Mathlib.Nat.{suc-mul, mul-le-mul_right}
use native.Mathlib.Omega.{arith}
use lib.Ieee.{Float}
use lib.ListN.{length}
use Rattle.limits.specs.Answers.{value}
use Rattle.limits.specs.Each.{Each, F32}
use Rattle.limits.proofs.Checks.{same_value}
use Rattle.gamut.specs.Table.{levels_in}
use Rattle.placement_rules.specs.Placing.{work_needed}
use Rattle.search_rules.specs.declared.Settings.{Settings}
use Rattle.search_rules.specs.declared.Best.TheVariants.{None, Found}
use Rattle.search_rules.specs.declared.Job.{Job}
use Rattle.search_rules.specs.Job.{search_says}
use Rattle.search_rules.specs.Runs.{Call, began, Choice, Promise, run, history, since, OverOneTable, steps, whole_search}
use Rattle.search_rules.specs.Accepted.{StartTaken, RunsToEnd}
use Rattle.search_rules.proofs.Rows.{Good}
use Rattle.search_rules.proofs.Accepted.{search_only, good_table}
use Rattle.search_rules.proofs.Goes.{all_accepted, search_is_run}
use Rattle.search_rules.proofs.Runs.{whole_runs}
use Rattle.search_rules.proofs.KeptJobs.{run_on, finishes}
use Rattle.audit.specs.Panel.{Arrangement, HandsOut}

module _ (s : Settings) (t : List Float) where
  abbrev all : ℕ
  all = levels_in t * levels_in t

  -- an arrangement is a choice once every pair was gone through, and a choice is an arrangement
  gone : (d l : ℕ) → d < levels_in t → l < levels_in t → d * levels_in t + l < all
  gone d l D L =
      let m = levels_in t in
      let x : suc d * m ≤ m * m = mul-le-mul_right m D in
      let y : suc d * m ≡ d * m + m = suc-mul d m in
      omega arith

  abbrev choice : Arrangement t s → Choice t s all
  choice x = record {
    dark = x.dark;
    light = x.light;
    hues = x.hues;
    dark_in = x.dark_in;
    light_in = x.light_in;
    gone_through = gone x.dark x.light x.dark_in x.light_in;
    far = x.far;
    spaced = x.spaced;
  }

  abbrev arrangement : Choice t s all → Arrangement t s
  arrangement x = record { dark = x.dark; light = x.light; hues = x.hues; dark_in = x.dark_in; light_in = x.light_in; far = x.far; spaced = x.spaced }

  -- demand 3 where no pair is left
  handed : (job : Job) → Promise t s all job → HandsOut t s job
  handed job promise = record {
    found_is_limit = λ (c : Float) (d l : ℕ) (e : job.best ≡ Found c d l). let r = promise.reached c d l e in
        record { shown = arrangement r.0; dark_is = r.1.0; light_is = r.1.1.0; hues_are = r.1.1.1.0; reached = r.1.1.1.1; limit = λ (y : Arrangement t s). promise.limit c d l e (choice y) };
    none_means_none = λ (e : job.best ≡ None) (y : Arrangement t s). promise.none_said e (choice y);
  }

  -- ---- any list of calls: a start that is accepted and then every step of it, however the calls before and between them ended
  pub stepped_is_limit : (calls : List Call) (j : Job) → Each F32 t → OverOneTable t calls j → history calls j ≡ since s all → HandsOut t s (run calls j)
  stepped_is_limit calls j f32 over gone_through = handed (run calls j) (whole_runs t calls j f32 over s all gone_through)

  -- ---- `search`
  module _ (work : List ℕ) (j : Job) (f32 : Each F32 t) (said : search_says s t (length work) ≡ value j) where
    -- it was accepted, so its start was, and the buffer was long enough
    conditions : StartTaken s t × (work_needed 720 ≤ length work)
    conditions = search_only s t (length work) (j, said)

    good : Good t
    good = good_table s t conditions.0 f32

    pub search_is_limit : HandsOut t s j
    search_is_limit =
        let a = all_accepted t good work conditions.1 s conditions.0 j in
        subst (HandsOut t s) (same_value (run (whole_search s t work) j) j (sym (search_is_run t good work conditions.1 s conditions.0 j) ∙ said)) (stepped_is_limit (whole_search s t work) j f32 a.1 a.0)

  -- ---- a job run to its end, from wherever the calls so far have left it
  pub run_to_end_is_limit : (calls : List Call) (j : Job) → Each F32 t → OverOneTable t calls j → (n : ℕ) → history calls j ≡ since s n → (work : List ℕ) → 720 ≤ length work
      → (e : RunsToEnd (run calls j) t work) × HandsOut t s (run (steps e.left t work) (run calls j))
  run_to_end_is_limit calls j f32 over n so_far work room =
      let (e, (gone_through, over')) = finishes t f32 calls j over s n so_far work room in
      (e, subst (HandsOut t s) (run_on calls (steps e.left t work) j) (stepped_is_limit (calls ++ steps e.left t work) j f32 over' gone_through))

  -- a kept one: document 01's start, and what calls came since, after which the settings are still those of that start
  pub kept_is_limit : (calls : List Call) (j : Job) → Each F32 t → OverOneTable t (began s t ∷ calls) j → (n : ℕ) → history (began s t ∷ calls) j ≡ since s n → (work : List ℕ) → 720 ≤ length work
      → (e : RunsToEnd (run (began s t ∷ calls) j) t work) × HandsOut t s (run (steps e.left t work) (run (began s t ∷ calls) j))
  kept_is_limit calls = run_to_end_is_limit (began s t ∷ calls)
