-- Req 05: "Jobs already begun with a smaller gap are kept and run to their end, and no call finds them broken for it. What is promised about the best chroma covers both kinds of
-- job: for a kept one, the start that document 01 gave it counts as accepted and opens its list." Whatever calls follow document 01's start over its table, the promise of
-- demand 3 holds after them (`kept_jobs`). Every record that is not broken, whatever its gap, runs to its end (`runs_to_end`). So does the job after any list of calls once a
-- start in it was accepted, and with those steps behind it that list is one in which every pair was gone through (`finishes`). Assumes nothing.
use mathlib.Core.Path.{◌≡◌, refl, sym, ap, ◌∙◌, subst}
use mathlib.Core.Bool.{true}
use mathlib.Core.List.{List, [], ◌∷◌, ◌++◌}
use Prim.Native.Nat.{ℕ, suc, ◌+◌, ◌-◌, ◌*◌, ◌≤◌}
use native.Mathlib.Nat.{le_of_eq}
use native.Mathlib.Omega.{arith}
use lib.Ieee.{Float}
use lib.ListN.{length}
use borrow.Author.Tests.{le-ltb}
use Rattle.limits.specs.Answers.{Said, value, refused}
use Rattle.limits.specs.Each.{Each, F32}
use Rattle.limits.proofs.Checks.{same_value}
use Rattle.gamut.specs.Table.{levels_in}
use Rattle.gamut.proofs.Table.{levels_by}
use Rattle.placement_rules.proofs.Room.{one_lap}
use Rattle.search_rules.specs.declared.Settings.{Settings}
use Rattle.search_rules.specs.declared.Job.{Job}
use Rattle.search_rules.specs.Job.{began_says, unbroken, step_checked, step_says, job_after}
use Rattle.search_rules.specs.Runs.{Call, start, began, step, given, run, History, unstarted, since, noted, history_from, history, OverOneTable, Promise, steps}
use Rattle.search_rules.specs.Accepted.{BeganTaken, EachTaken, Unbroken, RunsToEnd}
use Rattle.search_rules.proofs.Unbroken.{sound, unbroken_exactly}
use Rattle.search_rules.proofs.Floor.{BestF32}
use Rattle.search_rules.proofs.Rows.{Good}
use Rattle.search_rules.proofs.Kept.{Kept, began_kept, step_kept}
use Rattle.search_rules.proofs.Runs.{after_calls, whole_runs}
use Rattle.search_rules.proofs.Accepted.{began_leaves, began_given, good_table, step_only}
use Rattle.search_rules.proofs.Goes.{step_goes, steps_lent, steps_count, steps_go, begun_unbroken}

-- ---- the promise
-- once a start was accepted, one always was
abbrev Since : History → Type 0
Since h = (s : Settings) × ((n : ℕ) × (h ≡ since s n))

still_noted : (c : Call) (x : Said Job) (h : History) → Since h → Since (noted c x h)
still_noted c (refused w) h e = e
still_noted (start s t) (value j) h e = (s, (0, refl))
still_noted (began s t) (value j) h e = (s, (0, refl))
still_noted (step t work) (value j) h e = (e.0, (suc e.1.0, ap (noted (step t work) (value j)) e.1.1))

still_since : (calls : List Call) (h : History) (j : Job) → Since h → Since (history_from h calls j)
unfolding history_from
still_since [] h j e = e
still_since (c ∷ calls) h j e = still_since calls (noted c (given c j) h) (job_after j (given c j)) (still_noted c (given c j) h e)

module _ (s : Settings) (t : List Float) (taken : BeganTaken s t) (f32 : Each F32 t) where
  pub kept_jobs : (calls : List Call) (j : Job) → OverOneTable t (began s t ∷ calls) j
      → (s' : Settings) × ((n : ℕ) × ((history (began s t ∷ calls) j ≡ since s' n) × Promise t s' n (run (began s t ∷ calls) j)))
  unfolding history_from
  kept_jobs calls j over =
      let opens : noted (began s t) (began_says s t) unstarted ≡ since s 0 = ap (λ (x : Said Job). noted (began s t) x unstarted) (began_given s t taken) in
      let (s', (n, h)) = still_since calls (noted (began s t) (began_says s t) unstarted) (job_after j (began_says s t)) (s, (0, opens)) in
      (s', (n, (h, whole_runs t (began s t ∷ calls) j f32 over s' n h)))

-- ---- to the end
-- a job with no pair left is finished
finished : (j : Job) (t : List Float) (room : ℕ) → unbroken j ≡ true → j.position ≡ j.levels * j.levels → step_says j t room ≡ refused 14
unfolding step_says step_checked
finished j t room u e = rw (u, le-ltb j.position (j.levels * j.levels) (le_of_eq (sym e)))

to_end : (t : List Float) → Good t → (work : List ℕ) → 720 ≤ length work → (j : Job) → unbroken j ≡ true → j.levels ≡ levels_in t → BestF32 j.best → RunsToEnd j t work
to_end t good work room j u same f32 =
    let within = (sound j u).within in
    let n = j.levels * j.levels - j.position in
    let all : j.position + n ≡ j.levels * j.levels = omega arith in
    let g = steps_go t good work ((one_lap 720 (length work)).1 room) n j u same f32 (le_of_eq all) in
    let last : (run (steps n t work) j).position ≡ j.levels * j.levels = g.position_on ∙ all in
    record {
      left = n;
      as_many = all;
      all_taken = g.accepted;
      at_the_end = last;
      same_settings = g.settings_kept;
      finished_then = finished (run (steps n t work) j) t (length work) g.still_unbroken (last ∙ ap (λ (x : ℕ). x * x) (sym g.levels_kept));
    }

-- whatever the gap that it holds; its chroma is an f32, as every one in a program is
pub runs_to_end : (j : Job) (t : List Float) (work : List ℕ) → Unbroken j → BestF32 j.best → length t ≡ j.levels * 720 → EachTaken t → Each F32 t → 720 ≤ length work → RunsToEnd j t work
runs_to_end j t work whole chroma long entries f32 room =
    let same = levels_by t j.levels long in
    let some = whole.levels.0 in
    let few = whole.levels.1 in
    let taken : BeganTaken j.settings t = record { hue_count = whole.hue_count; gap = whole.gap; whole_levels = long ∙ ap (λ (n : ℕ). n * 720) (sym same); levels = (omega arith, omega arith); entries = entries } in
    to_end t (good_table j.settings t taken f32) work room j ((unbroken_exactly j).1 whole) (sym same) chroma

-- ---- behind any list of calls
pub run_on : (calls others : List Call) (j : Job) → run (calls ++ others) j ≡ run others (run calls j)
unfolding run
run_on [] others j = refl
run_on (c ∷ calls) others j = run_on calls others (job_after j (given c j))

history_on : (calls others : List Call) (h : History) (j : Job) → history_from h (calls ++ others) j ≡ history_from (history_from h calls j) others (run calls j)
unfolding run history_from
history_on [] others h j = refl
history_on (c ∷ calls) others h j = history_on calls others (noted c (given c j) h) (job_after j (given c j))

over_on : (t : List Float) (calls others : List Call) (j : Job) → OverOneTable t calls j → OverOneTable t others (run calls j) → OverOneTable t (calls ++ others) j
unfolding run
over_on t [] others j over next = next
over_on t (c ∷ calls) others j over next = (over.0, over_on t calls others (job_after j (given c j)) over.1 next)

module _ (t : List Float) (f32 : Each F32 t) where
  -- what holds after any list: the promise, of a record that is not broken
  abbrev pub Whole : Settings → ℕ → Job → Type 0
  Whole s n j = Kept t s n j × (unbroken j ≡ true)

  pub started : (s : Settings) (j : Job) → began_says s t ≡ value j → Whole s 0 j
  started s j e =
      let (taken, same) = began_leaves s t j e in
      (began_kept s t j f32 e, subst (λ (x : Job). unbroken x ≡ true) same (begun_unbroken s t taken))

  pub stepped : (s : Settings) (n : ℕ) (j j' : Job) (room : ℕ) → Whole s n j → step_says j t room ≡ value j' → Whole s (suc n) j'
  stepped s n j j' room (kept, u) e =
      let asked = step_only j t room (j', e) in
      let g = step_goes t kept.good j u asked.unfinished kept.promise.levels_are kept.chroma_f32 room ((one_lap 720 room).1 asked.room_enough) in
      (step_kept t s n j j' room kept e, subst (λ (x : Job). unbroken x ≡ true) (same_value g.0 j' (sym g.1.0 ∙ e)) g.1.1.still_unbroken)

  -- the job after it runs to its end, and the list with those steps behind it is one in which every pair was gone through
  pub finishes : (calls : List Call) (j : Job) → OverOneTable t calls j → (s : Settings) (n : ℕ) → history calls j ≡ since s n → (work : List ℕ) → 720 ≤ length work
      → (e : RunsToEnd (run calls j) t work) × ((history (calls ++ steps e.left t work) j ≡ since s (levels_in t * levels_in t)) × OverOneTable t (calls ++ steps e.left t work) j)
  finishes calls j over s n h work room =
      let (kept, u) = after_calls t Whole started stepped calls j over s n h in
      let p = kept.promise in
      let last = run calls j in
      let e = to_end t kept.good work room last u p.levels_are kept.chroma_f32 in
      let all : n + e.left ≡ levels_in t * levels_in t = ap (λ (x : ℕ). x + e.left) (sym p.position_is) ∙ e.as_many ∙ ap (λ (x : ℕ). x * x) p.levels_are in (
        e,
        (
          history_on calls (steps e.left t work) unstarted j ∙ ap (λ (x : History). history_from x (steps e.left t work) last) h ∙ steps_count t work s e.left n last e.all_taken ∙ ap (since s) all,
          over_on t calls (steps e.left t work) j over (steps_lent t work e.left last),
        ),
      )
