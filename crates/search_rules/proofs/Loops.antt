-- With all steps done the job is what the Rust's two loops leave: after any list of start and step calls over one table, refused ones included, from any job record, whatever the
-- table's entries (`finished_is_loops`). So what `search` says is that too (`search_is_loops`, and `accepted_is_loops` wherever it is accepted). These two ask for f32 entries:
-- that no step on the way is refused by number 15 rests on a pair's chroma lying from 35 to 200, which is proved for f32. Assumes nothing.
use mathlib.Core.Path.{◌≡◌, refl, sym, ap, ◌∙◌, subst}
use mathlib.Core.Bool.{Bool, true, false, cond}
use mathlib.Core.List.{List}
use Prim.Native.Nat.{ℕ, suc, ◌+◌, ◌*◌, ◌/◌, ◌%◌, ◌≤◌}
use native.Mathlib.Nat.{zero-mul}
use native.Mathlib.Omega.{arith}
use lib.Ieee.{Float}
use lib.ListN.{length, take, replicate, length-replicate}
use Rattle.limits.specs.Answers.{value}
use Rattle.limits.specs.Each.{Each, F32}
use Rattle.limits.proofs.Checks.{all_pass, differ}
use Rattle.gamut.specs.Table.{levels_in}
use Rattle.placement_rules.specs.Placing.{work_needed}
use Rattle.placement_rules.specs.Gaps.{tightest}
use Rattle.pair_rules.specs.Pair as pair
use Rattle.pair_rules.specs.Pair.{none, found}
use Rattle.search_rules.specs.declared.Settings.{Settings}
use Rattle.search_rules.specs.declared.Best.TheVariants.{Found}
use Rattle.search_rules.specs.declared.Job.{Job}
use Rattle.search_rules.specs.Job.{begun, began_says, qualifies, beats, moved_on, replaced, pair_best, searched, step_checked, step_says, job_after, search_says}
use Rattle.search_rules.specs.Runs.{Call, run, since, history, OverOneTable, whole_search}
use Rattle.search_rules.specs.Accepted.{Accepted, StartTaken}
use Rattle.search_rules.specs.Loops.{Solution, unsolved, improved, tried, loop, over_light, two_loops}
use Rattle.search_rules.specs.Filled.{gap_of}
use Rattle.search_rules.proofs.Checking.{step_checks, both_rows, goes_on, searched_is}
use Rattle.search_rules.proofs.Positions.{last_turn, at, rows}
use Rattle.search_rules.proofs.Runs.{after_calls}
use Rattle.search_rules.proofs.Accepted.{began_leaves, search_only, good_table}
use Rattle.search_rules.proofs.Goes.{all_accepted, search_is_run}

-- ---- one step
-- the job with these settings, levels and position, and with what the loops carry, of which its smallest gap is worked out
abbrev pub job_of : Settings → ℕ → ℕ → Solution → Job
job_of s m p so = record { settings = s; levels = m; position = p; best = so.best; hues = so.hues; tightest = gap_of s.k so.best so.hues }

module _ (s : Settings) (t : List Float) (m p : ℕ) (so : Solution) where
  abbrev j : Job
  j = job_of s m p so

  abbrev d : ℕ
  d = p / m

  abbrev l : ℕ
  l = p % m

  -- a chroma with hues replaces what is carried, or does not
  replaces : (b : Bool) (c : Float) (hues : List ℕ) → cond b (replaced j c d l hues (tightest 720 (take s.k hues))) (moved_on j) ≡ job_of s m (p + 1) (cond b (record { best = Found c d l; hues = hues }) so)
  replaces true c hues = refl
  replaces false c hues = refl

  -- an accepted step tries its pair, whatever the record and the table
  pub step_tries : (room : ℕ) (j' : Job) → step_says j t room ≡ value j' → j' ≡ job_of s m (p + 1) (tried s t d l so)
  unfolding step_says step_checked tried pair_best
  step_tries room j' h =
      go (qualifies s d l) (both_rows t d l) (pair_best j t d l) (sym (searched_is j t d l) ∙ (all_pass (step_checks j (length t) room) (searched j t d l) j' h).1)
    where
      go : (q e : Bool) (best : pair.Best) → goes_on j d l q e best ≡ value j' → j' ≡ job_of s m (p + 1) (cond q (improved so d l best) so)
      go false e best h = sym (ap (job_after j) h)
      go true false best h = differ 7 j' h
      go true true none h = sym (ap (job_after j) h)
      go true true (found c hues) h = sym (ap (job_after j) h) ∙ replaces (beats c so.best) c hues

-- ---- a list of calls
module _ (t : List Float) where
  abbrev m : ℕ
  m = levels_in t

  -- what the first n positions leave
  abbrev gone : Settings → ℕ → Solution
  gone s n = loop (at (tried s t) m) n 0 unsolved

  -- an accepted start leaves none so far
  started : (s : Settings) (j : Job) → began_says s t ≡ value j → j ≡ job_of s m 0 (gone s 0)
  unfolding loop
  started s j h = sym (began_leaves s t j h).1

  -- an accepted step goes on to the next position
  stepped : (s : Settings) (n : ℕ) (j j' : Job) (room : ℕ) → j ≡ job_of s m n (gone s n) → step_says j t room ≡ value j' → j' ≡ job_of s m (suc n) (gone s (suc n))
  stepped s n j j' room e h =
      let next : n + 1 ≡ suc n = omega arith in
      step_tries s t m n (gone s n) room j' (subst (λ (x : Job). step_says x t room ≡ value j') e h)
      ∙ ap (job_of s m (n + 1)) (sym (last_turn (at (tried s t) m) n unsolved))
      ∙ ap (λ (p : ℕ). job_of s m p (gone s p)) next

  -- all positions in their order are the two loops
  all_gone : (s : Settings) → gone s (m * m) ≡ two_loops s t
  unfolding two_loops over_light
  all_gone s = ap (λ (i : ℕ). loop (at (tried s t) m) (m * m) i unsolved) (sym (zero-mul m)) ∙ rows (tried s t) m m 0 unsolved

  -- "With all steps done the result is that of `search`"
  pub finished_is_loops : (calls : List Call) (j : Job) → OverOneTable t calls j → (s : Settings) → history calls j ≡ since s (m * m) → run calls j ≡ job_of s m (m * m) (two_loops s t)
  finished_is_loops calls j over s e =
      after_calls t (λ (s : Settings) (n : ℕ) (j : Job). j ≡ job_of s m n (gone s n)) started stepped calls j over s (m * m) e
      ∙ ap (job_of s m (m * m)) (all_gone s)

-- ---- what search says
module _ (s : Settings) (t : List Float) (room : ℕ) (f32 : Each F32 t) where
  -- on document 01's conditions
  pub search_is_loops : StartTaken s t → work_needed 720 ≤ room → search_says s t room ≡ value (job_of s (levels_in t) (levels_in t * levels_in t) (two_loops s t))
  search_is_loops startable enough =
      let work : List ℕ = replicate room 0 in
      let long : length work ≡ room = length-replicate room 0 in
      let room' : work_needed 720 ≤ length work = subst (λ (n : ℕ). work_needed 720 ≤ n) (sym long) enough in
      let good = good_table s t startable f32 in
      let j = begun s (levels_in t) in
      let all = all_accepted t good work room' s startable j in
      ap (search_says s t) (sym long) ∙ search_is_run t good work room' s startable j ∙ ap value (finished_is_loops t (whole_search s t work) j all.1 s all.0)

  -- wherever it is accepted
  pub accepted_is_loops : Accepted (search_says s t room) → search_says s t room ≡ value (job_of s (levels_in t) (levels_in t * levels_in t) (two_loops s t))
  accepted_is_loops a = let h = search_only s t room a in search_is_loops h.0 h.1
