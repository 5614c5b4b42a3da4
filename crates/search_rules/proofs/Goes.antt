-- A step of a record that is not broken, over a table that is taken, with room enough: it is accepted, the record stays unbroken with the same settings and the next position,
-- and its best is kept or becomes this pair's (`step_goes`). So all steps that are left are accepted (`steps_go`), a start and all its steps are, and document 01's start and all its
-- steps (`all_accepted`, `all_kept`), and what `search` says is what they leave. Assumes nothing.
use mathlib.Core.Path.{◌≡◌, refl, sym, ap, ◌∙◌, subst}
use mathlib.Core.Logic.{◌⊎◌, inl, inr}
use mathlib.Core.Bool.{Bool, true, false, cond}
use mathlib.Core.List.{List, [], ◌∷◌}
use Prim.Native.Nat.{ℕ, zero, suc, ◌+◌, ◌*◌, ◌/◌, ◌%◌, ◌≤◌, ◌<◌}
use native.Mathlib.Nat.{le_of_suc-le-suc, not-suc-le-zero, mod-lt, div-lt_iff_lt-mul, add-zero}
use native.Mathlib.Omega.{arith}
use lib.Dec.{leb}
use lib.Ieee.{Float, le}
use lib.ListN.{length, get_or, take, replicate}
use borrow.Author.Tests.{le-leb}
use Rattle.limits.specs.Answers.{Said, value, refused}
use Rattle.limits.specs.Taken.{f32_of}
use Rattle.limits.proofs.HueCount.{hue_count, count_taken}
use Rattle.limits.proofs.Tests.{joined}
use Rattle.limits.proofs.Checks.{AllPass, said}
use Rattle.halving.proofs.Plain.{le_through}
use Rattle.gamut.specs.Table.{levels_in, row_at}
use Rattle.gamut.proofs.Table.{row_taken}
use Rattle.placement_rules.specs.Placing.{step_for, work_needed, stores}
use Rattle.placement_rules.specs.Gaps.{tightest}
use Rattle.placement_rules.proofs.Stored.{stored_next, first_of}
use Rattle.placement_rules.proofs.Gaps.{tightest_within}
use Rattle.pair_rules.specs.Pair as pair
use Rattle.pair_rules.specs.Pair.{none, found}
use Rattle.pair_rules.proofs.Promise.{Handed, what_is_handed}
use Rattle.search_rules.specs.declared.Settings.{Settings}
use Rattle.search_rules.specs.declared.Best.{Best}
use Rattle.search_rules.specs.declared.Best.TheVariants.{Found}
use Rattle.search_rules.specs.declared.Job.{Job}
use Rattle.search_rules.specs.Job.{begun, best_held, handed, hues_held, tightest_held, unbroken, qualifies, floor_of, beats, moved_on, replaced, after_pair, pair_best, searched, step_checked, step_says, job_after, steps_from, search_says}
use Rattle.search_rules.specs.Runs.{Call, start, began, step, table_of, given, run, History, unstarted, since, noted, history_from, history, OverOneTable, Lent, steps, whole_search}
use Rattle.search_rules.specs.Accepted.{StartTaken, BeganTaken, AllAccepted}
use Rattle.search_rules.proofs.Checking.{step_checks, step_passes, searched_is, leaves}
use Rattle.search_rules.proofs.Unbroken.{sound, unbroken_by, best_back, gap_back}
use Rattle.search_rules.proofs.Floor.{BestF32, floor_f32, floor_from, floor_taken, chroma_plain, thirty_five, at_most_200}
use Rattle.search_rules.proofs.Rows.{Good, shape, long, rows_f32, pair_says_lem}
use Rattle.search_rules.proofs.Accepted.{start_given, began_given, also_began, search_given}

-- ---- sixteen hues of which k are placed
zeros_held : (n : ℕ) → hues_held 0 (replicate n 0) ≡ true
unfolding hues_held
zeros_held zero = refl
zeros_held (suc n) = zeros_held n

stored_held : (n : ℕ) (is : List ℕ) → length is ≤ n → ((p : ℕ) → p < length is → get_or is p 0 < 720) → hues_held (length is) (stores (replicate n 0) 0 is) ≡ true
unfolding hues_held stores
stored_held n [] h f = zeros_held n
stored_held zero (i ∷ is) h f = absurd (not-suc-le-zero h)
stored_held (suc n) (i ∷ is) h f =
    let a : i < 720 = f 0 (omega arith) in
    let rest = stored_held n is (le_of_suc-le-suc h) (λ (p : ℕ) (l : p < length is). f (suc p) (omega arith)) in
    ap (hues_held (suc (length is))) (stored_next 0 (replicate n 0) i is) ∙ joined (leb i 719) (hues_held (length is) (stores (replicate n 0) 0 is)) (le-leb i 719 (omega arith)) rest

-- ---- a job that is begun, by document 01's start
pub begun_unbroken : (s : Settings) (t : List Float) → BeganTaken s t → unbroken (begun s (levels_in t)) ≡ true
begun_unbroken s t h =
    unbroken_by (begun s (levels_in t))
    (record { hue_count_taken_lem = count_taken s.k h.hue_count; gap_held_lem = h.gap; some_level = h.levels.0; few_levels = h.levels.1; within = omega arith; best_held_lem = refl; hues_held_lem = zeros_held 16; tightest_held_lem = refl })

-- ---- one step
-- what an accepted step leaves of j at levels d and l
pub record Went (t : List Float) (j : Job) (d l : ℕ) (j' : Job) : Type 0 where
  pub still_unbroken : unbroken j' ≡ true
  pub same_settings : j'.settings ≡ j.settings
  pub same_levels : j'.levels ≡ j.levels
  pub next_position : j'.position ≡ suc j.position
  pub best_f32 : BestF32 j'.best
  pub kept_or_pair : ((j'.best ≡ j.best) × (j'.hues ≡ j.hues)) ⊎ ((c : Float) × ((hues : List ℕ) × ((pair_best j t d l ≡ found c hues) × ((j'.best ≡ Found c d l) × (j'.hues ≡ hues)))))

module _ (t : List Float) (good : Good t) (j : Job) (u : unbroken j ≡ true) (unfinished : j.position < j.levels * j.levels) (same : j.levels ≡ levels_in t) (f32 : BestF32 j.best) where
  abbrev m : ℕ
  m = j.levels

  abbrev d : ℕ
  d = j.position / m

  abbrev l : ℕ
  l = j.position % m

  one : 1 ≤ m
  one = (sound j u).some_level

  D : d < m
  D = (div-lt_iff_lt-mul one).1 unfinished

  L : l < m
  L = mod-lt j.position one

  D' : d < levels_in t
  D' = let e = same in let h = D in omega arith

  L' : l < levels_in t
  L' = let e = same in let h = L in omega arith

  -- the tests of number 15 at the next position, with a best, hues and a smallest gap that are held
  still : (b : Best) (hues : List ℕ) (t : ℕ) → best_held m b ≡ true → hues_held (handed j.settings.k b) hues ≡ true → tightest_held b t ≡ true
      → unbroken (record { settings = j.settings; levels = m; position = j.position + 1; best = b; hues = hues; tightest = t }) ≡ true
  still b hues t p q r =
      let s = sound j u in
      unbroken_by (record { settings = j.settings; levels = m; position = j.position + 1; best = b; hues = hues; tightest = t })
      (record { hue_count_taken_lem = s.hue_count_taken_lem; gap_held_lem = s.gap_held_lem; some_level = s.some_level; few_levels = s.few_levels; within = omega arith; best_held_lem = p; hues_held_lem = q; tightest_held_lem = r })

  on : Went t j d l (moved_on j)
  on = record {
    still_unbroken = still j.best j.hues j.tightest (sound j u).best_held_lem (sound j u).hues_held_lem (sound j u).tightest_held_lem;
    same_settings = refl;
    same_levels = refl;
    next_position = omega arith;
    best_f32 = f32;
    kept_or_pair = inl (refl, refl);
  }

  module _ (c' : Float) (hues : List ℕ) (e : pair_best j t d l ≡ found c' hues) where
    h₀ : Handed j.settings.k (step_for j.settings.k) (floor_of j.best) (row_at t d ∷ row_at t l ∷ []) (work_needed 720) (floor_f32 j.best f32) (rows_f32 t good d l D' L') c' hues
    h₀ = what_is_handed j.settings.k (step_for j.settings.k) (floor_of j.best) (row_at t d ∷ row_at t l ∷ []) (work_needed 720) (floor_f32 j.best f32) (rows_f32 t good d l D' L') c' hues (pair_says_lem t good d l D' L' j u ∙ ap value e)

    from_35 : le (f32_of 35) c' ≡ true
    from_35 =
        let b = (sound j u).best_held_lem in
        let p = (chroma_plain (floor_of j.best) (floor_f32 j.best f32) (floor_taken m j.best b)).0 in
        le_through (f32_of 35) (floor_of j.best) c' thirty_five p (chroma_plain c' h₀.f32_is h₀.in_range).0 (floor_from m j.best b) h₀.above

    best_there : best_held m (Found c' d l) ≡ true
    best_there = best_back m (Found c' d l) (from_35, (at_most_200 c' h₀.f32_is h₀.in_range, (D, L)))

    hues_there : hues_held j.settings.k hues ≡ true
    hues_there =
        let is = h₀.indices in
        let c = h₀.spaced.count in
        let few = (hue_count j.settings.k (sound j u).hue_count_taken_lem).1 in
        let long = long t good d D' in
        ap (hues_held j.settings.k) (sym h₀.stored) ∙ ap (λ (i : ℕ). hues_held i (stores (replicate 16 0) 0 is)) (sym c)
        ∙ stored_held 16 is (omega arith) (λ (p : ℕ) (k : p < length is). let w = h₀.spaced.within p (omega arith) in omega arith)

    abbrev gap : ℕ
    gap = tightest 720 (take j.settings.k hues)

    gap_there : tightest_held (Found c' d l) gap ≡ true
    gap_there =
        let is = h₀.indices in
        let c = h₀.spaced.count in
        let (some, few) = hue_count j.settings.k (sound j u).hue_count_taken_lem in
        let long = long t good d D' in
        let first : take j.settings.k hues ≡ is = first_of j.settings.k is hues h₀.stored c few in
        gap_back (Found c' d l) gap
        (rw first (tightest_within 720 is (omega arith) (λ (p : ℕ) (k : p < length is). let w = h₀.spaced.within p (omega arith) in omega arith)))

    other : Went t j d l (replaced j c' d l hues gap)
    other = record {
      still_unbroken = still (Found c' d l) hues gap best_there hues_there gap_there;
      same_settings = refl;
      same_levels = refl;
      next_position = omega arith;
      best_f32 = h₀.f32_is;
      kept_or_pair = inr (c', (hues, (e, (refl, refl))));
    }

    either : (b : Bool) → Went t j d l (cond b (replaced j c' d l hues gap) (moved_on j))
    either true = other
    either false = on

  pub step_goes : (room : ℕ) → work_needed 720 ≤ room → (j' : Job) × ((step_says j t room ≡ value j') × Went t j d l j')
  unfolding step_says step_checked
  step_goes room r =
      subst (λ (said : Said Job). (j' : Job) × ((said ≡ value j') × Went t j d l j')) (sym (said (step_checks j (length t) room) (searched j t d l) passes ∙ searched_is j t d l))
      (rw (row_taken t d good.entries_taken_lem, row_taken t l good.entries_taken_lem) (go (qualifies j.settings d l) (pair_best j t d l) refl))
    where
      passes : AllPass (step_checks j (length t) room)
      passes =
          let size : length t ≡ m * 720 = (shape t good).long ∙ ap (λ (x : ℕ). x * 720) (sym same) in
          step_passes j (length t) room (record { sound = u; unfinished = unfinished; whole = size; room_enough = r })

      go : (q : Bool) (best : pair.Best) → pair_best j t d l ≡ best → (j' : Job) × ((cond q (value (after_pair j d l best)) (value (moved_on j)) ≡ value j') × Went t j d l j')
      go false best e = (moved_on j, (refl, on))
      go true none e = (moved_on j, (refl, on))
      go true (found c' hues) e = (cond (beats c' j.best) (replaced j c' d l hues (tightest 720 (take j.settings.k hues))) (moved_on j), (refl, either c' hues e (beats c' j.best)))

-- ---- steps one after the other, over one table with one work buffer
module _ (t : List Float) (work : List ℕ) where
  -- none is lent another table, and they leave what `steps_from` does
  pub steps_lent : (n : ℕ) (j : Job) → OverOneTable t (steps n t work) j
  steps_lent zero j = tt
  steps_lent (suc n) j = (lent (step_says j t (length work)), steps_lent n (job_after j (step_says j t (length work))))
    where
      lent : (x : Said Job) → Lent t (step t work) x
      lent (value j') = refl
      lent (refused w) = tt

  pub steps_run : (n : ℕ) (j : Job) → run (steps n t work) j ≡ steps_from n j t (length work)
  unfolding run steps_from
  steps_run zero j = refl
  steps_run (suc n) j = steps_run n (job_after j (step_says j t (length work)))

  -- each that is accepted counts
  pub steps_count : (s : Settings) (n p : ℕ) (j : Job) → AllAccepted (steps n t work) j → history_from (since s p) (steps n t work) j ≡ since s (p + n)
  unfolding history_from
  steps_count s zero p j a = ap (since s) (sym (add-zero p))
  steps_count s (suc n) p j a =
      let c : suc p + n ≡ p + suc n = omega arith in
      subst (λ (said : Said Job). history_from (noted (step t work) said (since s p)) (steps n t work) (job_after j (step_says j t (length work))) ≡ since s (p + suc n)) (sym a.0.1)
      (steps_count s n (suc p) (job_after j (step_says j t (length work))) a.1 ∙ ap (since s) c)

-- ---- all accepted, where the table is taken and there is room
module _ (t : List Float) (good : Good t) (work : List ℕ) (room : work_needed 720 ≤ length work) where
  -- n steps of a job are accepted, and leave it with its settings and levels, n positions on
  pub record Gone (n : ℕ) (j : Job) : Type 0 where
    pub accepted : AllAccepted (steps n t work) j
    pub settings_kept : (run (steps n t work) j).settings ≡ j.settings
    pub levels_kept : (run (steps n t work) j).levels ≡ j.levels
    pub position_on : (run (steps n t work) j).position ≡ j.position + n
    pub still_unbroken : unbroken (run (steps n t work) j) ≡ true

  pub steps_go : (n : ℕ) (j : Job) → unbroken j ≡ true → j.levels ≡ levels_in t → BestF32 j.best → j.position + n ≤ j.levels * j.levels → Gone n j
  unfolding run
  steps_go zero j u e f h = record { accepted = tt; settings_kept = refl; levels_kept = refl; position_on = sym (add-zero j.position); still_unbroken = u }
  steps_go (suc n) j u e f h =
      let g = step_goes t good j u (omega arith) e f (length work) room in
      let j' = g.0 in
      let w = g.1.1 in
      let a = w.same_levels in
      let b = w.next_position in
      let room' : j'.position + n ≤ j'.levels * j'.levels = subst (λ (x : ℕ). j'.position + n ≤ x * x) (sym a) (omega arith) in
      let r = steps_go n j' w.still_unbroken (a ∙ e) w.best_f32 room' in
      let p = r.position_on in
      let k : job_after j (step_says j t (length work)) ≡ j' = leaves j j' (step_says j t (length work)) g.1.0 in
      record {
        accepted = ((j', g.1.0), subst (AllAccepted (steps n t work)) (sym k) r.accepted);
        settings_kept = ap (λ (x : Job). (run (steps n t work) x).settings) k ∙ r.settings_kept ∙ w.same_settings;
        levels_kept = ap (λ (x : Job). (run (steps n t work) x).levels) k ∙ r.levels_kept ∙ a;
        position_on = ap (λ (x : Job). (run (steps n t work) x).position) k ∙ omega arith;
        still_unbroken = ap (λ (x : Job). unbroken (run (steps n t work) x)) k ∙ r.still_unbroken;
      }

  -- ---- from document 01's start, or from a start
  module _ (s : Settings) where
    abbrev all : ℕ
    all = levels_in t * levels_in t

    module _ (takes : BeganTaken s t) where
      -- a call that leaves the job begun, and then all steps
      opened : (c : Call) (j : Job) → given c j ≡ value (begun s (levels_in t)) → noted c (value (begun s (levels_in t))) unstarted ≡ since s 0 → table_of c ≡ t
          → (history (c ∷ steps all t work) j ≡ since s all) × OverOneTable t (c ∷ steps all t work) j
      unfolding history_from
      opened c j says opens lent =
          let z : 0 + all ≡ all = omega arith in
          let g = steps_go all (begun s (levels_in t)) (begun_unbroken s t takes) refl tt (omega arith) in
          subst (λ (said : Said Job). (history_from (noted c said unstarted) (steps all t work) (job_after j said) ≡ since s all) × (Lent t c said × OverOneTable t (steps all t work) (job_after j said))) (sym says)
          (subst (λ (h : History). history_from h (steps all t work) (begun s (levels_in t)) ≡ since s all) (sym opens) (steps_count t work s all 0 (begun s (levels_in t)) g.accepted ∙ ap (since s) z), (lent, steps_lent t work all (begun s (levels_in t))))

      -- document 01's start and all its steps are accepted, from any job record
      pub all_kept : (j : Job) → (history (began s t ∷ steps all t work) j ≡ since s all) × OverOneTable t (began s t ∷ steps all t work) j
      all_kept j = opened (began s t) j (began_given s t takes) refl refl

    module _ (startable : StartTaken s t) where
      -- and so are a start and all its steps
      pub all_accepted : (j : Job) → (history (whole_search s t work) j ≡ since s all) × OverOneTable t (whole_search s t work) j
      all_accepted j = opened (also_began s t startable) (start s t) j (start_given s t startable) refl refl

      -- and leave what `search` says
      pub search_is_run : (j : Job) → search_says s t (length work) ≡ value (run (whole_search s t work) j)
      unfolding run
      search_is_run j =
          search_given s t (length work) startable room
          ∙ ap value (sym (steps_run t work all (begun s (levels_in t))) ∙ ap (λ (said : Said Job). run (steps all t work) (job_after j said)) (sym (start_given s t startable)))
