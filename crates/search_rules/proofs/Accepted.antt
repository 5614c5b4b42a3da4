-- Start, step and search are accepted exactly on document 01's conditions, with Req 04's for number 8 and Req 05's for number 2 (`start_exactly`, `step_exactly`,
-- `search_exactly`), and document 01's start was exactly on document 01's (`began_exactly`). Below 40 a start and a search are refused by 2 (`below_40`). Assumes nothing.
use mathlib.Core.Path.{◌≡◌, refl, sym, ◌∙◌, subst}
use mathlib.Core.Logic.{◌↔◌}
use mathlib.Core.Bool.{Bool, true, false, cond, and-false}
use mathlib.Core.List.{List, [], ◌∷◌}
use Prim.Native.Nat.{ℕ, ◌*◌, ◌/◌, ◌%◌, ◌≤◌, ◌<◌}
use native.Mathlib.Nat.{mod-lt, div-lt_iff_lt-mul}
use native.Mathlib.Omega.{arith}
use lib.Dec.{leb}
use lib.Ieee.{Float, lt}
use lib.ListN.{length}
use borrow.Author.Tests.{leb-true, le-leb}
use Rattle.limits.specs.Answers.{Said, value, refused}
use Rattle.limits.specs.Taken.{f32_of, gap_taken, entry_taken, every}
use Rattle.limits.specs.Each.{Each, F32}
use Rattle.limits.proofs.HueCount.{both, hue_count, count_taken}
use Rattle.limits.proofs.Checks.{check, AllPass, all_pass, said, same_value}
use Rattle.limits.proofs.Lists.{each_true, every_true}
use Rattle.gamut.specs.Table.{levels_in, row_at}
use Rattle.gamut.proofs.Table.{levelled, table_taken_lem}
use Rattle.placement_rules.specs.Placing.{work_needed}
use Rattle.placement_rules.proofs.Room.{one_lap}
use Rattle.search_rules.specs.declared.Settings.{Settings}
use Rattle.search_rules.specs.declared.Job.{Job}
use Rattle.search_rules.specs.Job.{gap_starts, gap_held, begun, start_checked_by, start_checked, start_says, began_says, qualifies, pair_best, searched, step_checked, step_says, steps_from, search_says}
use Rattle.search_rules.specs.Runs.{FarApart}
use Rattle.search_rules.specs.Accepted.{Accepted, Between, EachTaken, TakenWith, FromForty, StartTaken, FromZero, BeganTaken, Unbroken, StepTaken}
use Rattle.search_rules.proofs.Apart.{far_apart, qualified}
use Rattle.search_rules.proofs.Gaps.{start_gap, held_gap}
use Rattle.search_rules.proofs.Checking.{start_checks, step_checks, step_passed, step_passes, both_rows, goes_on, searched_is}
use Rattle.search_rules.proofs.Unbroken.{unbroken_exactly}
use Rattle.search_rules.proofs.Rows.{Good}

-- ---- start
-- over its test of the gap, and what that asks
module _ (gaps : Float → Bool) (Gap : Float → Type 0) (exactly : (gap : Float) → (gaps gap ≡ true) ↔ Gap gap) (s : Settings) (t : List Float) where
  taken_only : {A : Type 0} (x : Said A) (v : A) → start_checked_by gaps s t x ≡ value v → TakenWith Gap s t × (x ≡ value v)
  unfolding start_checked_by
  taken_only x v e =
      let f = all_pass (start_checks gaps s t) x v e in
      let p = f.0 in
      let l = levelled t p.1.1.0 in
      (record { hue_count = hue_count s.k p.0; gap = (exactly s.gap).0 p.1.0; whole_levels = l.long; levels = (l.some_level, l.few_levels); entries = each_true entry_taken t p.1.1.1.0 }, f.1)

  taken_passing : {A : Type 0} → TakenWith Gap s t → (x : Said A) → start_checked_by gaps s t x ≡ x
  unfolding start_checked_by
  taken_passing h x =
      said (start_checks gaps s t) x
      (count_taken s.k h.hue_count, ((exactly s.gap).1 h.gap, (table_taken_lem t (record { long = h.whole_levels; some_level = h.levels.0; few_levels = h.levels.1 }), (every_true entry_taken t h.entries, tt))))

module _ (s : Settings) (t : List Float) where
  -- the table of an accepted start, where its entries are f32
  pub good_table : {Gap : Float → Type 0} → TakenWith Gap s t → Each F32 t → Good t
  good_table h f32 = record {
    levels_taken_lem = table_taken_lem t (record { long = h.whole_levels; some_level = h.levels.0; few_levels = h.levels.1 });
    entries_taken_lem = every_true entry_taken t h.entries;
    entries_f32 = f32;
  }

  -- ---- as Req 05 has it
  pub start_only : Accepted (start_says s t) → StartTaken s t
  unfolding start_says
  start_only a = (taken_only gap_starts FromForty start_gap s t (value (begun s (levels_in t))) a.0 a.1).0

  start_passing : {A : Type 0} → StartTaken s t → (x : Said A) → start_checked s t x ≡ x
  start_passing = taken_passing gap_starts FromForty start_gap s t

  pub start_given : StartTaken s t → start_says s t ≡ value (begun s (levels_in t))
  unfolding start_says
  start_given h = start_passing h (value (begun s (levels_in t)))

  pub start_exactly : Accepted (start_says s t) ↔ StartTaken s t
  start_exactly = (start_only, λ (h : StartTaken s t). (begun s (levels_in t), start_given h))

  -- "number 2 for a gap below 40", whatever the table, and so for a search with any work buffer
  small_gap : {A : Type 0} (x : Said A) → Between 1 16 s.k → lt s.gap (f32_of 40) ≡ true → start_checked s t x ≡ refused 2
  unfolding start_checked_by gap_starts
  small_gap x count below = rw (count_taken s.k count, below, and-false (gap_taken s.gap))

  pub below_40 : Between 1 16 s.k → lt s.gap (f32_of 40) ≡ true → (start_says s t ≡ refused 2) × ((room : ℕ) → search_says s t room ≡ refused 2)
  unfolding start_says search_says
  below_40 count below = (small_gap _ count below, λ (room : ℕ). small_gap _ count below)

  -- ---- as document 01 had it
  pub began_leaves : (j : Job) → began_says s t ≡ value j → BeganTaken s t × (begun s (levels_in t) ≡ j)
  unfolding began_says
  began_leaves j e = let f = taken_only gap_held FromZero held_gap s t (value (begun s (levels_in t))) j e in (f.0, same_value (begun s (levels_in t)) j f.1)

  pub began_given : BeganTaken s t → began_says s t ≡ value (begun s (levels_in t))
  unfolding began_says
  began_given h = taken_passing gap_held FromZero held_gap s t h (value (begun s (levels_in t)))

  pub began_exactly : Accepted (began_says s t) ↔ BeganTaken s t
  began_exactly = (λ (a : Accepted (began_says s t)). (began_leaves a.0 a.1).0, λ (h : BeganTaken s t). (begun s (levels_in t), began_given h))

  -- what a start takes, document 01's took, with the same job
  pub also_began : StartTaken s t → BeganTaken s t
  also_began h = record { hue_count = h.hue_count; gap = h.gap.0; whole_levels = h.whole_levels; levels = h.levels; entries = h.entries }

  pub start_began : (j : Job) → start_says s t ≡ value j → began_says s t ≡ value j
  start_began j e = let h = start_only (j, e) in began_given (also_began h) ∙ sym (start_given h) ∙ e

  -- ---- search: a start, and number 8
  module _ (room : ℕ) where
    abbrev done : Said Job
    done = value (steps_from (levels_in t * levels_in t) (begun s (levels_in t)) t room)

    pub search_only : Accepted (search_says s t room) → StartTaken s t × (work_needed 720 ≤ room)
    unfolding search_says
    search_only a =
        let f = taken_only gap_starts FromForty start_gap s t (cond (leb (work_needed 720) room) done (refused 8)) a.0 a.1 in
        let g = all_pass (check (leb (work_needed 720) room) 8 ∷ []) done a.0 f.1 in
        (f.0, leb-true (work_needed 720) room g.0.0)

    pub search_given : StartTaken s t → work_needed 720 ≤ room → search_says s t room ≡ done
    unfolding search_says
    search_given h r = start_passing h (cond (leb (work_needed 720) room) done (refused 8)) ∙ said (check (leb (work_needed 720) room) 8 ∷ []) done (le-leb (work_needed 720) room r, tt)

    pub search_exactly : Accepted (search_says s t room) ↔ (StartTaken s t × (720 ≤ room))
    search_exactly = (
      λ (a : Accepted (search_says s t room)). let h = search_only a in (h.0, (one_lap 720 room).0 h.1),
      λ (h : StartTaken s t × (720 ≤ room)). (steps_from (levels_in t * levels_in t) (begun s (levels_in t)) t room, search_given h.0 ((one_lap 720 room).1 h.1)),
    )

-- ---- step
module _ (j : Job) (t : List Float) (room : ℕ) where
  abbrev dark : ℕ
  dark = j.position / j.levels

  abbrev light : ℕ
  light = j.position % j.levels

  -- both indices are below the levels
  inside : Unbroken j → j.position < j.levels * j.levels → (dark < 169) × (light < 169)
  inside h u =
      let L = h.levels.0 in
      let few = h.levels.1 in
      let a : dark < j.levels = (div-lt_iff_lt-mul L).1 u in
      let b : light < j.levels = mod-lt j.position L in
      (omega arith, omega arith)

  -- what a step says once 15, 14, 6 and 8 are passed, by whether its pair qualifies and whether its two rows are taken
  abbrev on : Bool → Bool → Said Job
  on q e = goes_on j dark light q e (pair_best j t dark light)

  abbrev rows : Bool
  rows = both_rows t dark light

  pub step_only : Accepted (step_says j t room) → StepTaken j t room
  unfolding step_says step_checked
  step_only a =
      let f = all_pass (step_checks j (length t) room) (searched j t dark light) a.0 a.1 in
      let p = step_passed j (length t) room f.0 in
      let sound = (unbroken_exactly j).0 p.sound in
      let u = p.unfinished in
      record {
        unbroken = sound;
        unfinished = u;
        whole_levels = p.whole;
        room_enough = (one_lap 720 room).0 p.room_enough;
        entries = λ (far : FarApart j.settings.gap dark light). read (qualified j.settings sound.gap dark light (inside sound u).0 (inside sound u).1 far) (sym (searched_is j t dark light) ∙ f.1);
      }
    where
      read : qualifies j.settings dark light ≡ true → on (qualifies j.settings dark light) rows ≡ value a.0 → EachTaken (row_at t dark) × EachTaken (row_at t light)
      read q h = go rows refl (subst (λ (b : Bool). on b rows ≡ value a.0) q h)
        where
          go : (b : Bool) → rows ≡ b → on true b ≡ value a.0 → EachTaken (row_at t dark) × EachTaken (row_at t light)
          go true e h = let r = both (every entry_taken (row_at t dark)) (every entry_taken (row_at t light)) e in (each_true entry_taken (row_at t dark) r.0, each_true entry_taken (row_at t light) r.1)
          go false e h = absurd (let z : ◌≡◌ {A = ℕ} 0 1 = cc in omega arith)

  pub step_given : StepTaken j t room → Accepted (step_says j t room)
  unfolding step_says step_checked
  step_given h =
      subst Accepted (sym (said (step_checks j (length t) room) (searched j t dark light) passes ∙ searched_is j t dark light)) (go (qualifies j.settings dark light) refl)
    where
      passes : AllPass (step_checks j (length t) room)
      passes = step_passes j (length t) room (record { sound = (unbroken_exactly j).1 h.unbroken; unfinished = h.unfinished; whole = h.whole_levels; room_enough = (one_lap 720 room).1 h.room_enough })

      go : (q : Bool) → qualifies j.settings dark light ≡ q → Accepted (on q rows)
      go false e = (_, refl)
      go true e =
          let sound = h.unbroken in
          let u = h.unfinished in
          let r = h.entries (far_apart j.settings sound.gap dark light (inside sound u).0 (inside sound u).1 e) in
          rw (every_true entry_taken (row_at t dark) r.0, every_true entry_taken (row_at t light) r.1) (_, refl)

  pub step_exactly : Accepted (step_says j t room) ↔ StepTaken j t room
  step_exactly = (step_only, step_given)
