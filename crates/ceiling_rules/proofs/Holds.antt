-- Req 08: "Over the same table the finished job never exceeds the larger of best and ceiling, and if both are below 35 or absent it ends with none." It holds after every list of
-- calls in which no start is accepted, from any record that is not broken (`ahead_holds`), so of the finished job, which there is (`finished_holds`). The ceiling of an accepted
-- call is the greatest of what the qualifying pairs still to come have (`ceiling_is`), and an entry of the table (`ceiling_entry`); one accepted step on the call is accepted too,
-- and the ceiling has not risen (`not_risen`). Assumes nothing.
use mathlib.Core.Path.{◌≡◌, refl, sym, ap, ◌∙◌, subst}
use mathlib.Core.Logic.{◌⊎◌, inl, inr}
use mathlib.Core.Bool.{true}
use mathlib.Core.List.{List}
use Prim.Native.Nat.{ℕ, ◌*◌, ◌≤◌, ◌<◌}
use native.Mathlib.Nat.{mod-lt, div-lt_iff_lt-mul}
use native.Mathlib.Omega.{arith}
use lib.Ieee.{Float, le}
use lib.ListN.{length}
use borrow.Author.Tests.{eq-eqb}
use Rattle.limits.specs.Answers.{value}
use Rattle.limits.specs.Taken.{f32_of, entry_taken}
use Rattle.limits.specs.Each.{Each, F32}
use Rattle.limits.proofs.Checks.{said}
use Rattle.limits.proofs.Floats.{never}
use Rattle.limits.proofs.Lists.{each_true}
use Rattle.halving.proofs.Plain.{Plain, le_through, le_not_lt}
use Rattle.gamut.specs.Table.{levels_in}
use Rattle.gamut.proofs.Table.{levels_by, table_taken_lem}
use Rattle.pair_rules.proofs.Choices.{le_self}
use Rattle.search_rules.specs.declared.Settings.{Settings}
use Rattle.search_rules.specs.declared.Best.{Best}
use Rattle.search_rules.specs.declared.Best.TheVariants.{None, Found}
use Rattle.search_rules.specs.declared.Job.{Job}
use Rattle.search_rules.specs.Job.{unbroken, best_held, dark_at, light_at, qualifies, step_says}
use Rattle.search_rules.specs.Runs.{Call, run, unstarted, history, OverOneTable, steps}
use Rattle.search_rules.specs.Accepted.{RunsToEnd}
use Rattle.search_rules.proofs.Unbroken.{sound, unbroken_exactly}
use Rattle.search_rules.proofs.Floor.{BestF32, chroma_plain, held_chroma, thirty_five, floor_from}
use Rattle.search_rules.proofs.Rows.{Good}
use Rattle.search_rules.proofs.Goes.{steps_lent}
use Rattle.search_rules.proofs.KeptJobs.{runs_to_end}
use Rattle.ceiling_rules.specs.Ceiling.{Ceiling, none_left, at_most, top_at, ceiling_of, outlook_says}
use Rattle.ceiling_rules.specs.Meant.{Greatest, Entry, Within, Low, Holds, NotAbove}
use Rattle.ceiling_rules.proofs.Tops.{top_plain, top_entry}
use Rattle.ceiling_rules.proofs.Ceiling.{Under, Numbered, greater_left, under_greater, ceiling_of_covers, ceiling_of_number, greatest, further_on}
use Rattle.ceiling_rules.proofs.Accepted.{look_checks, checked_is, Looked, looked}
use Rattle.ceiling_rules.proofs.Steps.{d, l, New, step_new, kept_by_steps, no_start}

-- a chroma that a record holds
held_plain : (j : Job) → unbroken j ≡ true → BestF32 j.best → (c : Float) (d l : ℕ) → j.best ≡ Found c d l → Plain c
held_plain j u f32 c d l e = (chroma_plain c (subst BestF32 e f32) (held_chroma j.levels j.best c d l e (sound j u).best_held_lem)).0

-- a whole table of a record's levels is one that is taken
good_of : (j : Job) (t : List Float) → Each F32 t → Looked j t → Good t × (j.levels ≡ levels_in t)
good_of j t f32 at =
    let same = levels_by t j.levels at.long in
    let s = sound j at.whole in
    let some = s.some_level in
    let few = s.few_levels in
    (record { levels_taken_lem = table_taken_lem t (record { long = at.long ∙ ap (λ (n : ℕ). n * 720) (sym same); some_level = omega arith; few_levels = omega arith }); entries_taken_lem = at.entries; entries_f32 = f32 }, sym same)

-- ---- what is kept from call to call, where a look ahead said b and top
module _ (t : List Float) (good : Good t) (b : Best) (top : Ceiling) (number : Numbered top) (chroma : (c : Float) (d l : ℕ) → b ≡ Found c d l → Plain c) where
  pub record Keeps (j : Job) : Type 0 where
    pub whole : unbroken j ≡ true
    pub levels : j.levels ≡ levels_in t
    pub f32 : BestF32 j.best
    pub within : (c : Float) (d l : ℕ) → j.best ≡ Found c d l → Within c b top
    pub to_come : (q : ℕ) → j.position ≤ q → q < j.levels * j.levels → qualifies j.settings (dark_at j.levels q) (light_at j.levels q) ≡ true
        → Under (top_at t (dark_at j.levels q) (light_at j.levels q)) top

  -- what is at most the ceiling is within
  under_within : (c : Float) → Plain c → Under c top → Within c b top
  under_within c C h = go b top number h chroma
    where
      go : (x : Best) (y : Ceiling) → Numbered y → Under c y → ((c : Float) (d l : ℕ) → x ≡ Found c d l → Plain c) → Within c x y
      go None none_left n h p = h
      go None (at_most y) n h p = h
      go (Found a d l) none_left n h p = absurd h
      go (Found a d l) (at_most y) n h p = under_greater c a y C (p a d l refl) n h

  under_through : (c x : Float) → Plain c → Plain x → le c x ≡ true → Under x top → Under c top
  under_through c x C X h u = go top number u
    where
      go : (y : Ceiling) → Numbered y → Under x y → Under c y
      go none_left n u = absurd u
      go (at_most y) n u = le_through c x y C X n h u

  stepped : (j j' : Job) (room : ℕ) → Keeps j → step_says j t room ≡ value j' → Keeps j'
  stepped j j' room k h =
      let s = step_new t good j k.whole k.levels k.f32 room j' h in
      let w = s.went in
      let p = w.next_position in
      let m = w.same_levels in
      let later : (x : ℕ) (y : Settings) → x ≡ j.levels → y ≡ j.settings → (q : ℕ) → j.position ≤ q → q < x * x → qualifies y (dark_at x q) (light_at x q) ≡ true → Under (top_at t (dark_at x q) (light_at x q)) top
      = λ (x : ℕ) (y : Settings) (e : x ≡ j.levels) (f : y ≡ j.settings). rw (e, f) k.to_come in
      record {
        whole = w.still_unbroken;
        levels = m ∙ k.levels;
        f32 = w.best_f32;
        within = new s.unfinished s.dark_in s.light_in s.kept_or_new;
        to_come = λ (q : ℕ) (a : j'.position ≤ q). later j'.levels j'.settings m w.same_settings q (omega arith);
      }
    where
      same_chroma : {x y : Float} {p q r s : ℕ} → Found x p q ≡ Found y r s → x ≡ y
      same_chroma e = cc

      new : j.position < j.levels * j.levels → dark_at j.levels j.position < levels_in t → light_at j.levels j.position < levels_in t
          → (j'.best ≡ j.best) ⊎ New t good j k.whole k.levels k.f32 j' → (c : Float) (d l : ℕ) → j'.best ≡ Found c d l → Within c b top
      new u D L (inl e) c d l f = k.within c d l (sym e ∙ f)
      new u D L (inr n) c d l f =
          let dark = dark_at j.levels j.position in
          let light = light_at j.levels j.position in
          let here = k.to_come j.position (omega arith) u n.pair_qualifies in
          subst (λ (x : Float). Within x b top) (same_chroma (sym n.best_is ∙ f))
          (under_within n.chroma n.plain (under_through n.chroma (top_at t dark light) n.plain (top_plain t good dark light D L) n.within_rows here))

  -- a chroma that a record holds is at least 35, so nothing below 35 bounds one
  holds_of : (j : Job) → Keeps j → Holds b top j.best
  holds_of j k = record { never_exceeds = k.within; ends_none = λ (e : b ≡ None) (low : Low top). no_chroma e low j.best refl }
    where
      no_chroma : b ≡ None → Low top → (x : Best) → j.best ≡ x → x ≡ None
      no_chroma e low None f = refl
      no_chroma e low (Found c d l) f = absurd (go top number low (subst (λ (x : Best). Within c x top) e (k.within c d l f)))
        where
          from_35 : le (f32_of 35) c ≡ true
          from_35 = floor_from j.levels (Found c d l) (subst (λ (x : Best). best_held j.levels x ≡ true) f (sound j k.whole).best_held_lem)

          go : (y : Ceiling) → Numbered y → Low y → Within c None y → ⊥
          go none_left n low h = h
          go (at_most y) n low h = never (sym (le_not_lt (f32_of 35) y thirty_five n (le_through (f32_of 35) c y thirty_five (held_plain j k.whole k.f32 c d l f) n from_35 h)) ∙ low)

-- ---- the theorems
module _ (t : List Float) (j : Job) (f32 : Each F32 t) (best_f32 : BestF32 j.best) (b : Best) (top : Ceiling) (says : outlook_says j t ≡ value (b, top)) where
  at : Looked j t
  at = (looked j t b top says).0

  best_is : j.best ≡ b
  best_is = (looked j t b top says).1.0

  top_is : ceiling_of j t ≡ top
  top_is = (looked j t b top says).1.1

  good : Good t
  good = (good_of j t f32 at).0

  same_levels : j.levels ≡ levels_in t
  same_levels = (good_of j t f32 at).1

  number : Numbered top
  number = subst Numbered top_is (ceiling_of_number t good j at.whole same_levels)

  chroma : (c : Float) (d l : ℕ) → b ≡ Found c d l → Plain c
  chroma c d l e = held_plain j at.whole best_f32 c d l (best_is ∙ e)

  begins : Keeps t good b top number chroma j
  begins = record {
    whole = at.whole;
    levels = same_levels;
    f32 = best_f32;
    within = λ (c : Float) (d l : ℕ) (e : j.best ≡ Found c d l). own c d l (sym best_is ∙ e);
    to_come = λ (q : ℕ) (a : j.position ≤ q) (i : q < j.levels * j.levels) (c : qualifies j.settings (dark_at j.levels q) (light_at j.levels q) ≡ true).
        subst (Under (top_at t (dark_at j.levels q) (light_at j.levels q))) top_is (ceiling_of_covers t good j at.whole same_levels q a i c);
  }
    where
      own : (c : Float) (d l : ℕ) → b ≡ Found c d l → Within c b top
      own c d l e = subst (λ (x : Best). Within c x top) (sym e) (go top number)
        where
          go : (y : Ceiling) → Numbered y → Within c (Found c d l) y
          go none_left n = le_self c (chroma c d l e)
          go (at_most y) n = greater_left c y (chroma c d l e) n

  pub ceiling_is : Greatest j t top
  ceiling_is = subst (Greatest j t) top_is (greatest t good j at.whole same_levels)

  pub ceiling_entry : (x : Float) → top ≡ at_most x → Entry t x
  ceiling_entry x e =
      let g = subst (Greatest j t) e ceiling_is in
      let p = g.0.0 in
      let some = (sound j at.whole).some_level in
      let dark = dark_at j.levels p.at in
      let light = light_at j.levels p.at in
      let D : dark < levels_in t = subst (λ (m : ℕ). dark < m) same_levels ((div-lt_iff_lt-mul some).1 p.below) in
      let L : light < levels_in t = subst (λ (m : ℕ). light < m) same_levels (mod-lt p.at some) in
      subst (Entry t) g.0.1 (top_entry t good dark light D L)

  pub ahead_holds : (calls : List Call) → history calls j ≡ unstarted → OverOneTable t calls j → Holds b top (run calls j).best
  ahead_holds calls h over =
      holds_of t good b top number chroma (run calls j) (kept_by_steps t (Keeps t good b top number chroma) (stepped t good b top number chroma) calls j h over begins)

  -- the finished job: the steps that are left are all accepted, and what they leave is so
  pub finished_holds : (work : List ℕ) → 720 ≤ length work → (e : RunsToEnd j t work) × Holds b top (run (steps e.left t work) j).best
  finished_holds work room =
      let e = runs_to_end j t work ((unbroken_exactly j).0 at.whole) best_f32 at.long (each_true entry_taken t at.entries) f32 room in
      (e, ahead_holds (steps e.left t work) (no_start t work e.left j) (steps_lent t work e.left j))

  -- one accepted step on the call is accepted, and its ceiling is not above this one
  pub not_risen : (room : ℕ) (j' : Job) → step_says j t room ≡ value j' → (later : Ceiling) × ((outlook_says j' t ≡ value (j'.best, later)) × NotAbove later top)
  unfolding outlook_says
  not_risen room j' h =
      let w = (step_new t good j at.whole same_levels best_f32 room j' h).went in
      let n = w.next_position in
      let long : length t ≡ j'.levels * 720 = at.long ∙ ap (λ (m : ℕ). m * 720) (sym w.same_levels) in (
        ceiling_of j' t,
        (
          checked_is j' t (value (j'.best, ceiling_of j' t)) ∙ said (look_checks j' t) (value (j'.best, ceiling_of j' t)) (w.still_unbroken, (eq-eqb (length t) (j'.levels * 720) long, (at.entries, tt))),
          subst (NotAbove (ceiling_of j' t)) top_is (further_on t good j j' at.whole w.still_unbroken same_levels w.same_levels w.same_settings (omega arith)),
        ),
      )
