-- One accepted step of a record that is not broken keeps the best or takes a chroma of a qualifying pair, which is at most what both its rows have (`step_new`); and what every
-- accepted step keeps is kept by every list of calls in which no start is accepted (`kept_by_steps`). Assumes nothing.
use mathlib.Core.Path.{◌≡◌, refl, sym, ap, ◌∙◌, subst}
use mathlib.Core.Logic.{◌⊎◌, inl, inr}
use mathlib.Core.Bool.{Bool, true, false, cond}
use mathlib.Core.List.{List, [], ◌∷◌}
use Prim.Native.Nat.{ℕ, zero, suc, ◌*◌, ◌/◌, ◌%◌, ◌<◌}
use native.Mathlib.Nat.{mod-lt, div-lt_iff_lt-mul}
use lib.Ieee.{Float, le}
use lib.ListN.{length}
use Rattle.limits.specs.Answers.{Said, value, refused}
use Rattle.limits.proofs.Checks.{all_pass, differ, same_value}
use Rattle.halving.proofs.Plain.{Plain}
use Rattle.gamut.specs.Table.{levels_in}
use Rattle.pair_rules.specs.Pair as pair
use Rattle.pair_rules.specs.Pair.{none, found}
use Rattle.search_rules.specs.declared.Best.TheVariants.{Found}
use Rattle.search_rules.specs.declared.Job.{Job}
use Rattle.search_rules.specs.Job.{unbroken, qualifies, beats, moved_on, replaced, pair_best, searched, step_checked, step_says, job_after}
use Rattle.search_rules.specs.Runs.{Call, start, began, step, given, run, History, unstarted, since, noted, history_from, history, Lent, OverOneTable, steps}
use Rattle.search_rules.proofs.Checking.{step_checks, step_passed, both_rows, goes_on, searched_is}
use Rattle.search_rules.proofs.Unbroken.{sound}
use Rattle.search_rules.proofs.Floor.{BestF32}
use Rattle.search_rules.proofs.Rows.{Good}
use Rattle.search_rules.proofs.Goes.{Went, step_goes}
use Rattle.ceiling_rules.specs.Ceiling.{top_at}
use Rattle.ceiling_rules.proofs.Tops.{pair_within}

-- ---- one accepted step
module _ (t : List Float) (good : Good t) (j : Job) (u : unbroken j ≡ true) (levels : j.levels ≡ levels_in t) (f32 : BestF32 j.best) where
  abbrev pub d : ℕ
  d = j.position / j.levels

  abbrev pub l : ℕ
  l = j.position % j.levels

  -- a chroma of the pair at the position, which qualifies
  pub record New (j' : Job) : Type 0 where
    pub chroma : Float
    pub best_is : j'.best ≡ Found chroma d l
    pub pair_qualifies : qualifies j.settings d l ≡ true
    pub plain : Plain chroma
    pub within_rows : le chroma (top_at t d l) ≡ true

  pub record Stepped (j' : Job) : Type 0 where
    pub unfinished : j.position < j.levels * j.levels
    pub dark_in : d < levels_in t
    pub light_in : l < levels_in t
    pub went : Went t j d l j'
    pub kept_or_new : (j'.best ≡ j.best) ⊎ New j'

  module _ (j' : Job) (D : d < levels_in t) (L : l < levels_in t) where
    kept : moved_on j ≡ j' → (j'.best ≡ j.best) ⊎ New j'
    kept e = inl (ap (λ (x : Job). x.best) (sym e))

    searched_new : (q : Bool) → qualifies j.settings d l ≡ q → (e : Bool) (best : pair.Best) → pair_best j t d l ≡ best → goes_on j d l q e best ≡ value j' → (j'.best ≡ j.best) ⊎ New j'
    searched_new false q e best b h = kept (same_value (moved_on j) j' h)
    searched_new true q false best b h = differ 7 j' h
    searched_new true q true none b h = kept (same_value (moved_on j) j' h)
    searched_new true q true (found c hues) b h = either (beats c j.best) _ (same_value _ j' h)
      where
        either : (b : Bool) (n : ℕ) → cond b (replaced j c d l hues n) (moved_on j) ≡ j' → (j'.best ≡ j.best) ⊎ New j'
        either false n h = kept h
        either true n h =
            let w = pair_within t good d l D L j u f32 c hues b in
            inr (record { chroma = c; best_is = sym (ap (λ (x : Job). x.best) h); pair_qualifies = q; plain = w.1; within_rows = w.2 })

  pub step_new : (room : ℕ) (j' : Job) → step_says j t room ≡ value j' → Stepped j'
  unfolding step_says step_checked
  step_new room j' h =
      let f = all_pass (step_checks j (length t) room) (searched j t d l) j' h in
      let p = step_passed j (length t) room f.0 in
      let g = step_goes t good j u p.unfinished levels f32 room p.room_enough in
      let some = (sound j u).some_level in
      let D : d < levels_in t = subst (λ (m : ℕ). d < m) levels ((div-lt_iff_lt-mul some).1 p.unfinished) in
      let L : l < levels_in t = subst (λ (m : ℕ). l < m) levels (mod-lt j.position some) in
      record {
        unfinished = p.unfinished;
        dark_in = D;
        light_in = L;
        went = subst (Went t j d l) (same_value g.0 j' (sym g.1.0 ∙ h)) g.1.1;
        kept_or_new = searched_new j' D L (qualifies j.settings d l) refl (both_rows t d l) (pair_best j t d l) refl (sym (searched_is j t d l) ∙ f.1);
      }

-- ---- a list of calls in which no start is accepted
module _ (t : List Float) (P : Job → Type 0) (stepped : (j j' : Job) (room : ℕ) → P j → step_says j t room ≡ value j' → P j') where
  -- what is kept from call to call: nothing once a start was accepted
  abbrev Held : History → Job → Type 0
  Held unstarted j = P j
  Held (since s n) j = Unit

  called : (c : Call) (h : History) (j : Job) (said : Said Job) → given c j ≡ said → Lent t c said → Held h j → Held (noted c said h) (job_after j said)
  called c h j (refused w) e lent held = held
  called (start s t') h j (value j') e lent held = tt
  called (began s t') h j (value j') e lent held = tt
  called (step t' work) (since s n) j (value j') e lent held = tt
  called (step t' work) unstarted j (value j') e lent held = stepped j j' (length work) held (subst (λ (x : List Float). step_says j x (length work) ≡ value j') lent e)

  all_called : (calls : List Call) (h : History) (j : Job) → OverOneTable t calls j → Held h j → Held (history_from h calls j) (run calls j)
  unfolding history_from run
  all_called [] h j over held = held
  all_called (c ∷ calls) h j over held = all_called calls (noted c (given c j) h) (job_after j (given c j)) over.1 (called c h j (given c j) refl over.0 held)

  pub kept_by_steps : (calls : List Call) (j : Job) → history calls j ≡ unstarted → OverOneTable t calls j → P j → P (run calls j)
  kept_by_steps calls j e over held = subst (λ (h : History). Held h (run calls j)) e (all_called calls unstarted j over held)

-- steps alone are no start
pub no_start : (t : List Float) (work : List ℕ) (n : ℕ) (j : Job) → history (steps n t work) j ≡ unstarted
unfolding history_from
no_start t work zero j = refl
no_start t work (suc n) j = go (step_says j t (length work)) (no_start t work n)
  where
    go : (x : Said Job) → ((j : Job) → history_from unstarted (steps n t work) j ≡ unstarted) → history_from (noted (step t work) x unstarted) (steps n t work) (job_after j x) ≡ unstarted
    go (value j') rest = rest j'
    go (refused w) rest = rest j
