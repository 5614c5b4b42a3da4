-- `orientation::over_light` meets its contract: the loop keeps the turns that are left from the best so far. Assumes nothing.
use mathlib.Core.Path.{◌≡◌, sym, ap, ◌∙◌, subst}
use mathlib.Core.Bool.{true, false}
use mathlib.Core.List.{List}
use Prim.Native.Nat.{ℕ}
use native.Mathlib.Nat.{sub-zero}
use lib.Ieee.{Float}
use Rattle.gamut.specs.Table.{levels_in}
use Rattle.search_rules.specs.Job.{far_enough}
use Rattle.search_rules.specs.Loops.{loop}
use Rattle.search_rules.proofs.Turns.{one_taken, all_taken}
use Rattle.orientation_rules.specs.Orientation.{Best, over_partners, tried, over_light}
use Rattle.orientation_rules.proofs.Accepted.{good_table}
use Rattle.orientation_rules.proofs.Skipping.{Reached, reached_on}
use Rattle.orientation.specs.Inner.{best_of}
use Rattle.orientation.proofs.over_light.Goals as goal
use Rattle.orientation.proofs.over_light.Goals.{then-far_enough, else-far_enough}

-- one light level, by whether it is far enough from the dark one
module _ (gap : Float) (t : List Float) (hue d l : ℕ) (so : Best) where
  far : (next : Best) → far_enough gap d l ≡ true → next ≡ over_partners t hue d l so → next ≡ tried gap t hue d l so
  unfolding tried
  far next q e = rw q e

  near : far_enough gap d l ≡ false → so ≡ tried gap t hue d l so
  unfolding tried
  near q = rw q

pub loop-light-init : goal.loop-light-init
unfolding over_light
loop-light-init c =
    let a = c.args in
    (ap (λ (n : ℕ). loop (tried a.gap a.table.now a.hue a.dark) n 0 (best_of a.best)) (sub-zero (levels_in a.table.now)), c.requires.reached)

pub over_partners-best-requires : goal.over_partners-best-requires
unfolding levels_in
over_partners-best-requires c =
    let a = c.args in
    let asked = c.requires.asked in
    let taken = asked.taken in
    record {
      good = good_table a.gap a.table.now a.hue taken asked.f32;
      there = record { long = taken.whole_levels; few_levels = taken.levels.1; dark_in = c.requires.dark_in; light_in = c.loop-light-test.true; hue_in = taken.hue_in };
      reached = c.loop-light.invariant.1;
    }

pub loop-light-preserved : goal.loop-light-preserved
unfolding levels_in
loop-light-preserved c =
    let a = c.args in
    let t = a.table.now in
    let light = c.loop-light.light in
    let so = best_of c.loop-light.best in
    let inside = c.loop-light-test.true in
    let taken = c.requires.asked.taken in
    let good = good_table a.gap t a.hue taken c.requires.asked.f32 in
    let next : (best_of c.if-far_enough.best ≡ tried a.gap t a.hue a.dark light so) × Reached (best_of c.if-far_enough.best) =
    elim c.if-far_enough.branch [
      | then-far_enough w ↦ let e = ap best_of w.best-is ∙ w.over_partners-best.ensures in (
        far a.gap t a.hue a.dark light so (best_of c.if-far_enough.best) (sym c.far_enough.ensures ∙ w.if-far_enough.true) e,
        subst Reached (sym e) (reached_on t good a.hue a.dark light taken.hue_in c.requires.dark_in inside so c.loop-light.invariant.1),
      )
      | else-far_enough w ↦ let e = ap best_of w.best-is in
          (e ∙ near a.gap t a.hue a.dark light so (sym c.far_enough.ensures ∙ w.if-far_enough.false), subst Reached (sym e) c.loop-light.invariant.1)
    ] in
    (one_taken (tried a.gap t a.hue a.dark) (levels_in t) light so (best_of c.if-far_enough.best) (over_light a.gap t a.hue a.dark (best_of a.best)) inside next.0 c.loop-light.invariant.0, next.1)

pub returns : goal.returns
unfolding levels_in
returns c =
    let a = c.args in
    let t = a.table.now in
    let whole = over_light a.gap t a.hue a.dark (best_of a.best) in
    record { is = all_taken (tried a.gap t a.hue a.dark) (levels_in t) c.loop-light.light (best_of c.loop-light.best) whole c.loop-light-test.false c.loop-light.invariant.0; reached = c.loop-light.invariant.1 }
