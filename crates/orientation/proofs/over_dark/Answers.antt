-- `orientation::over_dark` meets its contract: the loop keeps the turns that are left from the best so far. Assumes nothing.
use mathlib.Core.Path.{ap}
use Prim.Native.Nat.{ℕ}
use native.Mathlib.Nat.{sub-zero}
use Rattle.gamut.specs.Table.{levels_in}
use Rattle.search_rules.specs.Loops.{loop}
use Rattle.search_rules.proofs.Turns.{one_taken, all_taken}
use Rattle.orientation_rules.specs.Orientation.{none, over_light, best_fixed}
use Rattle.orientation.specs.Inner.{best_of}
use Rattle.orientation.proofs.over_dark.Goals as goal

pub loop-dark-init : goal.loop-dark-init
unfolding best_fixed
loop-dark-init c =
    let a = c.args in
    (ap (λ (n : ℕ). loop (over_light a.gap a.table.now a.hue) n 0 none) (sub-zero (levels_in a.table.now)), tt)

pub over_light-best-requires : goal.over_light-best-requires
unfolding levels_in
over_light-best-requires c = record { asked = c.requires; dark_in = c.loop-dark-test.true; reached = c.loop-dark.invariant.1 }

pub loop-dark-preserved : goal.loop-dark-preserved
unfolding levels_in
loop-dark-preserved c =
    let a = c.args in
    let t = a.table.now in
    let next = c.over_light-best.ensures in
    (one_taken (over_light a.gap t a.hue) (levels_in t) c.loop-dark.dark (best_of c.loop-dark.best) (best_of c.over_light-best.result) (best_fixed a.gap t a.hue) c.loop-dark-test.true next.is c.loop-dark.invariant.0, next.reached)

pub returns : goal.returns
unfolding levels_in
returns c =
    let a = c.args in
    let t = a.table.now in
    all_taken (over_light a.gap t a.hue) (levels_in t) c.loop-dark.dark (best_of c.loop-dark.best) (best_fixed a.gap t a.hue) c.loop-dark-test.false c.loop-dark.invariant.0
