-- `orientation::over_light` meets its contract: the loop keeps the turns that are left from the best so far. Assumes nothing.
use mathlib.Core.Path.{◌≡◌}
use Prim.Native.Nat.{◌-◌}
use Rattle.gamut.specs.Table.{levels_in}
use Rattle.search_rules.specs.Loops.{loop}
use Rattle.orientation_rules.specs.Orientation.{tried, over_light}
use Rattle.orientation_rules.proofs.Skipping.{Reached}
use Rattle.orientation.specs.Inner.{best_of}
use Rattle.orientation.proofs.over_light.Given as goal

abbrev pub invariant-loop-light : goal.invariant-loop-light
invariant-loop-light l = (loop (λ light. tried l.gap l.table l.hue l.dark light) (levels_in l.table - l.light) l.light (best_of l.best) ≡ over_light l.gap l.table l.hue l.dark (best_of l.initial.best)) × Reached (best_of l.best)
