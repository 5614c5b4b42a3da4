-- `orientation::over_dark` meets its contract: the loop keeps the turns that are left from the best so far. Assumes nothing.
use mathlib.Core.Path.{◌≡◌}
use Prim.Native.Nat.{◌-◌}
use Rattle.gamut.specs.Table.{levels_in}
use Rattle.search_rules.specs.Loops.{loop}
use Rattle.orientation_rules.specs.Orientation.{over_light, best_fixed}
use Rattle.orientation_rules.proofs.Skipping.{Reached}
use Rattle.orientation.specs.Inner.{best_of}
use Rattle.orientation.proofs.over_dark.Given as goal

abbrev pub invariant-loop-dark : goal.invariant-loop-dark
invariant-loop-dark l = (loop (λ d. over_light l.gap l.table l.hue d) (levels_in l.table - l.dark) l.dark (best_of l.best) ≡ best_fixed l.gap l.table l.hue) × Reached (best_of l.best)
