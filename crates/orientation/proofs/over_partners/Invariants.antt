-- `orientation::over_partners` meets its contract. Where the fixed hue itself has too little, no partner changes anything; else the loop keeps the turns that are left from the best so
-- far. Assumes nothing.
use mathlib.Core.Path.{◌≡◌}
use Prim.Native.Nat.{◌-◌}
use Rattle.search_rules.specs.Loops.{loop}
use Rattle.orientation_rules.specs.Orientation.{partner_at, tried_with, over_partners}
use Rattle.orientation.specs.Inner.{best_of}
use Rattle.orientation.proofs.over_partners.Given as goal

abbrev pub invariant-loop-on : goal.invariant-loop-on
invariant-loop-on l = loop (λ on. tried_with l.table l.hue l.dark l.light (partner_at l.hue on)) (420 - l.on) l.on (best_of l.best) ≡ over_partners l.table l.hue l.dark l.light (best_of l.initial.best)
