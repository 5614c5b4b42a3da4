-- `Ring::fill` meets its contract. The invariant: the table is filled from index i on, and what was last seen is the earliest allowed index from there. Assumes nothing.
use mathlib.Core.Path.{◌≡◌}
use lib.ListN.{length}
use Rattle.placement_rules.specs.Ring.{earliest}
use Rattle.placement_rules.specs.Placing.{allowed_at}
use Rattle.placement.specs.Inner.{Filled}
use Rattle.placement.proofs.Ring.fill.Given as goal

abbrev pub invariant-loop-i : goal.invariant-loop-i
invariant-loop-i l = Filled l.self.m.now l.self.c l.i l.work × (l.seen ≡ earliest (allowed_at l.self.m.now l.self.c) (length l.self.m.now) l.i)
