-- `Ring::first_allowed` meets its contract. The invariant: no index below i is allowed. Assumes nothing.
use mathlib.Core.Path.{◌≡◌}
use Prim.Native.Nat.{◌-◌}
use lib.ListN.{length}
use Rattle.placement_rules.specs.Ring.{earliest}
use Rattle.placement_rules.specs.Placing.{allowed_at}
use Rattle.placement.proofs.Ring.first_allowed.Given as goal

abbrev pub invariant-loop-i : goal.invariant-loop-i
invariant-loop-i l = earliest (allowed_at l.self.m.now l.self.c) (length l.self.m.now - l.i) l.i ≡ earliest (allowed_at l.self.m.now l.self.c) (length l.self.m.now) 0
