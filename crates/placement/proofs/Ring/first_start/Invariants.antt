-- `Ring::first_start` meets its contract. The invariant: the first start that succeeds is the first from s on. Assumes nothing.
use mathlib.Core.Path.{◌≡◌}
use Prim.Native.Nat.{◌-◌, ◌*◌}
use lib.ListN.{length}
use Rattle.placement_rules.specs.Ring.{from_start, first_from}
use Rattle.placement_rules.specs.Placing.{allowed_at}
use Rattle.placement.proofs.Ring.first_start.Given as goal

abbrev pub invariant-loop-s : goal.invariant-loop-s
invariant-loop-s l = first_from (from_start (allowed_at l.self.m.now l.self.c) (length l.self.m.now) l.self.k l.self.step) (length l.self.m.now - (l.self.k - 1) * l.self.step - l.s) l.s ≡ first_from (from_start (allowed_at l.self.m.now l.self.c) (length l.self.m.now) l.self.k l.self.step) (length l.self.m.now - (l.self.k - 1) * l.self.step) 0
