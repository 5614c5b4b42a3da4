-- `Ring::place_from` meets its contract. The invariant is `Turn`: what was asked at entry, and that what is stored so far, with the rest of the definition from cur
-- on, is the whole. Assumes nothing.
use Rattle.placement.proofs.Turns.{Turn}
use Rattle.placement.proofs.Ring.place_from.Given as goal

abbrev pub invariant-loop-at : goal.invariant-loop-at
invariant-loop-at l = Turn l.self.m.now l.self.c l.next l.self.k l.self.step l.start l.hues l.cur l.at
