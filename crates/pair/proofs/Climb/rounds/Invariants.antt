-- `Climb::rounds` meets its contract. The invariant: what is left of the 30 rounds ends where all of them do. Assumes nothing.
use lib.ListN.{length}
use Rattle.pair.proofs.Climbing.{Climbed}
use Rattle.pair.proofs.Climb.rounds.Given as goal

abbrev pub invariant-loop : goal.invariant-loop
invariant-loop l = Climbed l.self.k l.self.step l.self.row.now (length l.initial.work) l.self.floor l.self.most l.at l.counter
