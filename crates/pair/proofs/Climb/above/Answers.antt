-- `Climb::above` meets its contract: nothing is placed at the floor, or the rounds go on from what is. Assumes nothing.
use Rattle.pair.proofs.Climbing.{none_there}
use Rattle.pair.proofs.Climb.above.Goals as goal

pub returns-in_err-first : goal.returns-in_err-first
returns-in_err-first c = let a = c.args.self in rw c.from_residual.ensures (none_there a.k a.step a.floor a.row.now c.in_err-first.ensures)
