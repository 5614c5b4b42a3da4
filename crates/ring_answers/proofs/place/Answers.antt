-- `ring_answers::place` meets its contract: the work buffer is as long as number 8 asks. Assumes nothing.
use native.Mathlib.Omega.{arith}
use Rattle.placement_rules.specs.Placing.{work_needed}
use Rattle.ring_answers.proofs.Answering.{in_room}
use Rattle.ring_answers.proofs.place.Goals as goal

pub returns : goal.returns
unfolding work_needed
returns c = in_room _ _ _ _ _ (omega arith) c.feasible.ensures.gives.says
