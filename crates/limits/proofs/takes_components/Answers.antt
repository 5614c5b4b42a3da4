-- `limits::takes_components` meets its contract: the flag so far and the test of what is left are the test of the whole. Assumes nothing.
use Rattle.limits.specs.Taken.{direction_taken}
use Rattle.limits.proofs.Every.{joined, ended}
use Rattle.limits.proofs.takes_components.Goals as goal

pub loop-x-preserved : goal.loop-x-preserved
loop-x-preserved c = joined direction_taken _ c.loop-x.all _ _ c.loop-x-test.true c.takes_direction-all.ensures c.loop-x.invariant

pub returns : goal.returns
returns c = ended direction_taken _ _ _ c.loop-x-test.false c.loop-x.invariant
