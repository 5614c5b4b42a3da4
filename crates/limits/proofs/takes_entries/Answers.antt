-- `limits::takes_entries` meets its contract: the flag so far and the test of what is left are the test of the whole. Assumes nothing.
use native.Mathlib.Omega.{arith}
use Rattle.limits.specs.Taken.{entry_taken}
use Rattle.limits.proofs.Every.{joined, ended}
use Rattle.limits.proofs.takes_entries.Goals as goal

pub loop-x-preserved : goal.loop-x-preserved
loop-x-preserved c = joined entry_taken _ c.loop-x.all _ _ c.loop-x-test.true (grind arith) c.loop-x.invariant

pub returns : goal.returns
returns c = ended entry_taken _ _ _ c.loop-x-test.false c.loop-x.invariant
