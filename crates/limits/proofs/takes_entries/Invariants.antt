-- `limits::takes_entries` meets its contract: the flag so far and the test of what is left are the test of the whole. Assumes nothing.
use Rattle.limits.specs.Taken.{entry_taken}
use Rattle.limits.proofs.Every.{SoFar}
use Rattle.limits.proofs.takes_entries.Given as goal

abbrev pub invariant-loop-x : goal.invariant-loop-x
invariant-loop-x l = SoFar entry_taken l.entries l.all l.x-index
