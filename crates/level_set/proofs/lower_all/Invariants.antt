-- `level_set::lower_all` meets its contract. The invariant: at each hue stands the value of the levels that are behind, which are the last ones. Assumes nothing.
use Rattle.std.specs.Slice.Iter.{iter_rest}
use Rattle.std.specs.Iterator.Adapters.{rev_source}
use Rattle.level_set.proofs.Naming.{Behind}
use Rattle.level_set.proofs.lower_all.Given as goal

abbrev pub invariant-loop-level : goal.invariant-loop-level
invariant-loop-level l = Behind l.table l.levels (iter_rest (rev_source l.level-iterator)) l.row
