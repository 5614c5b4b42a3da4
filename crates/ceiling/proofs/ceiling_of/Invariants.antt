-- `ceiling::ceiling_of` meets its contract: the loop keeps the turns that are left from the ceiling so far. Assumes nothing.
use mathlib.Core.Path.{◌≡◌}
use Prim.Native.Nat.{◌*◌, ◌-◌}
use Rattle.search_rules.specs.Loops.{loop}
use Rattle.ceiling_rules.specs.Ceiling.{with_pair, ceiling_of, ceiling_said}
use Rattle.ceiling.proofs.ceiling_of.Given as goal

abbrev pub invariant-loop-p : goal.invariant-loop-p
invariant-loop-p l = loop (with_pair l.job.settings l.table l.job.levels) (l.job.levels * l.job.levels - l.p) l.p (ceiling_said l.ceiling) ≡ ceiling_of l.job l.table
