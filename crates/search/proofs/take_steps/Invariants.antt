-- `search::take_steps` meets its contract: the loop keeps the steps that are left from the last job. Assumes nothing.
use mathlib.Core.Path.{◌≡◌}
use Prim.Native.Nat.{◌-◌}
use lib.ListN.{length}
use Rattle.search_rules.specs.Job.{steps_from}
use Rattle.search.proofs.take_steps.Given as goal

abbrev pub invariant-loop : goal.invariant-loop
invariant-loop l = steps_from (l.count - l.counter) l.job l.table (length l.initial.work) ≡ steps_from l.count l.initial.job l.table (length l.initial.work)
