-- `metrics::least_apart` meets its contract. The invariant: the least of the pairs of what is left and of the least so far is the least of all. Assumes nothing.
use mathlib.Core.Path.{◌≡◌}
use lib.ListN.{drop}
use Rattle.metrics.specs.Metrics.{least_apart}
use Rattle.metrics.proofs.least_apart.Given as goal

abbrev pub invariant-loop-i : goal.invariant-loop-i
invariant-loop-i l = least_apart l.lo (drop l.i l.hues) ≡ least_apart l.from l.hues
