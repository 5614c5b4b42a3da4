-- `placement::tightest` meets its contract. The invariant: what is least so far is the smallest gap from the hue at `at` on. Assumes nothing.
use mathlib.Core.Path.{◌≡◌}
use Rattle.placement.proofs.Gaps.{from}
use Rattle.placement.proofs.tightest.Given as goal

abbrev pub invariant-loop-at : goal.invariant-loop-at
invariant-loop-at l = l.least ≡ from l.n l.k l.hues l.at
