use Rattle.std.proofs.lemmas.Grind.{common_steps}
use native.Mathlib.Omega.{arith}
use lib.Ieee.{of_bits, of_int, neg}
use Rattle.search_checks.proofs.holds_best.Goals as goal

pub returns-then-d-levels : goal.returns-then-d-levels
unfolding of_bits of_int neg
returns-then-d-levels c = grind (arith, common_steps)

pub returns-else-d-levels : goal.returns-else-d-levels
unfolding of_bits of_int neg
returns-else-d-levels c = grind (arith, common_steps)
