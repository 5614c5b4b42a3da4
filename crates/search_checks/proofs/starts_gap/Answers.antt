-- `search_checks::starts_gap` meets its contract: a gap that number 2 takes is not below 40 where it is at least 40. Assumes nothing.
use mathlib.Core.Path.{sym, ◌∙◌}
use native.Mathlib.Omega.{arith}
use lib.Ieee.{of_bits, of_int, neg}
use Rattle.std.proofs.lemmas.Grind.{common_steps}
use Rattle.search_rules.specs.Job.{gap_starts}
use Rattle.search_rules.proofs.Gaps.{from_40}
use Rattle.search_checks.proofs.starts_gap.Goals as goal

pub returns-then-takes_gap : goal.returns-then-takes_gap
unfolding gap_starts of_bits of_int neg
returns-then-takes_gap c = grind (arith, common_steps, from_40 c.args.gap (sym c.takes_gap.ensures ∙ c.if-takes_gap.true))

pub returns-else-takes_gap : goal.returns-else-takes_gap
unfolding gap_starts
returns-else-takes_gap c = grind (arith, common_steps)
