-- `search_checks::far_enough` meets its contract: the code's 1 by its pattern is the specification's. Assumes nothing.
use lib.Ieee.{of_bits, of_int, neg}
use Rattle.search_rules.specs.Job.{far_enough}
use Rattle.search_checks.proofs.far_enough.Goals as goal

pub returns : goal.returns
unfolding far_enough of_bits of_int neg
returns c = rw (c.l_of.ensures, c.l_of-2.ensures)
