-- `limits::takes_gap` meets its contract: the code's 84 by its pattern is the specification's. Assumes nothing.
use lib.Ieee.{of_bits, of_int, neg}
use Rattle.limits.specs.Taken.{gap_taken}
use Rattle.limits.proofs.takes_gap.Goals as goal

pub returns : goal.returns
unfolding gap_taken of_bits of_int neg
returns c = c.up_to.ensures
