-- `limits::takes_direction` meets its contract: the code's -1 and 1 by its pattern is the specification's. Assumes nothing.
use lib.Ieee.{of_bits, of_int, neg}
use Rattle.limits.specs.Taken.{direction_taken}
use Rattle.limits.proofs.takes_direction.Goals as goal

pub returns : goal.returns
unfolding direction_taken of_bits of_int neg
returns c = c.within.ensures
