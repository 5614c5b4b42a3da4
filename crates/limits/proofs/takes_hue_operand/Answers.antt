-- `limits::takes_hue_operand` meets its contract: the code's -1000 and 1000 by its pattern is the specification's. Assumes nothing.
use lib.Ieee.{of_bits, of_int, neg}
use Rattle.limits.specs.Taken.{hue_operand_taken}
use Rattle.limits.proofs.takes_hue_operand.Goals as goal

pub returns : goal.returns
unfolding hue_operand_taken of_bits of_int neg
returns c = c.within.ensures
