-- `limits::takes_entry` meets its contract: the code's 200 by its pattern is the specification's. Assumes nothing.
use lib.Ieee.{of_bits, of_int, neg}
use Rattle.limits.specs.Taken.{entry_taken}
use Rattle.limits.proofs.takes_entry.Goals as goal

pub returns : goal.returns
unfolding entry_taken of_bits of_int neg
returns c = c.up_to.ensures
