-- `limits::takes_chroma` meets its contract: the code's 200 by its pattern is the specification's. Assumes nothing.
use lib.Ieee.{of_bits, of_int, neg}
use Rattle.limits.specs.Taken.{chroma_taken}
use Rattle.limits.proofs.takes_chroma.Goals as goal

pub returns : goal.returns
unfolding chroma_taken of_bits of_int neg
returns c = c.up_to.ensures
