-- `color::linear_to_xyz` meets its contract: the rows of the code are those of the specification. Assumes nothing.
use lib.Ieee.{of_bits, round}
use Rattle.color.specs.Constants.{to_xyz}
use Rattle.color.specs.Color.{linear_to_xyz}
use Rattle.color.proofs.linear_to_xyz.Goals as goal

pub returns : goal.returns
unfolding linear_to_xyz to_xyz of_bits round
returns c = rw (c.weighted.ensures, c.weighted-2.ensures, c.weighted-3.ensures)
