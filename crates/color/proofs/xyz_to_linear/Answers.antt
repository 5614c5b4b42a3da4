-- `color::xyz_to_linear` meets its contract: the rows of the code are those of the specification. Assumes nothing.
use lib.Ieee.{of_bits, round, neg}
use Rattle.color.specs.Constants.{from_xyz}
use Rattle.color.specs.Color.{xyz_to_linear}
use Rattle.color.proofs.xyz_to_linear.Goals as goal

pub returns : goal.returns
unfolding xyz_to_linear from_xyz of_bits round neg
returns c = rw (c.weighted.ensures, c.weighted-2.ensures, c.weighted-3.ensures)
