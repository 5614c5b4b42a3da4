-- `color::lab_to_linear` meets its contract. Assumes nothing.
use Rattle.color.specs.Color.{lab_to_linear}
use Rattle.color.proofs.lab_to_linear.Goals as goal

pub returns : goal.returns
unfolding lab_to_linear
returns c = rw (c.xyz_to_linear.ensures, c.lab_to_xyz.ensures)
