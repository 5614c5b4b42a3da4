-- `color::linear_to_lab` meets its contract. Assumes nothing.
use Rattle.color.specs.Color.{linear_to_lab}
use Rattle.color.proofs.linear_to_lab.Goals as goal

pub returns : goal.returns
unfolding linear_to_lab
returns c = rw (c.xyz_to_lab.ensures, c.linear_to_xyz.ensures)
