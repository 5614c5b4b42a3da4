-- `color::srgb8_to_lab` meets its contract. Assumes nothing.
use Rattle.color.specs.Color.{srgb8_to_lab}
use Rattle.color.proofs.srgb8_to_lab.Goals as goal

pub returns : goal.returns
unfolding srgb8_to_lab
returns c = rw (c.linear_to_lab.ensures, c.srgb8_to_linear.ensures)
