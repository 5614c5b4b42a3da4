-- `color::xyz_to_lab` meets its contract. Assumes nothing.
use lib.Ieee.{of_bits, of_int, round}
use Rattle.color.specs.Constants.{white}
use Rattle.color.specs.Color.{relative, xyz_to_lab}
use Rattle.color.proofs.xyz_to_lab.Goals as goal

pub returns : goal.returns
unfolding xyz_to_lab relative white of_bits of_int round
returns c = rw (c.lab_f-fx.ensures, c.lab_f-fy.ensures, c.lab_f-fz.ensures)
