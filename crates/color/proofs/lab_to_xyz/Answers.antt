-- `color::lab_to_xyz` meets its contract. Assumes nothing.
use lib.Ieee.{of_bits, of_int, round}
use Rattle.color.specs.Constants.{white}
use Rattle.color.specs.Color.{lightness, lab_to_xyz}
use Rattle.color.proofs.lab_to_xyz.Goals as goal

pub returns : goal.returns
unfolding lab_to_xyz lightness white of_bits of_int round
returns c = rw (c.lab_f_inv.ensures, c.lab_f_inv-2.ensures, c.lab_f_inv-3.ensures)
