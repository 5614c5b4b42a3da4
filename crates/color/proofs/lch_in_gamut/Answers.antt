-- `color::lch_in_gamut` meets its contract. Assumes nothing.
use Rattle.color.specs.Color.{lch_in_gamut}
use Rattle.color.proofs.lch_in_gamut.Goals as goal

pub returns : goal.returns
unfolding lch_in_gamut
returns c = rw (c.in_gamut.ensures, c.lab_to_linear.ensures, c.lch_to_lab.ensures)
