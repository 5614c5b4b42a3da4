-- `lamp_input::gap_of` meets its contract: the number of ten-thousandths is exact. Assumes nothing.
use mathlib.Core.Path.{refl}
use lib.Ieee.{of_bits, of_int}
use Rattle.lamp_input.specs.Ask.{gap_of}
use Rattle.lamp_input.proofs.gap_of.Goals as goal

pub returns : goal.returns
unfolding gap_of of_bits of_int
returns c = refl
