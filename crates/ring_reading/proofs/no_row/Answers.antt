-- `ring_reading::no_row` meets its contract: the literal is the whole number 0. Assumes nothing.
use mathlib.Core.Path.{refl}
use lib.Ieee.{of_bits, of_int}
use Rattle.ring_reading.specs.Reads.{no_row}
use Rattle.ring_reading.proofs.no_row.Goals as goal

pub returns : goal.returns
unfolding of_bits no_row of_int
returns c = refl
