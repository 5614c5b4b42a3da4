-- `palette::tried` meets its contract. Assumes nothing.
use mathlib.Core.Path.{refl}
use lib.Ieee.{of_bits, of_int}
use Rattle.palette.specs.BackOff.{tried}
use Rattle.palette.proofs.tried.Goals as goal

pub returns : goal.returns
unfolding tried of_bits of_int
returns c = refl
