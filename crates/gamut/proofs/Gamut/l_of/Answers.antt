-- `Gamut::l_of` meets its contract: the code's 12 and 0.5 by their patterns are the specification's. Assumes nothing.
use mathlib.Core.Path.{refl}
use lib.Ieee.{of_bits, of_int, round}
use Rattle.gamut.specs.Gamut.{level_of}
use Rattle.gamut.proofs.Gamut.l_of.Goals as goal

pub returns : goal.returns
unfolding level_of of_bits of_int round
returns c = refl
