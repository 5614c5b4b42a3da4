-- `halving::midpoint` meets its contract: the code's 0.5 by its pattern is the specification's. Assumes nothing.
use mathlib.Core.Path.{refl}
use lib.Ieee.{of_bits, round}
use Rattle.halving.specs.Midpoint.{midpoint}
use Rattle.halving.proofs.midpoint.Goals as goal

pub returns : goal.returns
unfolding midpoint of_bits round
returns c = refl
