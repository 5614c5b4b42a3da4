-- `color::lch_to_lab` meets its contract. Assumes nothing.
use mathlib.Core.Path.{refl}
use Rattle.color.specs.Color.{lch_to_lab}
use Rattle.color.proofs.lch_to_lab.Goals as goal

pub returns : goal.returns
unfolding lch_to_lab
returns c = refl
