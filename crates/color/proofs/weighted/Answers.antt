-- `color::weighted` meets its contract. Assumes nothing.
use mathlib.Core.Path.{refl}
use Rattle.color.specs.Color.{weigh}
use Rattle.color.proofs.weighted.Goals as goal

pub returns : goal.returns
unfolding weigh
returns c = refl
