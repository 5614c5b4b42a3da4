-- `color::sqrt_inside` meets its contract, by what the root's answer says. Assumes nothing.
use mathlib.Core.Path.{◌∙◌}
use Rattle.color.proofs.Inside.{inside}
use Rattle.color.proofs.sqrt_inside.Goals as goal

pub returns : goal.returns
returns c = c.unwrap_or.ensures ∙ inside 2 _ c.sqrt.result c.sqrt.ensures
