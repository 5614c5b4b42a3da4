-- `color::cbrt_inside` meets its contract, by what the root's answer says. Assumes nothing.
use mathlib.Core.Path.{◌∙◌}
use Rattle.color.proofs.Inside.{inside}
use Rattle.color.proofs.cbrt_inside.Goals as goal

pub returns : goal.returns
returns c = c.unwrap_or.ensures ∙ inside 3 _ c.cbrt.result c.cbrt.ensures
