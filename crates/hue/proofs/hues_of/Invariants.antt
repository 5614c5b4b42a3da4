-- `hues_of` meets its contract. The invariant: the degrees are the hues of the first i colours. Assumes nothing.
use mathlib.Core.Path.{◌≡◌}
use Rattle.hue.specs.Hue.{color_hues}
use Rattle.hue.proofs.hues_of.Given as goal

abbrev pub invariant-loop-i : goal.invariant-loop-i
invariant-loop-i l = l.degrees ≡ color_hues l.directions.cos.now l.directions.sin.now l.i l.colors
