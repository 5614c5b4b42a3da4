-- `color::lab_f` meets its contract, by its test. Assumes nothing.
use mathlib.Core.Path.{◌≡◌, ◌∙◌}
use mathlib.Core.Bool.{true, false}
use lib.Ieee.{Float, binary32, of_bits, add, mul, div, round, lt}
use Rattle.color.specs.Constants.{delta_cubed, slope, offset}
use Rattle.color.specs.Color.{root_inside, lab_f}
use Rattle.color.proofs.lab_f.Goals as goal

above : (t : Float) → lt delta_cubed t ≡ true → root_inside 3 t ≡ lab_f t
unfolding lab_f
above t h = rw h

not_above : (t : Float) → lt delta_cubed t ≡ false → add binary32 (mul binary32 t slope) offset ≡ lab_f t
unfolding lab_f
not_above t h = rw h

pub returns-then-t : goal.returns-then-t
unfolding delta_cubed slope offset of_bits div round
returns-then-t c = c.cbrt_inside.ensures ∙ above _ c.if-t.true

pub returns : goal.returns
unfolding delta_cubed slope offset of_bits div round
returns c = not_above _ c.if-t.false
