-- `limits::takes_root_operand` meets its contract: with the sign bit clear, to be finite is to be below the infinity. Assumes nothing.
use mathlib.Core.Path.{◌≡◌, refl, sym, ◌∙◌}
use mathlib.Core.Bool.{true, false}
use lib.Ieee.{Float, nan, inf, fin, is_nan, lt, of_bits}
use Rattle.limits.specs.Taken.{sign_bit, sign_clear, root_operand_taken}
use Rattle.limits.proofs.takes_root_operand.Goals as goal

clear : (x : Float) → sign_clear x ≡ true → lt x (inf false) ≡ root_operand_taken x
unfolding sign_clear sign_bit is_nan lt root_operand_taken
clear nan e = cc
clear (inf true) e = cc
clear (inf false) e = refl
clear (fin true m k) e = cc
clear (fin false m k) e = refl

not_clear : (x : Float) → sign_clear x ≡ false → false ≡ root_operand_taken x
unfolding sign_clear sign_bit is_nan lt root_operand_taken
not_clear nan e = refl
not_clear (inf s) e = refl
not_clear (fin true m k) e = refl
not_clear (fin false m k) e = cc

pub returns-then-sign_clear : goal.returns-then-sign_clear
unfolding of_bits
returns-then-sign_clear c = clear _ (sym c.sign_clear.ensures ∙ c.if-sign_clear.true)

pub returns-else-sign_clear : goal.returns-else-sign_clear
returns-else-sign_clear c = c.if-sign_clear.false ∙ not_clear _ (sym c.sign_clear.ensures ∙ c.if-sign_clear.false)
