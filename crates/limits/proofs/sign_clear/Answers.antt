-- `limits::sign_clear` meets its contract: past the first test the operand is no NaN, so its pattern is defined, and the pattern's top bit is the sign. Assumes nothing.
use mathlib.Core.Path.{◌≡◌, sym, subst, ap, ◌∙◌}
use mathlib.Core.Bool.{true, false, not}
use lib.Dec.{T}
use lib.Ieee.{Float, is_nan, eq, ne}
use Rattle.limits.specs.Taken.{sign_bit, sign_clear}
use Rattle.limits.proofs.Floats.{differs, top_bit}
use Rattle.limits.proofs.sign_clear.Goals as goal
use Rattle.limits.proofs.sign_clear.Goals.{Then-x}

no_nan : (x : Float) → eq x x ≡ true → is_nan x ≡ false
unfolding ne
no_nan x e = sym (differs x) ∙ ap not e

by_sign : (x : Float) → is_nan x ≡ false → not (sign_bit x) ≡ sign_clear x
unfolding sign_clear
by_sign x h = rw h

is_nan_not_clear : (x : Float) → eq x x ≡ false → false ≡ sign_clear x
unfolding sign_clear ne
is_nan_not_clear x e = let h : is_nan x ≡ true = sym (differs x) ∙ ap not e in rw h

pub float_to_bits-result : goal.float_to_bits-result
float_to_bits-result c = rw (no_nan _ c.if-x.true) tt

pub returns-then-x : goal.returns-then-x
returns-then-x c = let h = no_nan c.args.x c.if-x.true in top_bit _ (subst T (sym c.well_formed.0.1) tt) h ∙ by_sign _ h

pub returns-else-x : goal.returns-else-x
returns-else-x c = c.if-x.false ∙ is_nan_not_clear _ c.if-x.false
