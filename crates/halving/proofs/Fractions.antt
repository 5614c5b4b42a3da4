-- What `Within` says by exact fractions: where x is b / d and y is a / d, and y is at most 2 ^ 134 units of 2 ^ -149 above x, a / d is at most 2 ^ -15 above b / d
-- (`by_fractions`). Assumes nothing.
use mathlib.Core.Path.{◌≡◌, sym, ap, ◌∙◌}
use mathlib.Core.Bool.{true, false}
use Prim.Native.Nat.{ℕ, ◌+◌, ◌*◌, ◌^◌, ◌≤◌, ◌<◌}
use native.Mathlib.Nat.{le_refl, le_antisymm, le_trans, le_of_eq, mul_assoc, add-mul, mul_comm, mul-le-mul_right, le_of_mul-le-mul_right}
use lib.Pow.{pow_pos, pow-add}
use lib.Ieee.{Float, binary32, to_bits, le}
use lib.Ieee.Exact.{HasValue}
use borrow.Author.Tests.{leb-true, le-leb}
use Rattle.halving.specs.Patterns.{worth}
use Rattle.halving.specs.Ends.{Within}
use Rattle.halving.proofs.Plain.{Plain, compared, le_plain, plain_units}

-- a number has as many units as any fraction that it is
units_of : (x : Float) → Plain x → (a d : ℕ) → 0 < d → HasValue x false a d → worth (to_bits binary32 x) * d ≡ a * 2 ^ 149
units_of x X a d D v =
    let w = worth (to_bits binary32 x) in
    let self : le x x ≡ true = le_plain x x X X ∙ le-leb (to_bits binary32 x) (to_bits binary32 x) (le_refl (to_bits binary32 x)) in
    let u = plain_units x X in
    le_antisymm
    (leb-true (w * d) (a * 2 ^ 149) (sym (compared x x w (2 ^ 149) a d (pow_pos 149) D u v).1 ∙ self))
    (leb-true (a * 2 ^ 149) (w * d) (sym (compared x x a d w (2 ^ 149) D (pow_pos 149) v u).1 ∙ self))

pub by_fractions : (x y : Float) → Plain x → Plain y → (a b d : ℕ) → 0 < d → HasValue y false a d → HasValue x false b d → Within (2 ^ 134) (x, y) → a * 2 ^ 15 ≤ b * 2 ^ 15 + d
by_fractions x y X Y a b d D v w h = le_of_mul-le-mul_right scaled (pow_pos 134)
  where
    whole : (n : ℕ) → n * 2 ^ 149 ≡ n * 2 ^ 15 * 2 ^ 134
    whole n = ap (λ (z : ℕ). n * z) (pow-add 2 15 134) ∙ sym (mul_assoc n (2 ^ 15) (2 ^ 134))

    wide : worth (to_bits binary32 y) * d ≤ (worth (to_bits binary32 x) + 2 ^ 134) * d
    wide = mul-le-mul_right d h

    scaled : a * 2 ^ 15 * 2 ^ 134 ≤ (b * 2 ^ 15 + d) * 2 ^ 134
    scaled =
        let l : a * 2 ^ 15 * 2 ^ 134 ≡ worth (to_bits binary32 y) * d = sym (whole a) ∙ sym (units_of y Y a d D v) in
        let r : (worth (to_bits binary32 x) + 2 ^ 134) * d ≡ (b * 2 ^ 15 + d) * 2 ^ 134 =
        add-mul (worth (to_bits binary32 x)) (2 ^ 134) d
        ∙ ap (λ (z : ℕ). z + 2 ^ 134 * d) (units_of x X b d D w ∙ whole b)
        ∙ ap (λ (z : ℕ). b * 2 ^ 15 * 2 ^ 134 + z) (mul_comm (2 ^ 134) d)
        ∙ sym (add-mul (b * 2 ^ 15) d (2 ^ 134)) in
        le_trans (le_of_eq l) (le_trans wide (le_of_eq r))
