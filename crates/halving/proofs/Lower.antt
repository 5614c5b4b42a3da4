-- The f32 subtraction of 0.05 from an f32 of 35 to 200 gives an f32 from plus 0 up with a smaller pattern: a loop that lowers a chroma by it ends. Assumes nothing.
use mathlib.Core.Path.{◌≡◌, refl, sym, ap, ◌∙◌, subst}
use mathlib.Core.Logic.{inl, inr}
use mathlib.Core.Bool.{true, false, true≢false}
use Prim.Native.Nat.{ℕ, suc, ◌+◌, ◌-◌, ◌*◌, ◌^◌, ◌≤◌, ◌<◌}
use native.Mathlib.Nat.{le_trans, le_of_eq, lt_of_le_of_lt, lt_of_lt_of_le, not-le_of_lt, mul_assoc, mul_comm, mul_right_comm, mul-one, mul-pos, mul-le-mul_right, suc-mul, le_of_mul-le-mul_right}
use native.Mathlib.Omega.{arith}
use lib.Dec.{T}
use lib.Pow.{pow_pos, pow_mono}
use lib.Ieee.{Float, nan, inf, fin, binary32, up, down, round, sub, le, fits, to_bits, of_int}
use lib.Ieee.Back.{round_whole}
use lib.Ieee.Bits.{is_true}
use lib.Ieee.Exact.{HasValue, round_exact}
use lib.Ieee.Fits.{down_pos, round-fits}
use lib.Ieee.Order.{round_mono}
use lib.Ieee.Scale.{round_same}
use borrow.Author.Tests.{leb-true, le-ltb}
use Rattle.limits.specs.Taken.{sign_bit, root_operand_taken, f32_of}
use Rattle.limits.proofs.Floats.{never, operand_pattern, round_sign}
use Rattle.halving.specs.Patterns.{worth}
use Rattle.limits.proofs.Numbers.{below_or_not, minus}
use Rattle.halving.proofs.Patterns.{Normal, small_or_normal, worth_small, worth_normal, worth_le}
use Rattle.halving.proofs.Midway.{Units}
use Rattle.halving.proofs.Plain.{Plain, compared, plain_units}

-- ---- a subtraction of no more than there is sees only the values
pub sub_values : (x y : Float) (a b u : ℕ) → 0 < u → b ≤ a → HasValue x false a u → HasValue y false b u → sub binary32 x y ≡ round binary32 false (a - b) u
unfolding sub
sub_values nan y a b u P h v w = absurd v
sub_values (inf s) y a b u P h v w = absurd v
sub_values (fin true m e) y a b u P h v w = absurd (true≢false v.0)
sub_values (fin false m e) nan a b u P h v w = absurd w
sub_values (fin false m e) (inf t) a b u P h v w = absurd w
sub_values (fin false m e) (fin true n d) a b u P h v w = absurd (true≢false w.0)
sub_values (fin false m e) (fin false n d) a b u P h v w =
    let A = m * up e * down d in
    let B = n * up d * down e in
    let D = down e * down d in
    let x : A * u ≡ a * D = mul_right_comm (m * up e) (down d) u ∙ ap (λ (z : ℕ). z * down d) v.1 ∙ mul_assoc a (down e) (down d) in
    let y : B * u ≡ b * D = mul_right_comm (n * up d) (down e) u ∙ ap (λ (z : ℕ). z * down e) w.1 ∙ mul_assoc b (down d) (down e) ∙ ap (λ (z : ℕ). b * z) (mul_comm (down d) (down e)) in
    let l : B ≤ A = le_of_mul-le-mul_right (le_trans (le_of_eq y) (le_trans (mul-le-mul_right D h) (le_of_eq (sym x)))) P in
    rw (le-ltb A B l) (round_same binary32 false (A - B) D (a - b) u (mul-pos (down_pos e) (down_pos d)) P (minus A B u ∙ ap (λ (z : ℕ). z - B * u) x ∙ ap (λ (z : ℕ). a * D - z) y ∙ sym (minus a b D)))

-- ---- what is at most a number of a units, with its sign bit clear
plain_below : (z y : Float) (a : ℕ) → T (fits binary32 z) → sign_bit z ≡ false → T (le z y) → Units y a → Plain z
unfolding le sign_bit root_operand_taken
plain_below nan y a F s l v = absurd l
plain_below (inf true) y a F s l v = never (sym s)
plain_below (inf false) nan a F s l v = absurd v
plain_below (inf false) (inf t) a F s l v = absurd v
plain_below (inf false) (fin t n d) a F s l v = absurd l
plain_below (fin true m e) y a F s l v = never (sym s)
plain_below (fin false m e) y a F s l v = record { f32 = F; under = operand_pattern (fin false m e) F refl }

-- ---- an f32 of (q + 1) * 2 ^ t units, up to 200, less at least 2 ^ t units: at most q * 2 ^ t units are left, which are an f32 too, and rounding keeps that order
top_worth : worth 1128792064 ≤ 2 ^ 277
unfolding worth
top_worth = leb-true (worth 1128792064) (2 ^ 277) refl

module _ (b q t d : ℕ) (top : b ≤ 1128792064) (is : worth b ≡ suc q * 2 ^ t) (few : q < 16777216) (far : 2 ^ t ≤ d) where
  abbrev z : Float
  z = round binary32 false (worth b - d) (2 ^ 149)

  less : (q * 2 ^ t < worth b) × (worth b - d ≤ q * 2 ^ t)
  less = let e : worth b ≡ q * 2 ^ t + 2 ^ t = is ∙ suc-mul q (2 ^ t) in let o : 0 < 2 ^ t = pow_pos t in omega arith

  rounded_below : Plain z × (to_bits binary32 z < b)
  rounded_below =
      let U = 2 ^ 149 in
      let Q = q * 2 ^ t in
      let y = round binary32 false Q U in
      let v : Units y Q = round_exact binary32 false Q U q t (pow_pos 149) few (lt_of_lt_of_le less.0 (le_trans (worth_le top) top_worth)) refl in
      let l : T (le z y) = round_mono binary32 (worth b - d) U Q U (pow_pos 149) (pow_pos 149) (mul-le-mul_right U less.1) in
      let p : Plain z = plain_below z y Q (round-fits binary32 false (worth b - d) U) (round_sign false (worth b - d) U) l v in
      let c = to_bits binary32 z in
      let k : worth c * U ≤ Q * U = leb-true (worth c * U) (Q * U) (sym (compared z y (worth c) U Q U (pow_pos 149) (pow_pos 149) (plain_units z p) v).1 ∙ is_true (le z y) l) in
      let h : worth c < worth b = lt_of_le_of_lt (le_of_mul-le-mul_right k (pow_pos 149)) less.0 in
      (p, elim (below_or_not c b) [ inl s ↦ s | inr s ↦ absurd (not-le_of_lt h (worth_le s)) ])

-- ---- 0.05 as an f32 is 13421773 / 2 ^ 28; the last digit of an f32 up to 200 is worth at most 2 ^ -16
abbrev step : Float
step = round binary32 false 5 (10 ^ 2)

step_units : Units step (13421773 * 2 ^ 121)
unfolding round
step_units = (refl, refl)

pub lower_falls : (x : Float) → Plain x → le (f32_of 35) x ≡ true → to_bits binary32 x ≤ 1128792064
    → Plain (sub binary32 x (round binary32 false 5 (10 ^ 2))) × (to_bits binary32 (sub binary32 x (round binary32 false 5 (10 ^ 2))) < to_bits binary32 x)
unfolding of_int
lower_falls x p h top = elim (small_or_normal b) [ inl s ↦ absurd (not-le_of_lt s (le_trans (leb-true 8388608 C refl) (le_trans enough (le_of_eq (worth_small b s))))) | inr n ↦ falls n ]
  where
    b : ℕ
    b = to_bits binary32 x

    C : ℕ
    C = 13421773 * 2 ^ 121

    enough : C ≤ worth b
    enough =
        let v = (compared (f32_of 35) x 35 1 (worth b) (2 ^ 149) (omega arith) (pow_pos 149) (round_whole binary32 false 35 (omega arith)) (plain_units x p)).1 in
        le_trans (leb-true C (35 * 2 ^ 149) refl) (le_trans (leb-true (35 * 2 ^ 149) (worth b * 1) (sym v ∙ h)) (le_of_eq (mul-one (worth b))))

    falls : Normal b → Plain (sub binary32 x step) × (to_bits binary32 (sub binary32 x step) < b)
    falls n =
        let t = n.exponent in
        let q = n.digits in
        let e : q ≡ suc (q - 1) = omega (arith, n.full) in
        let w : worth b ≡ suc (q - 1) * 2 ^ t = ap worth n.is ∙ worth_normal t q n.full (omega (arith, n.fits)) ∙ ap (λ (a : ℕ). a * 2 ^ t) e in
        subst (λ (z : Float). Plain z × (to_bits binary32 z < b)) (sym (sub_values x step (worth b) C (2 ^ 149) (pow_pos 149) enough (plain_units x p) step_units))
        (rounded_below b (q - 1) t C top w (omega (arith, n.fits)) (le_trans (pow_mono {i = t} {j = 133} (omega (arith, n.is, n.full))) (leb-true (2 ^ 133) C refl)))
