-- An operand brought to 24 digits: by the leading zeros of its fraction bits where it is subnormal, by its exponent's field otherwise. Assumes nothing.
use mathlib.Core.Path.{◌≡◌, sym, ap, ◌∙◌}
use mathlib.Core.Logic.{inl, inr}
use Prim.Native.Nat.{ℕ, suc, ◌+◌, ◌-◌, ◌*◌, ◌/◌, ◌%◌, ◌^◌, ◌≤◌, ◌<◌}
use native.Mathlib.Nat.{lt_of_lt_of_le, mul_assoc, mul-le-mul_right, mul-lt-mul_of_pos_right, mod-eq_of_lt}
use native.Mathlib.Omega.{arith}
use lib.Count.{count_leading_zeros, leading_top}
use lib.Dec.{lit≤}
use lib.Pow.{pow-add, pow_pos, pow_mono}
use Rattle.halving.specs.Patterns.{worth}
use Rattle.limits.proofs.Numbers.{below_or_not}
use Rattle.halving.proofs.Patterns.{worth_small, worth_normal}

-- the shift z that brings f to 24 digits
pub record Shift (f : ℕ) : Type 0 where
  pub enough : 8 ≤ count_leading_zeros 32 f
  pub few : count_leading_zeros 32 f - 8 ≤ 23
  pub full : 8388608 ≤ f * 2 ^ (count_leading_zeros 32 f - 8)
  pub fits : f * 2 ^ (count_leading_zeros 32 f - 8) < 16777216

pub shift : (f : ℕ) → 0 < f → f < 8388608 → Shift f
shift f p u =
    let t = leading_top 32 f p (lt_of_lt_of_le u (lit≤ tt)) in
    let j = t.0 in
    let e : count_leading_zeros 32 f + suc j ≡ 32 = t.1 in
    let k : j < 23 = elim (below_or_not j 23) [ inl h ↦ h | inr h ↦ absurd (high j t.2 h) ] in
    let z : count_leading_zeros 32 f - 8 ≡ 23 - j = omega arith in
    let a : 2 ^ j * 2 ^ (23 - j) ≡ 8388608 = sym (pow-add 2 j (23 - j)) ∙ ap (λ (x : ℕ). 2 ^ x) (up j k) in
    let b : 2 ^ suc j * 2 ^ (23 - j) ≡ 16777216 = sym (pow-add 2 (suc j) (23 - j)) ∙ ap (λ (x : ℕ). 2 ^ x) (up_one j k) in
    record {
      enough = omega arith;
      few = omega arith;
      full = rw z (rw a at (mul-le-mul_right (2 ^ (23 - j)) t.2));
      fits = rw z (rw b at (mul-lt-mul_of_pos_right t.3 (pow_pos (23 - j))));
    }
  where
    high : (j : ℕ) → 2 ^ j ≤ f → 23 ≤ j → ⊥
    high j l h = let m : 8388608 ≤ 2 ^ j = pow_mono h in omega arith

    up : (j : ℕ) → j < 23 → j + (23 - j) ≡ 23
    up j h = omega arith

    up_one : (j : ℕ) → j < 23 → suc j + (23 - j) ≡ 24
    up_one j h = omega arith

-- what `normalise` promises of its result
abbrev pub Scaling : ℕ → ℕ → ℕ → Type 0
Scaling b s e = (worth b * 8388608 ≡ s * 2 ^ e) × ((8388608 ≤ s) × ((s < 16777216) × (e < 277)))

pub subnormal : (b : ℕ) → 0 < b → b / 8388608 ≡ 0
    → Scaling b (b % 8388608 * 2 ^ (count_leading_zeros 32 (b % 8388608) - 8) % 18446744073709551616) (23 - (count_leading_zeros 32 (b % 8388608) - 8))
subnormal b p h =
    let e : b % 8388608 ≡ b = omega arith in
    let u : b < 8388608 = omega arith in
    let s = shift b p u in
    let z = count_leading_zeros 32 b - 8 in
    let few = s.few in
    let w : b * 2 ^ z % 18446744073709551616 ≡ b * 2 ^ z = mod-eq_of_lt (lt_of_lt_of_le s.fits (lit≤ tt)) in
    let v : b * 8388608 ≡ b * 2 ^ z * 2 ^ (23 - z) = ap (λ (x : ℕ). b * 2 ^ x) (whole z few) ∙ ap (λ (x : ℕ). b * x) (pow-add 2 z (23 - z)) ∙ sym (mul_assoc b (2 ^ z) (2 ^ (23 - z))) in
    rw (e, w, worth_small b u) (v, (s.full, (s.fits, small z)))
  where
    whole : (z : ℕ) → z ≤ 23 → 23 ≡ z + (23 - z)
    whole z l = omega arith

    small : (z : ℕ) → 23 - z < 277
    small z = omega arith

pub normal : (b : ℕ) → b < 2139095040 → (b / 8388608 ≡ 0 → ⊥) → Scaling b (b % 8388608 + 8388608) (b / 8388608 + 22)
normal b u h =
    let t = b / 8388608 - 1 in
    let q = b % 8388608 + 8388608 in
    let e : b ≡ t * 8388608 + q = omega arith in
    let x : b / 8388608 + 22 ≡ t + 23 = omega arith in
    let v : worth b ≡ q * 2 ^ t = ap worth e ∙ worth_normal t q (omega arith) (omega arith) in
    let y : q * 2 ^ t * 8388608 ≡ q * 2 ^ (t + 23) = mul_assoc q (2 ^ t) 8388608 ∙ ap (λ (n : ℕ). q * n) (sym (pow-add 2 t 23)) in
    (ap (λ (n : ℕ). n * 8388608) v ∙ y ∙ ap (λ (n : ℕ). q * 2 ^ n) (sym x), (omega arith, (omega arith, omega arith)))
