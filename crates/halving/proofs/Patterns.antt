-- The bit patterns of the f32 that are not negative: what each is worth, that a larger pattern is worth more, and that each such f32 has one. Assumes nothing.
use mathlib.Core.Path.{◌≡◌, sym, ap, ◌∙◌, subst}
use mathlib.Core.Logic.{◌⊎◌, inl, inr}
use mathlib.Core.Bool.{false}
use Prim.Native.Nat.{ℕ, zero, suc, ◌+◌, ◌-◌, ◌*◌, ◌/◌, ◌%◌, ◌^◌, ◌≤◌, ◌<◌}
use native.Mathlib.Nat.{le_trans, le_of_lt, le_refl, mul-one, mul_assoc, mul-lt-mul_of_pos_right, pow-succ'}
use native.Mathlib.Omega.{arith}
use lib.Dec.{leb}
use lib.Pow.{pow_pos}
use lib.Ieee.{binary32, odd, of_fields, of_bits}
use lib.Ieee.Exact.{HasValue, odd_sign}
use borrow.Author.Tests.{lt-leb, ne_eqb}
use Rattle.halving.specs.Patterns.{worth_of, worth}
use Rattle.limits.proofs.Numbers.{below_or_not}

-- ---- q of 24 digits, or 2 ^ 24, times 2 ^ t units has the pattern t * 2 ^ 23 + q
field : (t q : ℕ) → 8388608 ≤ q → q < 16777216 → ((t * 8388608 + q) / 8388608 ≡ suc t) × ((t * 8388608 + q) % 8388608 ≡ q - 8388608)
field t q l u = omega arith

field_top : (t : ℕ) → ((t * 8388608 + 16777216) / 8388608 ≡ suc (suc t)) × ((t * 8388608 + 16777216) % 8388608 ≡ 0)
field_top t = omega arith

pub worth_normal : (t q : ℕ) → 8388608 ≤ q → q ≤ 16777216 → worth (t * 8388608 + q) ≡ q * 2 ^ t
unfolding worth worth_of
worth_normal t q l u = elim (below_or_not q 16777216) [ inl h ↦ low h | inr h ↦ high h ]
  where
    low : q < 16777216 → worth (t * 8388608 + q) ≡ q * 2 ^ t
    low h =
        let f = field t q l h in
        let e : 8388608 + (q - 8388608) ≡ q = omega arith in
        rw (f.0, f.1, e)

    high : 16777216 ≤ q → worth (t * 8388608 + q) ≡ q * 2 ^ t
    high h =
        let e : q ≡ 16777216 = omega arith in
        let f = field_top t in
        let d : 2 ^ suc t ≡ 2 * 2 ^ t = pow-succ' 2 t in
        let g : 8388608 * (2 * 2 ^ t) ≡ 16777216 * 2 ^ t = sym (mul_assoc 8388608 2 (2 ^ t)) in
        rw (e, f.0, f.1, d) g

pub worth_small : (b : ℕ) → b < 8388608 → worth b ≡ b
unfolding worth worth_of
worth_small b h =
    let f : b / 8388608 ≡ 0 = omega arith in
    let g : b % 8388608 ≡ b = omega arith in
    rw (f, g)

-- ---- a pattern is small, or it is of that form with a q below 2 ^ 24
pub record Normal (b : ℕ) : Type 0 where
  pub exponent : ℕ
  pub digits : ℕ
  pub is : b ≡ exponent * 8388608 + digits
  pub full : 8388608 ≤ digits
  pub fits : digits < 16777216

pub small_or_normal : (b : ℕ) → (b < 8388608) ⊎ Normal b
small_or_normal b = elim (below_or_not b 8388608) [
  | inl h ↦ inl h
  | inr h ↦ inr (record { exponent = b / 8388608 - 1; digits = 8388608 + b % 8388608; is = omega arith; full = omega arith; fits = omega arith })
]

-- ---- the next pattern is worth more
pub worth_next : (b : ℕ) → worth b < worth (suc b)
worth_next b = elim (small_or_normal b) [ inl h ↦ small h | inr n ↦ normal n ]
  where
    small : b < 8388608 → worth b < worth (suc b)
    small h = elim (below_or_not (suc b) 8388608) [
      | inl k ↦ rw (worth_small b h, worth_small (suc b) k) (le_refl (suc b))
      | inr k ↦
          let e : suc b ≡ 0 * 8388608 + 8388608 = omega arith in
          rw (worth_small b h, e, worth_normal 0 8388608 (omega arith) (omega arith)) (le_refl 8388608)
    ]

    normal : Normal b → worth b < worth (suc b)
    normal n =
        let t = n.exponent in
        let q = n.digits in
        let e : suc b ≡ t * 8388608 + suc q = let i = n.is in omega arith in
        let l = n.full in
        let u = n.fits in
        let x : worth b ≡ q * 2 ^ t = ap worth n.is ∙ worth_normal t q l (omega arith) in
        let y : worth (suc b) ≡ suc q * 2 ^ t = ap worth e ∙ worth_normal t (suc q) (omega arith) u in
        rw (x, y) (mul-lt-mul_of_pos_right (le_refl (suc q)) (pow_pos t))

pub worth_mono : (a d : ℕ) → worth a ≤ worth (a + d)
worth_mono a zero = let e : a + 0 ≡ a = omega arith in rw e (le_refl (worth a))
worth_mono a (suc d) =
    let e : a + suc d ≡ suc (a + d) = omega arith in
    rw e (le_trans (worth_mono a d) (le_of_lt (worth_next (a + d))))

pub worth_le : {a b : ℕ} → a ≤ b → worth a ≤ worth b
worth_le {a} {b} h = let e : a + (b - a) ≡ b = omega arith in rw e at (worth_mono a (b - a))

-- ---- a pattern stands for what it is worth, in units
plain : (x m : ℕ) → x < 255 → HasValue (of_fields binary32 false x m) false (worth_of x m) (2 ^ 149)
unfolding of_fields worth_of
plain zero m h = subst (λ (a : ℕ). HasValue (odd 24 false m 0 149) false a (2 ^ 149)) (mul-one m) (odd_sign 24 false m 0 149)
plain (suc x) m h = rw (ne_eqb (suc x) 255 (λ (e : suc x ≡ 255). omega arith)) (odd_sign 24 false (8388608 + m) x 149)

pub pattern_value : (b : ℕ) → b < 2139095040 → HasValue (of_bits binary32 b) false (worth b) (2 ^ 149)
unfolding of_bits worth
pattern_value b h =
    let s : leb 2147483648 b ≡ false = lt-leb 2147483648 b (omega arith) in
    let e : b % 2147483648 ≡ b = omega arith in
    rw (s, e) (plain (b / 8388608) (b % 8388608) (omega arith))
