-- No tie arises: the exact root of an f32 is never half way between two neighbouring f32, over every degree. Assumes nothing.
use mathlib.Core.Path.{◌≡◌, refl, sym, ap, ◌∙◌}
use mathlib.Core.Logic.{◌⊎◌, inl, inr}
use Prim.Native.Nat.{ℕ, zero, suc, ◌+◌, ◌-◌, ◌*◌, ◌/◌, ◌%◌, ◌^◌, ◌≤◌, ◌<◌}
use native.Mathlib.Nat.{le_trans, mul_assoc, mul_comm, mul-one, one-mul, mul-le-mul_left, mul-le-mul_right, pow-suc, pow-zero, pow-succ', pow-le-pow_left, eq_of_mul-eq-mul_right, add-mul, not-suc-le-zero, mul_left_comm}
use native.Mathlib.Omega.{arith}
use lib.Pow.{pow-add, pow_pos}
use Rattle.halving.specs.Patterns.{worth}
use Rattle.limits.proofs.Numbers.{below_or_not}
use Rattle.halving.proofs.Patterns.{Normal, small_or_normal, worth_small, worth_normal}
use Rattle.roots.proofs.Powers.{mul_pow, pow_pow}

-- ---- odd numbers
odd_product : (a b : ℕ) → a % 2 ≡ 1 → b % 2 ≡ 1 → a * b % 2 ≡ 1
odd_product a b p q =
    let x = a / 2 in
    let e : a ≡ x * 2 + 1 = omega arith in
    let f : a * b ≡ x * 2 * b + 1 * b = ap (λ (n : ℕ). n * b) e ∙ add-mul (x * 2) 1 b in
    let g : x * 2 * b ≡ 2 * (x * b) = ap (λ (n : ℕ). n * b) (mul_comm x 2) ∙ mul_assoc 2 x b in
    omega arith

odd_power : (a n : ℕ) → a % 2 ≡ 1 → a ^ n % 2 ≡ 1
odd_power a zero p = rw (pow-zero a) refl
odd_power a (suc n) p = rw (pow-suc a n) (odd_product (a ^ n) a (odd_power a n p) p)

-- a power of a number is at least the number
grows : (a n : ℕ) → 0 < a → 0 < n → a ≤ a ^ n
grows a zero p q = absurd (not-suc-le-zero q)
grows a (suc n) p q =
    let e : 1 ^ n ≡ 1 = ones n in
    let h : 1 ≤ a ^ n = le_trans (rw e (omega arith)) (pow-le-pow_left p n) in
    let m : 1 * a ≤ a ^ n * a = mul-le-mul_right a h in
    rw (pow-suc a n) (rw (one-mul a) at m)
  where
    ones : (n : ℕ) → 1 ^ n ≡ 1
    ones zero = pow-zero 1
    ones (suc n) = pow-suc 1 n ∙ mul-one (1 ^ n) ∙ ones n

-- an odd number of more than 24 digits, times a power of two, is no number of 24 digits times a power of two
apart : (o m s k : ℕ) → o % 2 ≡ 1 → 16777216 < o → m < 16777216 → o * 2 ^ s ≡ m * 2 ^ k → ⊥
apart o m zero zero p u v e = let a = mul-one o in let b = mul-one m in omega (arith, e)
apart o m zero (suc k) p u v e =
    let a : m * 2 ^ suc k ≡ 2 * (m * 2 ^ k) = ap (λ (x : ℕ). m * x) (pow-succ' 2 k) ∙ mul_left_comm m 2 (2 ^ k) in
    let b = mul-one o in
    omega (arith, e)
apart o m (suc s) zero p u v e =
    let a : o * 1 ≤ o * 2 ^ suc s = mul-le-mul_left o (pow_pos (suc s)) in
    let b = mul-one m in
    omega (arith, e)
apart o m (suc s) (suc k) p u v e =
    apart o m s k p u v (eq_of_mul-eq-mul_right 2 (omega arith) (o * 2 ^ s) (m * 2 ^ k)
    (mul_assoc o (2 ^ s) 2 ∙ ap (λ (x : ℕ). o * x) (sym (pow-suc 2 s)) ∙ e ∙ ap (λ (x : ℕ). m * x) (pow-suc 2 k) ∙ sym (mul_assoc m (2 ^ k) 2)))

-- ---- an f32 has at most 24 digits
pub record Digits (b : ℕ) : Type 0 where
  pub shift : ℕ
  pub number : ℕ
  pub is : worth b ≡ number * 2 ^ shift
  pub few : number < 16777216

pub digits_of : (b : ℕ) → Digits b
digits_of b = elim (small_or_normal b) [
  | inl h ↦ record { shift = 0; number = b; is = worth_small b h ∙ sym (mul-one b); few = omega arith }
  | inr n ↦
      let l = n.full in
      let u = n.fits in
      record { shift = n.exponent; number = n.digits; is = ap worth n.is ∙ worth_normal n.exponent n.digits l (omega arith); few = n.fits }
]

module _ (n m : ℕ) (degree : 0 < n) where
  -- 2 ^ n times the operand, in units that the n-th power of the root has
  abbrev pub operand : ℕ
  operand = 2 ^ n * (worth m * 2 ^ (149 * (n - 1)))

  even : operand % 2 ≡ 0
  even =
      let x = worth m * 2 ^ (149 * (n - 1)) in
      let e : suc (n - 1) ≡ n = omega arith in
      let p : 2 ^ n ≡ 2 * 2 ^ (n - 1) = ap (λ (k : ℕ). 2 ^ k) (sym e) ∙ pow-succ' 2 (n - 1) in
      let f : 2 ^ n * x ≡ 2 * (2 ^ (n - 1) * x) = ap (λ (k : ℕ). k * x) p ∙ mul_assoc 2 (2 ^ (n - 1)) x in
      omega arith

  -- half way between two subnormal f32 is an odd number of half units
  small : (b : ℕ) → b < 8388608 → (worth b + worth (suc b)) ^ n ≡ operand → ⊥
  small b h e =
      let s : worth (suc b) ≡ suc b = next (below_or_not (suc b) 8388608) in
      let o : (b + suc b) ^ n % 2 ≡ 1 = odd_power (b + suc b) n (omega arith) in
      let f : (b + suc b) ^ n ≡ operand = rw (worth_small b h, s) at e in
      let g = even in
      omega arith
    where
      next : (suc b < 8388608) ⊎ (8388608 ≤ suc b) → worth (suc b) ≡ suc b
      next (inl k) = worth_small (suc b) k
      next (inr k) = let x : suc b ≡ 0 * 8388608 + 8388608 = omega arith in rw x (worth_normal 0 8388608 (omega arith) (omega arith))

  -- half way between two others has 25 digits, all needed
  large : (b : ℕ) → Normal b → (worth b + worth (suc b)) ^ n ≡ operand → ⊥
  large b k e =
      let t = k.exponent in
      let q = k.digits in
      let l = k.full in
      let u = k.fits in
      let i = k.is in
      let d = digits_of m in
      let x : worth b ≡ q * 2 ^ t = ap worth i ∙ worth_normal t q l (omega arith) in
      let z : suc b ≡ t * 8388608 + suc q = omega arith in
      let y : worth (suc b) ≡ suc q * 2 ^ t = ap worth z ∙ worth_normal t (suc q) (omega arith) u in
      let w : worth b + worth (suc b) ≡ (q + suc q) * 2 ^ t = rw (x, y) (sym (add-mul q (suc q) (2 ^ t))) in
      let lhs : (worth b + worth (suc b)) ^ n ≡ (q + suc q) ^ n * 2 ^ (t * n) = ap (λ (v : ℕ). v ^ n) w ∙ mul_pow (q + suc q) (2 ^ t) n ∙ ap (λ (v : ℕ). (q + suc q) ^ n * v) (sym (pow_pow 2 t n)) in
      let s = d.shift in
      let c = d.number in
      let rhs : operand ≡ c * 2 ^ (n + (s + 149 * (n - 1))) =
      ap (λ (v : ℕ). 2 ^ n * (v * 2 ^ (149 * (n - 1)))) d.is
      ∙ ap (λ (v : ℕ). 2 ^ n * v) (mul_assoc c (2 ^ s) (2 ^ (149 * (n - 1))))
      ∙ mul_left_comm (2 ^ n) c (2 ^ s * 2 ^ (149 * (n - 1)))
      ∙ ap (λ (v : ℕ). c * (2 ^ n * v)) (sym (pow-add 2 s (149 * (n - 1))))
      ∙ ap (λ (v : ℕ). c * v) (sym (pow-add 2 n (s + 149 * (n - 1)))) in
      let o : (q + suc q) ^ n % 2 ≡ 1 = odd_power (q + suc q) n (omega arith) in
      let g : q + suc q ≤ (q + suc q) ^ n = grows (q + suc q) n (omega arith) degree in
      apart ((q + suc q) ^ n) c (t * n) (n + (s + 149 * (n - 1))) o (omega arith) d.few (sym lhs ∙ e ∙ rhs)

  pub no_tie : (b : ℕ) → (worth b + worth (suc b)) ^ n ≡ operand → ⊥
  no_tie b e = elim (small_or_normal b) [ inl h ↦ small b h e | inr k ↦ large b k e ]
