-- One turn of the digit-by-digit root, over any degree n: what was taken of w so far is root ^ n and the rest, and the root is the greatest. Assumes nothing.
use mathlib.Core.Path.{◌≡◌, sym, ap, ◌∙◌}
use Prim.Native.Nat.{ℕ, zero, suc, ◌+◌, ◌-◌, ◌*◌, ◌/◌, ◌%◌, ◌^◌, ◌≤◌, ◌<◌}
use native.Mathlib.Nat.{mul_assoc, mul_comm, mul_left_comm, suc-mul, add_assoc, add_comm, add_left_comm, add-mul, mul-add, mul-le-mul_left, mul-suc, div-lt_iff_lt-mul, div-add-mod', mod-lt, mul-lt-mul_of_pos_right, mul-le-mul_right, pow-suc, pow-zero, mul-zero, mul-one, not-suc-le-zero, zero-mul}
use native.Mathlib.Omega.{arith}
use lib.Pow.{pow-add, pow_pos}
use Rattle.roots.proofs.Powers.{mul_pow}

pub record Taken (n w i root rest tail : ℕ) : Type 0 where
  pub sum : (root ^ n + rest) * 2 ^ (24 + n) + tail ≡ w * 2 ^ (i * n)
  pub greatest : root ^ n + rest < (root + 1) ^ n
  pub short : tail < 2 ^ (24 + n)
  pub digits : root < 2 ^ i

-- the next n digits brought down, in the plain numbers that stand for the powers
carry : (B D R r h l : ℕ) → (B * R + (r * B + h)) * (D * B) + l * B ≡ ((R + r) * (D * B) + (h * D + l)) * B
carry B D R r h l = simp (add-mul, mul-add, add_assoc, add_comm, add_left_comm, mul_assoc, mul_comm, mul_left_comm)

room : (B P h N : ℕ) → P < N → h < B → B * P + h < B * N
room B P h N p q =
    let e : B * suc P ≡ B * P + B = mul-suc B P in
    let l : B * suc P ≤ B * N = mul-le-mul_left B p in
    omega arith

evens : (r : ℕ) → 2 * r + 1 + 1 ≡ 2 * (r + 1)
evens r = omega arith

module _ (n w i root rest tail : ℕ) (state : Taken n w i root rest tail) where
  abbrev more : ℕ
  more = rest * 2 ^ n + tail / 16777216

  abbrev left : ℕ
  left = tail % 16777216 * 2 ^ n

  window : 2 ^ (24 + n) ≡ 16777216 * 2 ^ n
  window = pow-add 2 24 n

  double : (2 * root) ^ n ≡ 2 ^ n * root ^ n
  double = mul_pow 2 root n

  pub left_short : left < 2 ^ (24 + n)
  left_short = rw window (mul-lt-mul_of_pos_right (mod-lt tail (omega arith)) (pow_pos n))

  top_small : tail / 16777216 < 2 ^ n
  top_small = (div-lt_iff_lt-mul {k = 16777216} (omega arith)).1 (rw (mul_comm (2 ^ n) 16777216) (rw window at state.short))

  next_sum : ((2 * root) ^ n + more) * 2 ^ (24 + n) + left ≡ w * 2 ^ (suc i * n)
  next_sum =
      let B = 2 ^ n in
      let t : tail / 16777216 * 16777216 + tail % 16777216 ≡ tail = div-add-mod' tail 16777216 in
      let s : (root ^ n + rest) * (16777216 * B) + tail ≡ w * 2 ^ (i * n) = rw window at state.sum in
      let z : w * 2 ^ (suc i * n) ≡ w * 2 ^ (i * n) * B = ap (λ (x : ℕ). w * 2 ^ x) (suc-mul i n) ∙ ap (λ (x : ℕ). w * x) (pow-add 2 (i * n) n) ∙ sym (mul_assoc w (2 ^ (i * n)) B) in
      rw (window, double) (carry B 16777216 (root ^ n) rest (tail / 16777216) (tail % 16777216) ∙ ap (λ (x : ℕ). ((root ^ n + rest) * (16777216 * B) + x) * B) t ∙ ap (λ (x : ℕ). x * B) s ∙ sym z)

  next_greatest : (2 * root) ^ n + more < (2 * root + 1 + 1) ^ n
  next_greatest =
      let B = 2 ^ n in
      let h : B * (root ^ n + rest) + tail / 16777216 < B * (root + 1) ^ n = room B (root ^ n + rest) (tail / 16777216) ((root + 1) ^ n) state.greatest top_small in
      let e : B * (root ^ n + rest) ≡ B * root ^ n + B * rest = mul-add B (root ^ n) rest in
      let c : B * rest ≡ rest * B = mul_comm B rest in
      let d : (2 * root + 1 + 1) ^ n ≡ B * (root + 1) ^ n = ap (λ (x : ℕ). x ^ n) (evens root) ∙ mul_pow 2 (root + 1) n in
      rw (double, d) (omega arith)

  -- the next digit is 1
  pub one : (gain : ℕ) → (2 * root) ^ n + gain ≡ (2 * root + 1) ^ n → gain ≤ more → Taken n w (suc i) (2 * root + 1) (more - gain) left
  one gain g h =
      let e : (2 * root + 1) ^ n + (more - gain) ≡ (2 * root) ^ n + more = omega arith in
      record { sum = rw e next_sum; greatest = rw e next_greatest; short = left_short; digits = let d = state.digits in let t : 2 ^ suc i ≡ 2 ^ i * 2 = pow-suc 2 i in omega arith }

  -- the next digit is 0
  pub none : (gain : ℕ) → (2 * root) ^ n + gain ≡ (2 * root + 1) ^ n → more < gain → Taken n w (suc i) (2 * root) more left
  none gain g h = record { sum = next_sum; greatest = omega arith; short = left_short; digits = let d = state.digits in let t : 2 ^ suc i ≡ 2 ^ i * 2 = pow-suc 2 i in omega arith }

-- before the first turn nothing is taken
pub begin : (n w : ℕ) → 0 < n → w < 2 ^ (24 + n) → Taken n w 0 0 0 w
begin n w p u =
    let z : 0 ^ n ≡ 0 = zero_power n p in
    let o : (0 + 1) ^ n ≡ 1 = one_power n in
    let e : (0 ^ n + 0) * 2 ^ (24 + n) ≡ 0 = ap (λ (x : ℕ). (x + 0) * 2 ^ (24 + n)) z ∙ zero-mul (2 ^ (24 + n)) in
    let f : w * 2 ^ (0 * n) ≡ w = ap (λ (x : ℕ). w * 2 ^ x) (zero-mul n) ∙ mul-one w in
    record { sum = omega arith; greatest = omega arith; short = u; digits = omega arith }
  where
    zero_power : (n : ℕ) → 0 < n → 0 ^ n ≡ 0
    zero_power zero p = absurd (not-suc-le-zero p)
    zero_power (suc n) p = pow-suc 0 n ∙ mul-zero (0 ^ n)

    one_power : (n : ℕ) → 1 ^ n ≡ 1
    one_power zero = pow-zero 1
    one_power (suc n) = pow-suc 1 n ∙ mul-one (1 ^ n) ∙ one_power n

-- after the last turn the root is the greatest
pub finish : (n w i root rest tail : ℕ) → Taken n w i root rest tail → (root ^ n * 2 ^ (24 + n) ≤ w * 2 ^ (i * n)) × (w * 2 ^ (i * n) < (root + 1) ^ n * 2 ^ (24 + n))
finish n w i root rest tail s =
    let U = 2 ^ (24 + n) in
    let e : (root ^ n + rest) * U ≡ root ^ n * U + rest * U = add-mul (root ^ n) rest U in
    let l : suc (root ^ n + rest) * U ≤ (root + 1) ^ n * U = mul-le-mul_right U s.greatest in
    let m : suc (root ^ n + rest) * U ≡ (root ^ n + rest) * U + U = suc-mul (root ^ n + rest) U in
    let t = s.sum in
    let u = s.short in
    (omega arith, omega arith)
