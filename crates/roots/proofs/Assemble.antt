-- From 25 digits h of the root to the f32 nearest it: half of h, rounded, under the exponent T. Over the degree n. Assumes nothing.
use mathlib.Core.Path.{◌≡◌, sym, ap, ◌∙◌, subst}
use mathlib.Core.Logic.{◌⊎◌, inl, inr}
use Prim.Native.Nat.{ℕ, suc, ◌+◌, ◌-◌, ◌*◌, ◌/◌, ◌%◌, ◌^◌, ◌≤◌, ◌<◌}
use native.Mathlib.Nat.{le_trans, le_of_lt, le_of_eq, lt_of_lt_of_le, not-le_of_lt, mul_assoc, mul_comm, mul_left_comm, mul_right_comm, mul-le-mul, mul-le-mul_left, mul-le-mul_right, mul-lt-mul_of_pos_right, le_of_mul-le-mul_right, eq_of_mul-eq-mul_right, add-mul, pow-le-pow_left, div-add-mod', mod-eq_of_lt}
use native.Mathlib.Omega.{arith}
use lib.Arith.{lt_of_le-ne}
use lib.Pow.{pow-add, pow_pos, pow_mono}
use Rattle.halving.specs.Patterns.{worth, least, half_way}
use Rattle.limits.proofs.Numbers.{below_or_not}
use Rattle.halving.proofs.Patterns.{worth_normal, worth_next}
use Rattle.halving.proofs.Nearest.{nearest_is}
use Rattle.roots.proofs.Powers.{mul_pow, pow_pow}
use Rattle.roots.proofs.NoTie.{operand, no_tie}

-- ---- a root between h and h + 1, times 2 ^ t: the f32 nearest it
module _ (n m h t : ℕ) (degree : 0 < n) (low : (h * 2 ^ t) ^ n ≤ operand n m degree) (high : operand n m degree ≤ ((h + 1) * 2 ^ t) ^ n)
    (full : 16777216 ≤ h) (fits : h < 33554432) where
  abbrev q : ℕ
  q = (h + 1) / 2

  abbrev r : ℕ
  r = t * 8388608 + q

  -- the units and the 2 multiplied out, as `half_way` has them
  scaled : 2 ^ n * (worth m * 2 ^ (149 * n)) ≡ operand n m degree * 2 ^ 149
  scaled =
      let e : 149 * n ≡ 149 * (n - 1) + 149 = omega arith in
      ap (λ (x : ℕ). 2 ^ n * (worth m * 2 ^ x)) e
      ∙ ap (λ (x : ℕ). 2 ^ n * (worth m * x)) (pow-add 2 (149 * (n - 1)) 149)
      ∙ ap (λ (x : ℕ). 2 ^ n * x) (sym (mul_assoc (worth m) (2 ^ (149 * (n - 1))) (2 ^ 149)))
      ∙ sym (mul_assoc (2 ^ n) (worth m * 2 ^ (149 * (n - 1))) (2 ^ 149))

  is : worth r ≡ q * 2 ^ t
  is = worth_normal t q (omega arith) (omega arith)

  -- half way up from r is at least h + 1
  up : (h + 1) * 2 ^ t ≤ worth r + worth (suc r)
  up = elim (below_or_not (2 * q) (h + 1)) [ inl k ↦ even k | inr k ↦ odd k ]
    where
      even : 2 * q < h + 1 → (h + 1) * 2 ^ t ≤ worth r + worth (suc r)
      even k =
          let e : suc r ≡ t * 8388608 + suc q = omega arith in
          let y : worth (suc r) ≡ suc q * 2 ^ t = ap worth e ∙ worth_normal t (suc q) (omega arith) (omega arith) in
          let s : h + 1 ≡ q + suc q = omega arith in
          rw (is, y) (le_of_eq (ap (λ (x : ℕ). x * 2 ^ t) s ∙ add-mul q (suc q) (2 ^ t)))

      odd : h + 1 ≤ 2 * q → (h + 1) * 2 ^ t ≤ worth r + worth (suc r)
      odd k =
          let s : h + 1 ≡ q + q = omega arith in
          let e : (q + q) * 2 ^ t ≡ q * 2 ^ t + q * 2 ^ t = add-mul q q (2 ^ t) in
          let i = is in
          let x = worth_next r in
          le_trans (le_of_eq (ap (λ (y : ℕ). y * 2 ^ t) s)) (omega arith)

  -- half way up to r is at most h
  down : (b : ℕ) → suc b ≡ r → worth b + worth r ≤ h * 2 ^ t
  down b j = elim (below_or_not h (2 * q)) [ inl k ↦ odd k | inr k ↦ even k ]
    where
      even : 2 * q ≤ h → worth b + worth r ≤ h * 2 ^ t
      even k =
          let s : h ≡ q + q = omega arith in
          let e : (q + q) * 2 ^ t ≡ q * 2 ^ t + q * 2 ^ t = add-mul q q (2 ^ t) in
          let x : worth b < worth r = subst (λ (y : ℕ). worth b < worth y) j (worth_next b) in
          let i = is in
          le_trans (omega arith) (le_of_eq (sym (ap (λ (y : ℕ). y * 2 ^ t) s)))

      odd : h < 2 * q → worth b + worth r ≤ h * 2 ^ t
      odd k =
          let e : b ≡ t * 8388608 + (q - 1) = omega arith in
          let y : worth b ≡ (q - 1) * 2 ^ t = ap worth e ∙ worth_normal t (q - 1) (omega arith) (omega arith) in
          let s : h ≡ (q - 1) + q = omega arith in
          rw (is, y) (le_of_eq (sym (add-mul (q - 1) q (2 ^ t)) ∙ ap (λ (x : ℕ). x * 2 ^ t) (sym s)))

  pub nearest : t < 253 → least (half_way n (worth m) (2 ^ 149)) 31 0 ≡ r
  nearest small = nearest_is n (worth m) (2 ^ 149) r (omega arith) reached missed
    where
      reached : 2 ^ n * (worth m * 2 ^ (149 * n)) ≤ (worth r + worth (suc r)) ^ n * 2 ^ 149
      reached = rw scaled (mul-le-mul_right (2 ^ 149) (le_trans high (pow-le-pow_left up n)))

      missed : (b : ℕ) → suc b ≡ r → (worth b + worth r) ^ n * 2 ^ 149 < 2 ^ n * (worth m * 2 ^ (149 * n))
      missed b j =
          let l : (worth b + worth r) ^ n ≤ operand n m degree = le_trans (pow-le-pow_left (down b j) n) low in
          let d : (worth b + worth r) ^ n ≡ operand n m degree → ⊥ = λ e. no_tie n m degree b (ap (λ (y : ℕ). (worth b + worth y) ^ n) j ∙ e) in
          rw scaled (mul-lt-mul_of_pos_right (lt_of_le-ne l d) (pow_pos 149))

-- ---- the operand s * 2 ^ (1 + g) as w * 2 ^ (n * d), and what 25 digits of the root of w say of it
module _ (n m s e w h z : ℕ) (degree : 0 < n)
    (scaling : worth m * 8388608 ≡ s * 2 ^ e) (s-full : 8388608 ≤ s)
    (g : ℕ) (g-is : g + 24 ≡ e + 149 * (n - 1)) (w-is : w ≡ s * 2 ^ (1 + g % n))
    (below : h ^ n * 2 ^ (24 + n) ≤ w * 2 ^ (25 * n)) (above : w * 2 ^ (25 * n) < (h + 1) ^ n * 2 ^ (24 + n))
    (zeros : n * z + (24 + n) ≡ 24 * n) (enough : z ≤ g / n) where
  abbrev d : ℕ
  d = g / n

  abbrev t : ℕ
  t = d - z

  -- the operand is w, moved up by whole groups of n digits
  whole : worth m * 2 ^ (149 * (n - 1)) ≡ w * 2 ^ (d * n)
  whole =
      let a : worth m * 2 ^ (149 * (n - 1)) * 8388608 ≡ s * 2 ^ (e + 149 * (n - 1)) =
      mul_right_comm (worth m) (2 ^ (149 * (n - 1))) 8388608
      ∙ ap (λ (x : ℕ). x * 2 ^ (149 * (n - 1))) scaling
      ∙ mul_assoc s (2 ^ e) (2 ^ (149 * (n - 1)))
      ∙ ap (λ (x : ℕ). s * x) (sym (pow-add 2 e (149 * (n - 1)))) in
      let k : e + 149 * (n - 1) ≡ 1 + g % n + d * n + 23 = let c : d * n + g % n ≡ g = div-add-mod' g n in omega arith in
      let b : s * 2 ^ (1 + g % n + d * n + 23) ≡ w * 2 ^ (d * n) * 8388608 =
      ap (λ (x : ℕ). s * x) (pow-add 2 (1 + g % n + d * n) 23)
      ∙ sym (mul_assoc s (2 ^ (1 + g % n + d * n)) 8388608)
      ∙ ap (λ (x : ℕ). s * x * 8388608) (pow-add 2 (1 + g % n) (d * n))
      ∙ ap (λ (x : ℕ). x * 8388608) (sym (mul_assoc s (2 ^ (1 + g % n)) (2 ^ (d * n))))
      ∙ ap (λ (x : ℕ). x * 2 ^ (d * n) * 8388608) (sym w-is) in
      eq_of_mul-eq-mul_right 8388608 (omega arith) (worth m * 2 ^ (149 * (n - 1))) (w * 2 ^ (d * n)) (a ∙ ap (λ (x : ℕ). s * 2 ^ x) k ∙ b)

  -- both sides of a comparison with w * 2 ^ (25 * n), moved up alike
  left : operand n m degree * 2 ^ (24 * n) ≡ w * 2 ^ (25 * n) * 2 ^ (d * n)
  left =
      let k : 25 * n ≡ n + 24 * n = omega arith in
      ap (λ (x : ℕ). 2 ^ n * x * 2 ^ (24 * n)) whole
      ∙ mul_right_comm (2 ^ n) (w * 2 ^ (d * n)) (2 ^ (24 * n))
      ∙ ap (λ (x : ℕ). x * (w * 2 ^ (d * n))) (sym (pow-add 2 n (24 * n)))
      ∙ ap (λ (x : ℕ). 2 ^ x * (w * 2 ^ (d * n))) (sym k)
      ∙ mul_left_comm (2 ^ (25 * n)) w (2 ^ (d * n))
      ∙ sym (mul_assoc w (2 ^ (25 * n)) (2 ^ (d * n)))

  right : (a : ℕ) → (a * 2 ^ t) ^ n * 2 ^ (24 * n) ≡ a ^ n * 2 ^ (24 + n) * 2 ^ (d * n)
  right a =
      let c : t * n + z * n ≡ d * n = sym (add-mul t z n) ∙ ap (λ (x : ℕ). x * n) (back d z enough) in
      let y : n * z ≡ z * n = mul_comm n z in
      let k : t * n + 24 * n ≡ 24 + n + d * n = omega arith in
      ap (λ (x : ℕ). x * 2 ^ (24 * n)) (mul_pow a (2 ^ t) n)
      ∙ ap (λ (x : ℕ). a ^ n * x * 2 ^ (24 * n)) (sym (pow_pow 2 t n))
      ∙ mul_assoc (a ^ n) (2 ^ (t * n)) (2 ^ (24 * n))
      ∙ ap (λ (x : ℕ). a ^ n * x) (sym (pow-add 2 (t * n) (24 * n)) ∙ ap (λ (x : ℕ). 2 ^ x) k ∙ pow-add 2 (24 + n) (d * n))
      ∙ sym (mul_assoc (a ^ n) (2 ^ (24 + n)) (2 ^ (d * n)))
    where
      back : (x y : ℕ) → y ≤ x → x - y + y ≡ x
      back x y l = omega arith

  pub lower : (h * 2 ^ t) ^ n ≤ operand n m degree
  lower = le_of_mul-le-mul_right (rw (right h, left) (mul-le-mul_right (2 ^ (d * n)) below)) (pow_pos (24 * n))

  pub upper : operand n m degree ≤ ((h + 1) * 2 ^ t) ^ n
  upper = le_of_mul-le-mul_right (rw (right (h + 1), left) (mul-le-mul_right (2 ^ (d * n)) (le_of_lt above))) (pow_pos (24 * n))

  -- h has 25 digits
  pub all_digits : 16777216 ≤ h
  all_digits = elim (below_or_not h 16777216) [ inl k ↦ absurd (short k) | inr k ↦ k ]
    where
      short : h < 16777216 → ⊥
      short k =
          let a : (h + 1) ^ n ≤ 2 ^ (24 * n) = le_trans (pow-le-pow_left {m = 16777216} (omega arith) n) (le_of_eq (sym (pow_pow 2 24 n))) in
          let b : (h + 1) ^ n * 2 ^ (24 + n) ≤ 2 ^ (24 * n) * 2 ^ (24 + n) = mul-le-mul_right (2 ^ (24 + n)) a in
          let x : 24 * n + (24 + n) ≡ 24 + 25 * n = omega arith in
          let c : 2 ^ (24 * n) * 2 ^ (24 + n) ≡ 16777216 * 2 ^ (25 * n) = sym (pow-add 2 (24 * n) (24 + n)) ∙ ap (λ (y : ℕ). 2 ^ y) x ∙ pow-add 2 24 (25 * n) in
          let p = pow_pos (g % n) in
          let o : 2 ≤ 2 ^ (1 + g % n) = le_trans {m = 2 * 2 ^ (g % n)} (omega arith) (le_of_eq (sym (pow-add 2 1 (g % n)))) in
          let f : 16777216 ≤ w = rw w-is (mul-le-mul s-full o) in
          let i : 16777216 * 2 ^ (25 * n) ≤ w * 2 ^ (25 * n) = mul-le-mul_right (2 ^ (25 * n)) f in
          let j : w * 2 ^ (25 * n) < 16777216 * 2 ^ (25 * n) = lt_of_lt_of_le above (rw c at b) in
          not-le_of_lt j i

-- ---- the numbers on the way, at the two degrees
pub record Ranges (n e : ℕ) : Type 0 where
  pub positive : 0 < n
  pub units : 149 * (n - 1) ≤ 298
  pub enough : 24 ≤ e + 149 * (n - 1)
  pub least_group : 16 ≤ (e + 149 * (n - 1) - 24) / n
  pub most_group : (e + 149 * (n - 1) - 24) / n ≤ 200
  pub left_over : 1 + (e + 149 * (n - 1) - 24) % n ≤ n
  pub degree_le : n ≤ 3

pub ranges : (n e : ℕ) → (n ≡ 2) ⊎ (n ≡ 3) → e < 277 → Ranges n e
ranges n e (inl d) u = subst (λ (k : ℕ). Ranges k e) (sym d) (record {
  positive = omega arith;
  units = omega arith;
  enough = omega arith;
  least_group = omega arith;
  most_group = omega arith;
  left_over = omega arith;
  degree_le = omega arith;
})
ranges n e (inr d) u = subst (λ (k : ℕ). Ranges k e) (sym d) (record {
  positive = omega arith;
  units = omega arith;
  enough = omega arith;
  least_group = omega arith;
  most_group = omega arith;
  left_over = omega arith;
  degree_le = omega arith;
})

-- the significand moved up by at most n digits: nothing is lost in 64 bits
pub moved : (n s k : ℕ) → s < 16777216 → k ≤ n → n ≤ 3 → (s * 2 ^ k % 18446744073709551616 ≡ s * 2 ^ k) × (s * 2 ^ k < 2 ^ (24 + n))
moved n s k u l d =
    let a : s * 2 ^ k < 16777216 * 2 ^ k = mul-lt-mul_of_pos_right u (pow_pos k) in
    let b : 16777216 * 2 ^ k ≤ 16777216 * 2 ^ n = mul-le-mul_left 16777216 (pow_mono l) in
    let c : 2 ^ n ≤ 8 = pow_mono d in
    let e : 2 ^ (24 + n) ≡ 16777216 * 2 ^ n = pow-add 2 24 n in
    (mod-eq_of_lt (omega arith), omega arith)
