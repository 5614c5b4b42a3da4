-- The root that is handed out is the f32 nearest the exact root, over every degree: half way from it to any other f32 that is not negative lies strictly on that
-- one's side of the exact root, so no tie arises. Compared are powers of whole numbers. Assumes nothing.
use mathlib.Core.Path.{◌≡◌, sym, ap, ◌∙◌, subst}
use mathlib.Core.Bool.{true, false}
use Prim.Native.Nat.{ℕ, suc, ◌+◌, ◌-◌, ◌*◌, ◌^◌, ◌≤◌, ◌<◌}
use native.Mathlib.Nat.{le_trans, le_of_eq, lt_of_lt_of_le, mul_assoc, mul-le-mul_left, mul-le-mul_right, mul-lt-mul_of_pos_right, pow-le-pow_left, le_of_mul-le-mul_right}
use native.Mathlib.Omega.{arith}
use lib.Arith.{lt_of_le-ne}
use lib.Dec.{T, lit≤}
use lib.Pow.{pow-add, pow_pos, pow_mono}
use lib.Ieee.{Float, binary32, fits, of_bits, to_bits}
use lib.Ieee.Bits.{of_bits-to_bits}
use lib.Ieee.Exact.{HasValue}
use lib.Ieee.Positive.{num, den, den_pos, value→cross}
use borrow.Author.Tests.{leb-true, le-leb}
use Rattle.limits.specs.Taken.{root_operand_taken}
use Rattle.limits.proofs.Floats.{operand_pattern}
use Rattle.halving.specs.Patterns.{worth_of, worth, least, half_way, nearest_root}
use Rattle.halving.proofs.Least.{least_holds}
use Rattle.halving.proofs.Patterns.{worth_le, worth_normal, pattern_value}
use Rattle.halving.proofs.Nearest.{sums, half_way_lasts, below, nearest_same}
use Rattle.roots.specs.Roots.{root_of}
use Rattle.roots.proofs.Powers.{pow_pow}
use Rattle.roots.proofs.NoTie.{operand, no_tie}

-- the pattern of the root of the f32 with the pattern m
unfoldable pub root_pattern : ℕ → ℕ → ℕ
root_pattern n m = least (half_way n (worth m) (2 ^ 149)) 31 0

-- the root handed out has that pattern
pub root_is : (n : ℕ) (x : Float) → T (fits binary32 x) → root_operand_taken x ≡ true → root_of n x ≡ of_bits binary32 (root_pattern n (to_bits binary32 x))
unfolding root_of nearest_root root_pattern
root_is n x F t =
    let b = to_bits binary32 x in
    let v : HasValue x false (worth b) (2 ^ 149) = subst (λ (y : Float). HasValue y false (worth b) (2 ^ 149)) (of_bits-to_bits binary32 x F) (pattern_value b (operand_pattern x F t)) in
    ap (of_bits binary32) (sym (nearest_same n (worth b) (2 ^ 149) (num x) (den x) (pow_pos 149) (den_pos x) (sym (value→cross x (worth b) (2 ^ 149) v))))

module _ (n m : ℕ) (degree : 0 < n) (finite : m < 2139095040) where
  -- the operand, with the units and the 2 multiplied out
  abbrev exact : ℕ
  exact = 2 ^ n * (worth m * 2 ^ (149 * n))

  scaled : exact ≡ operand n m degree * 2 ^ 149
  scaled =
      let e : 149 * n ≡ 149 * (n - 1) + 149 = omega arith in
      ap (λ (x : ℕ). 2 ^ n * (worth m * 2 ^ x)) e
      ∙ ap (λ (x : ℕ). 2 ^ n * (worth m * x)) (pow-add 2 (149 * (n - 1)) 149)
      ∙ ap (λ (x : ℕ). 2 ^ n * x) (sym (mul_assoc (worth m) (2 ^ (149 * (n - 1))) (2 ^ 149)))
      ∙ sym (mul_assoc (2 ^ n) (worth m * 2 ^ (149 * (n - 1))) (2 ^ 149))

  -- the largest pattern reaches the root of every finite operand
  worth_most : worth m ≤ 2 ^ 277
  worth_most = le_trans (worth_le {b = 253 * 8388608 + 16777216} (omega arith)) (le_of_eq (worth_normal 253 16777216 (omega arith) (omega arith)))

  largest : 2 ^ 278 ≤ worth 2147483647 + worth 2147483648
  unfolding worth worth_of
  largest = lit≤ tt

  reached : half_way n (worth m) (2 ^ 149) 2147483647 ≡ true
  unfolding half_way
  reached =
      let a : exact ≤ 2 ^ n * (2 ^ 277 * 2 ^ (149 * n)) = mul-le-mul_left (2 ^ n) (mul-le-mul_right (2 ^ (149 * n)) worth_most) in
      let b : 2 ^ n * (2 ^ 277 * 2 ^ (149 * n)) ≡ 2 ^ (n + (277 + 149 * n)) = ap (λ (x : ℕ). 2 ^ n * x) (sym (pow-add 2 277 (149 * n))) ∙ sym (pow-add 2 n (277 + 149 * n)) in
      let c : n + (277 + 149 * n) ≤ 278 * n + 149 = omega arith in
      let d : 2 ^ (278 * n + 149) ≡ (2 ^ 278) ^ n * 2 ^ 149 = pow-add 2 (278 * n) 149 ∙ ap (λ (x : ℕ). x * 2 ^ 149) (pow_pow 2 278 n) in
      let e : (2 ^ 278) ^ n * 2 ^ 149 ≤ (worth 2147483647 + worth 2147483648) ^ n * 2 ^ 149 = mul-le-mul_right (2 ^ 149) (pow-le-pow_left largest n) in
      le-leb exact ((worth 2147483647 + worth 2147483648) ^ n * 2 ^ 149) (le_trans a (le_trans (le_of_eq b) (le_trans (pow_mono c) (le_trans (le_of_eq d) e))))

  -- any f32 below the root: the exact root is more than half way up from it
  pub nearer_than_below : (b : ℕ) → b < root_pattern n m → (worth b + worth (root_pattern n m)) ^ n * 2 ^ 149 < 2 ^ n * (worth m * 2 ^ (149 * n))
  unfolding root_pattern
  nearer_than_below b h = below n (worth m) (2 ^ 149) b h

  -- any f32 above it: the exact root is less than half way up to it
  pub nearer_than_above : (b : ℕ) → root_pattern n m < b → 2 ^ n * (worth m * 2 ^ (149 * n)) < (worth (root_pattern n m) + worth b) ^ n * 2 ^ 149
  unfolding root_pattern half_way
  nearer_than_above b h =
      let r = least (half_way n (worth m) (2 ^ 149)) 31 0 in
      let S = (worth r + worth (suc r)) ^ n in
      let l : exact ≤ S * 2 ^ 149 = leb-true exact (S * 2 ^ 149) (least_holds (half_way n (worth m) (2 ^ 149)) (half_way_lasts n (worth m) (2 ^ 149)) 31 0 reached) in
      let k : operand n m degree ≤ S = le_of_mul-le-mul_right (le_trans (le_of_eq (sym scaled)) l) (pow_pos 149) in
      let d : operand n m degree ≡ S → ⊥ = λ e. no_tie n m degree r (sym e) in
      let s : exact < S * 2 ^ 149 = rw scaled (mul-lt-mul_of_pos_right (lt_of_le-ne k d) (pow_pos 149)) in
      lt_of_lt_of_le s (sums n (worth m) (2 ^ 149) {b = r} {d = suc r} {b' = r} {d' = b} (omega arith) h)
