-- Powers of whole numbers: of a product, and how much a square and a cube grow from an even number to the next. Assumes nothing.
use mathlib.Core.Path.{◌≡◌, sym, ap, ◌∙◌}
use mathlib.Core.Logic.{◌⊎◌, inl, inr}
use Prim.Native.Nat.{ℕ, zero, suc, ◌+◌, ◌*◌, ◌^◌, ◌≤◌, ◌<◌}
use native.Mathlib.Nat.{pow-zero, pow-suc, mul-mul-mul_comm, mul_assoc, one-mul, add-mul, mul-add, mul-zero, mul-suc, mul-le-mul, le_of_lt}
use native.Mathlib.Omega.{arith}
use lib.Pow.{pow-add}

pub mul_pow : (a b n : ℕ) → (a * b) ^ n ≡ a ^ n * b ^ n
mul_pow a b zero = rw (pow-zero, pow-zero, pow-zero)
mul_pow a b (suc n) =
    pow-suc (a * b) n
    ∙ ap (λ (x : ℕ). x * (a * b)) (mul_pow a b n)
    ∙ mul-mul-mul_comm (a ^ n) (b ^ n) a b
    ∙ ap (λ (x : ℕ). x * (b ^ n * b)) (sym (pow-suc a n))
    ∙ ap (λ (x : ℕ). a ^ suc n * x) (sym (pow-suc b n))

pub pow_pow : (a m n : ℕ) → a ^ (m * n) ≡ (a ^ m) ^ n
pow_pow a m zero = rw (mul-zero, pow-zero, pow-zero)
pow_pow a m (suc n) =
    ap (λ (x : ℕ). a ^ x) (mul-suc m n)
    ∙ pow-add a (m * n) m
    ∙ ap (λ (x : ℕ). x * a ^ m) (pow_pow a m n)
    ∙ sym (pow-suc (a ^ m) n)

pub square : (x : ℕ) → x ^ 2 ≡ x * x
square x = pow-suc x 1 ∙ ap (λ (y : ℕ). y * x) (pow-suc x 0 ∙ ap (λ (y : ℕ). y * x) (pow-zero x) ∙ one-mul x)

pub cube : (x : ℕ) → x ^ 3 ≡ x * x * x
cube x = pow-suc x 2 ∙ ap (λ (y : ℕ). y * x) (square x)

pub square_next : (x : ℕ) → (x + 1) ^ 2 ≡ x ^ 2 + (2 * x + 1)
square_next x =
    let e : (x + 1) * (x + 1) ≡ x * x + x * 1 + (1 * x + 1 * 1) = add-mul x 1 (x + 1) ∙ rw (mul-add, mul-add) in
    rw (square (x + 1), square x) (omega arith)

pub cube_next : (x : ℕ) → (x + 1) ^ 3 ≡ x ^ 3 + (3 * (x * x) + 3 * x + 1)
cube_next x =
    let e : (x + 1) * (x + 1) ≡ x * x + 2 * x + 1 = sym (square (x + 1)) ∙ square_next x ∙ (rw (square x) (omega arith)) in
    let f : (x + 1) * (x + 1) * (x + 1) ≡ (x * x + 2 * x + 1) * x + (x * x + 2 * x + 1) * 1 = ap (λ (y : ℕ). y * (x + 1)) e ∙ mul-add (x * x + 2 * x + 1) x 1 in
    let g : (x * x + 2 * x + 1) * x ≡ x * x * x + 2 * x * x + 1 * x = add-mul (x * x + 2 * x) 1 x ∙ ap (λ (y : ℕ). y + 1 * x) (add-mul (x * x) (2 * x) x) in
    let k : 2 * x * x ≡ 2 * (x * x) = mul_assoc 2 x x in
    rw (cube (x + 1), cube x) (omega arith)

-- one of two degrees, and not the first
pub third : (n : ℕ) → (n ≡ 2) ⊎ (n ≡ 3) → (n ≡ 2 → ⊥) → n ≡ 3
third n (inl e) h = absurd (h e)
third n (inr e) h = e

-- ---- from an even number to the next
pub cube_gain : (a : ℕ) → (2 * a) ^ 3 + ((12 * a + 6) * a + 1) ≡ (2 * a + 1) ^ 3
cube_gain a =
    let e : (2 * a + 1) ^ 3 ≡ (2 * a) ^ 3 + (3 * (2 * a * (2 * a)) + 3 * (2 * a) + 1) = cube_next (2 * a) in
    let f : 2 * a * (2 * a) ≡ 2 * 2 * (a * a) = mul-mul-mul_comm 2 a 2 a in
    let g : (12 * a + 6) * a ≡ 12 * a * a + 6 * a = add-mul (12 * a) 6 a in
    let h : 12 * a * a ≡ 12 * (a * a) = mul_assoc 12 a a in
    omega arith

pub cube_gain_small : (a : ℕ) → a < 16777216 → (12 * a + 6) * a + 1 < 4503599627370496
cube_gain_small a h =
    let l : 12 * a + 6 ≤ 201326592 = omega arith in
    let e : (12 * a + 6) * a ≤ 201326592 * 16777216 = mul-le-mul l (le_of_lt h) in
    omega arith

-- what is left of a square or a cube above the greatest one in it
pub rest_small : (n r k : ℕ) → (n ≡ 2) ⊎ (n ≡ 3) → r < 16777216 → r ^ n + k < (r + 1) ^ n → k < 1125899906842624
rest_small n r k (inl e) u h =
    let g : r ^ 2 + k < (r + 1) ^ 2 = rw e at h in
    let s = square_next r in
    omega arith
rest_small n r k (inr e) u h =
    let g : r ^ 3 + k < (r + 1) ^ 3 = rw e at h in
    let s = cube_next r in
    let m : r * r ≤ 16777216 * 16777216 = mul-le-mul (le_of_lt u) (le_of_lt u) in
    omega arith
