-- The root that `nearest_root` gives is nearest: half way from it to any other f32 lies on the other's side of the exact root, over every degree. Assumes nothing.
use mathlib.Core.Path.{◌≡◌, refl, sym, ap, ◌∙◌, fun_ext}
use mathlib.Core.Bool.{Bool, true, false}
use Prim.Native.Nat.{ℕ, suc, ◌+◌, ◌-◌, ◌*◌, ◌^◌, ◌≤◌, ◌<◌}
use native.Mathlib.Nat.{le_trans, le_of_eq, lt_of_le_of_lt, not-le_of_lt, not-suc-le-zero, add-le-add, mul_assoc, mul_right_comm, mul-le-mul_right, le_of_mul-le-mul_right, pow-le-pow_left}
use lib.Dec.{leb}
use native.Mathlib.Omega.{arith}
use borrow.Author.Tests.{leb-true, leb-false, le-leb, lt-leb}
use Rattle.halving.specs.Patterns.{worth, least, half_way}
use Rattle.halving.proofs.Least.{Lasting, least_is, least_holds, least_first, fails_below}
use Rattle.halving.proofs.Patterns.{worth_le}

module _ (n a c : ℕ) where
  -- a power of the sum of two f32 grows with each
  pub sums : {b d b' d' : ℕ} → b ≤ b' → d ≤ d' → (worth b + worth d) ^ n * c ≤ (worth b' + worth d') ^ n * c
  sums h k = mul-le-mul_right c (pow-le-pow_left (add-le-add (worth_le h) (worth_le k)) n)

  pub half_way_lasts : Lasting (half_way n a c)
  unfolding half_way
  half_way_lasts i j h t = le-leb _ _ (le_trans (leb-true (2 ^ n * (a * 2 ^ (149 * n))) ((worth i + worth (suc i)) ^ n * c) t) (sums h (omega arith)))

  -- the root is not reached half way up from a number below the root's
  under : (b : ℕ) → b < least (half_way n a c) 31 0 → (worth b + worth (suc b)) ^ n * c < 2 ^ n * (a * 2 ^ (149 * n))
  unfolding half_way
  under b h = leb-false (2 ^ n * (a * 2 ^ (149 * n))) ((worth b + worth (suc b)) ^ n * c) (least_first (half_way n a c) half_way_lasts 31 0 (λ (i : ℕ) (k : i < 0). none i k) b h)
    where
      none : (i : ℕ) → i < 0 → half_way n a c i ≡ false
      none i k = absurd (not-suc-le-zero k)

  -- any f32 below the root's: the exact root is more than half way up from it
  pub below : (b : ℕ) → b < least (half_way n a c) 31 0 → (worth b + worth (least (half_way n a c) 31 0)) ^ n * c < 2 ^ n * (a * 2 ^ (149 * n))
  below b h =
      let r = least (half_way n a c) 31 0 in
      let e : suc (r - 1) ≡ r = omega arith in
      let t : (worth (r - 1) + worth r) ^ n * c < 2 ^ n * (a * 2 ^ (149 * n)) = rw e at (under (r - 1) (omega arith)) in
      lt_of_le_of_lt (sums {b = b} {d = r} {b' = r - 1} {d' = r} (omega arith) (omega arith)) t

  -- Any f32 above it: the exact root is at most half way up to it. That the largest pattern reaches the root is asked of a / c.
  pub above : half_way n a c 2147483647 ≡ true → (b : ℕ) → least (half_way n a c) 31 0 < b → 2 ^ n * (a * 2 ^ (149 * n)) ≤ (worth (least (half_way n a c) 31 0) + worth b) ^ n * c
  unfolding half_way
  above high b h =
      let r = least (half_way n a c) 31 0 in
      le_trans (leb-true (2 ^ n * (a * 2 ^ (149 * n))) ((worth r + worth (suc r)) ^ n * c) (least_holds (half_way n a c) half_way_lasts 31 0 high)) (sums {b = r} {b' = r} (omega arith) h)

  -- the root's pattern is r if half way up from it the root is reached, and half way up to it is not
  pub nearest_is : (r : ℕ) → r < 2147483648 → 2 ^ n * (a * 2 ^ (149 * n)) ≤ (worth r + worth (suc r)) ^ n * c
      → ((b : ℕ) → suc b ≡ r → (worth b + worth r) ^ n * c < 2 ^ n * (a * 2 ^ (149 * n))) → least (half_way n a c) 31 0 ≡ r
  unfolding half_way
  nearest_is r u l f = least_is (half_way n a c) half_way_lasts 31 0 r (omega arith) u (le-leb _ _ l) (λ (i : ℕ) (h : i < r). fails i h)
    where
      fails : (i : ℕ) → i < r → half_way n a c i ≡ false
      fails i h =
          let e : suc (r - 1) ≡ r = omega arith in
          let t : (worth (r - 1) + worth (suc (r - 1))) ^ n * c < 2 ^ n * (a * 2 ^ (149 * n)) = rw e (f (r - 1) e) in
          fails_below (half_way n a c) half_way_lasts i (r - 1) (omega arith) (lt-leb _ _ t)

-- ---- the root sees only the value of its fraction
module _ (n a c a' c' : ℕ) (C : 0 < c) (C' : 0 < c') (same : a * c' ≡ a' * c) where
  cross : (S : ℕ) → 2 ^ n * (a * 2 ^ (149 * n)) ≤ S * c → 2 ^ n * (a' * 2 ^ (149 * n)) ≤ S * c'
  cross S h =
      let P = 2 ^ (149 * n) in
      let e : 2 ^ n * (a' * P) * c ≡ 2 ^ n * (a * P) * c' =
      mul_assoc (2 ^ n) (a' * P) c ∙ ap (λ (x : ℕ). 2 ^ n * x) (mul_right_comm a' P c ∙ ap (λ (x : ℕ). x * P) (sym same) ∙ mul_right_comm a c' P) ∙ sym (mul_assoc (2 ^ n) (a * P) c') in
      le_of_mul-le-mul_right (le_trans (le_of_eq e) (le_trans (mul-le-mul_right c' h) (le_of_eq (mul_right_comm S c c')))) C

pub half_way_same : (n a c a' c' : ℕ) → 0 < c → 0 < c' → a * c' ≡ a' * c → (b : ℕ) → half_way n a c b ≡ half_way n a' c' b
unfolding half_way
half_way_same n a c a' c' C C' e b = go (leb L R) (leb L' R') refl refl
  where
    S : ℕ
    S = (worth b + worth (suc b)) ^ n

    L : ℕ
    L = 2 ^ n * (a * 2 ^ (149 * n))

    R : ℕ
    R = S * c

    L' : ℕ
    L' = 2 ^ n * (a' * 2 ^ (149 * n))

    R' : ℕ
    R' = S * c'

    go : (x y : Bool) → leb L R ≡ x → leb L' R' ≡ y → x ≡ y
    go true true p q = refl
    go false false p q = refl
    go true false p q = absurd (not-le_of_lt (leb-false L' R' q) (cross n a c a' c' C C' e S (leb-true L R p)))
    go false true p q = absurd (not-le_of_lt (leb-false L R p) (cross n a' c' a c C' C (sym e) S (leb-true L' R' q)))

pub nearest_same : (n a c a' c' : ℕ) → 0 < c → 0 < c' → a * c' ≡ a' * c → least (half_way n a c) 31 0 ≡ least (half_way n a' c') 31 0
nearest_same n a c a' c' C C' e = ap (λ (p : ℕ → Bool). least p 31 0) (fun_ext (half_way_same n a c a' c' C C' e))
