-- The midpoint of two f32, neither negative, is an f32 nearest their exact midpoint: over every two patterns below 253 * 2 ^ 23, by the numbers of units of 2 ^ -149 that
-- they are worth. Either the sum is exact and the half of it is rounded, or the sum is rounded and its half is exact. Assumes nothing.
use mathlib.Core.Path.{◌≡◌, sym, ap, ◌∙◌, subst}
use mathlib.Core.Logic.{inl, inr}
use mathlib.Core.Bool.{true, false, true≢false}
use Prim.Native.Nat.{ℕ, suc, ◌+◌, ◌-◌, ◌*◌, ◌/◌, ◌%◌, ◌^◌, ◌≤◌, ◌<◌, compare}
use native.Mathlib.Nat.{le_trans, le_of_eq, le_refl, lt_of_le_of_lt, lt_of_lt_of_le, not-le_of_lt, mul_assoc, mul_comm, mul_right_comm, mul-one, one-mul, add-mul, mul-pos, mul-le-mul_right, mul-le-mul_left, eq_of_mul-eq-mul_right, div-one, zero-add, pow-suc, pow-succ'}
use native.Mathlib.Omega.{arith}
use lib.Pow.{pow-add, pow_pos, pow-lt}
use lib.Ieee.{Float, nan, inf, fin, binary32, up, down, size, round, sum, add, mul}
use lib.Ieee.Digits.{size-lt, size-le, size_reaches}
use lib.Ieee.Exact.{HasValue, round_exact}
use lib.Ieee.Fits.{down_pos, nearest-le, kept-lt}
use lib.Ieee.Nearest.{closest, closest_same, div_same}
use lib.Ieee.Order.{drop}
use lib.Ieee.Scale.{round_same, round_val, grid}
use Rattle.halving.specs.Midpoint.{midpoint}
use Rattle.halving.specs.Patterns.{worth}
use Rattle.limits.proofs.Numbers.{below_or_not, power}
use Rattle.halving.proofs.Closest.{dist, closest_nearest}
use Rattle.halving.proofs.Patterns.{Normal, small_or_normal, worth_small, worth_normal}

-- x is a units
abbrev pub Units : Float → ℕ → Type 0
Units x a = HasValue x false a (2 ^ 149)

-- the same value as another fraction
pub revalue : (x : Float) (a c b d : ℕ) → 0 < c → a * d ≡ b * c → HasValue x false a c → HasValue x false b d
revalue nan a c b d C e v = v
revalue (inf t) a c b d C e v = v
revalue (fin t m k) a c b d C e v = (
  v.0,
  eq_of_mul-eq-mul_right c C (m * up k * d) (b * down k) (mul_right_comm (m * up k) d c ∙ ap (λ (x : ℕ). x * d) v.1 ∙ mul_right_comm a (down k) d ∙ ap (λ (x : ℕ). x * down k) e ∙ mul_right_comm b c (down k)),
)

pub units_once : (x : Float) (a b : ℕ) → Units x a → Units x b → a ≡ b
units_once nan a b v w = absurd v
units_once (inf t) a b v w = absurd v
units_once (fin t m k) a b v w = eq_of_mul-eq-mul_right (down k) (down_pos k) a b (sym v.1 ∙ w.1)

-- ---- the two operations see only the values
pub add_values : (x y : Float) (a b u : ℕ) → 0 < u → HasValue x false a u → HasValue y false b u → add binary32 x y ≡ round binary32 false (a + b) u
unfolding add sum
add_values nan y a b u P v w = absurd v
add_values (inf s) y a b u P v w = absurd v
add_values (fin true m e) y a b u P v w = absurd (true≢false v.0)
add_values (fin false m e) nan a b u P v w = absurd w
add_values (fin false m e) (inf t) a b u P v w = absurd w
add_values (fin false m e) (fin true n d) a b u P v w = absurd (true≢false w.0)
add_values (fin false m e) (fin false n d) a b u P v w =
    let A = m * up e * down d in
    let B = n * up d * down e in
    let x : A * u ≡ a * (down e * down d) = mul_right_comm (m * up e) (down d) u ∙ ap (λ (z : ℕ). z * down d) v.1 ∙ mul_assoc a (down e) (down d) in
    let y : B * u ≡ b * (down e * down d) = mul_right_comm (n * up d) (down e) u ∙ ap (λ (z : ℕ). z * down e) w.1 ∙ mul_assoc b (down d) (down e) ∙ ap (λ (z : ℕ). b * z) (mul_comm (down d) (down e)) in
    round_same binary32 false (A + B) (down e * down d) (a + b) u (mul-pos (down_pos e) (down_pos d)) P
    (add-mul A B u ∙ ap (λ (z : ℕ). z + B * u) x ∙ ap (λ (z : ℕ). a * (down e * down d) + z) y ∙ sym (add-mul a b (down e * down d)))

half_units : (z : Float) (a : ℕ) → Units z a → mul binary32 (round binary32 false 1 2) z ≡ round binary32 false a (2 ^ 150)
unfolding mul round
half_units nan a v = absurd v
half_units (inf s) a v = absurd v
half_units (fin true m e) a v = absurd (true≢false v.0)
half_units (fin false m e) a v =
    round_same binary32 false (1 * (m * up e)) (2 * down e) a (2 ^ 150) (mul-pos (omega arith) (down_pos e)) (pow_pos 150)
    (ap (λ (x : ℕ). x * 2 ^ 150) (one-mul (m * up e))
    ∙ ap (λ (x : ℕ). m * up e * x) (pow-add 2 149 1)
    ∙ sym (mul_assoc (m * up e) (2 ^ 149) 2)
    ∙ ap (λ (x : ℕ). x * 2) v.1
    ∙ mul_assoc a (down e) 2
    ∙ ap (λ (x : ℕ). a * x) (mul_comm (down e) 2))

-- ---- a / 2 ^ h units, rounded: `few` of the digits of its whole part are dropped
module _ (a h : ℕ) where
  abbrev few : ℕ
  few = size (a / 2 ^ h) - 24

  grid_is : grid binary32 a (2 ^ (149 + h)) ≡ closest a (2 ^ (h + few)) * 2 ^ few
  grid_is =
      let U = 2 ^ 149 in
      let e : 2 ^ (149 + h) ≡ U * 2 ^ h = pow-add 2 149 h in
      let q : a * U / (U * 2 ^ h) ≡ a / 2 ^ h = div_same (a * U) (U * 2 ^ h) a (2 ^ h) (mul-pos (pow_pos 149) (pow_pos h)) (pow_pos h) (mul_assoc a U (2 ^ h)) in
      let k : drop 24 (a * U) (2 ^ (149 + h)) ≡ few = ap (λ (x : ℕ). size (a * U / x) - 24) e ∙ ap (λ (x : ℕ). size x - 24) q in
      let c : closest (a * U) (2 ^ (149 + h) * 2 ^ few) ≡ closest a (2 ^ (h + few)) =
      closest_same (a * U) (2 ^ (149 + h) * 2 ^ few) a (2 ^ (h + few)) (mul-pos (pow_pos (149 + h)) (pow_pos few)) (pow_pos (h + few))
      (ap (λ (x : ℕ). a * U * x) (pow-add 2 h few) ∙ mul_assoc a U (2 ^ h * 2 ^ few) ∙ ap (λ (x : ℕ). a * x) (sym (mul_assoc U (2 ^ h) (2 ^ few)) ∙ ap (λ (x : ℕ). x * 2 ^ few) (sym e))) in
      ap (λ (x : ℕ). closest (a * U) (2 ^ (149 + h) * 2 ^ x) * 2 ^ x) k ∙ ap (λ (x : ℕ). x * 2 ^ few) c

-- the midpoint of two numbers that are `total` units together, given as M units: no number of units that an f32 can be is nearer
pub record Midway (mid : Float) (total : ℕ) : Type 0 where
  pub amount : ℕ
  pub holds : Units mid amount
  pub nearest : (c : ℕ) → dist (amount * 2) total ≤ dist (worth c * 2) total

-- ---- the sum has at most 24 digits: it is exact
module _ (S : ℕ) (short : S < 16777216) where
  exact_sum : Units (round binary32 false S (2 ^ 149)) S
  exact_sum = round_exact binary32 false S (2 ^ 149) S 0 (pow_pos 149) short (lt_of_le_of_lt (le_of_eq (mul-one S)) (lt_of_lt_of_le short (power 24 277 (omega arith)))) (ap (λ (x : ℕ). x * 2 ^ 149) (sym (mul-one S)))

  none_dropped : few S 1 ≡ 0
  none_dropped = let h : size (S / 2) ≤ 24 = size-le (S / 2) 24 (omega arith) in omega arith

  half_grid : grid binary32 S (2 ^ 150) ≡ closest S 2
  half_grid = grid_is S 1 ∙ ap (λ (x : ℕ). closest S (2 ^ (1 + x)) * 2 ^ x) none_dropped ∙ mul-one (closest S 2)

  half_small : closest S 2 < 2 ^ 277
  half_small = let a = nearest-le (S / 2) (compare (S % 2 * 2) 2) in lt_of_lt_of_le {m = 16777216} (omega arith) (power 24 277 (omega arith))

  short_midway : Midway (round binary32 false S (2 ^ 150)) S
  short_midway = record {
    amount = closest S 2;
    holds = subst (Units (round binary32 false S (2 ^ 150))) half_grid (round_val binary32 S (2 ^ 150) (subst (λ (x : ℕ). x < 2 ^ 277) (sym half_grid) half_small));
    nearest = λ (c : ℕ). closest_nearest S 2 (worth c) (omega arith);
  }

-- ---- or more: K times 2 ^ k is what is kept of it
module _ (S : ℕ) (long : 16777216 ≤ S) (under : S < 2 ^ 276) where
  abbrev k : ℕ
  k = size S - 24

  abbrev K : ℕ
  K = closest S (2 ^ k)

  size_low : 25 ≤ size S
  size_low = elim (below_or_not (size S) 25) [ inl h ↦ absurd (clash h) | inr h ↦ h ]
    where
      clash : size S < 25 → ⊥
      clash h = not-le_of_lt (lt_of_lt_of_le (size-lt S) (power (size S) 24 (omega arith))) long

  size_high : size S ≤ 276
  size_high = size-le S 276 under

  -- the digits kept, and those dropped
  leading : 2 ^ 23 * 2 ^ k ≤ S
  leading = le_trans (le_of_eq (sym (pow-add 2 23 k))) (size_reaches S (23 + k) (let l = size_low in omega arith))

  kept_few : K ≤ 16777216
  kept_few = le_trans (nearest-le (S / 2 ^ k) (compare (S % 2 ^ k * 2) (2 ^ k))) (kept-lt 24 S)

  dropped : few S 0 ≡ k
  dropped = ap (λ (x : ℕ). size x - 24) (div-one S)

  rounded : grid binary32 S (2 ^ 149) ≡ K * 2 ^ k
  rounded = grid_is S 0 ∙ ap (λ (x : ℕ). closest S (2 ^ (0 + x)) * 2 ^ x) dropped ∙ ap (λ (x : ℕ). closest S (2 ^ x) * 2 ^ k) (zero-add k)

  rounded_small : K * 2 ^ k < 2 ^ 277
  rounded_small =
      let a : K * 2 ^ k ≤ 2 ^ 24 * 2 ^ k = mul-le-mul_right (2 ^ k) kept_few in
      let b : 2 ^ 24 * 2 ^ k ≤ 2 ^ 276 = le_trans (le_of_eq (sym (pow-add 2 24 k))) (power (24 + k) 276 (let l = size_low in let u = size_high in omega arith)) in
      lt_of_le_of_lt (le_trans a b) (pow-lt (le_refl 277))

  long_sum : Units (round binary32 false S (2 ^ 149)) (K * 2 ^ k)
  long_sum = subst (Units (round binary32 false S (2 ^ 149))) rounded (round_val binary32 S (2 ^ 149) (subst (λ (x : ℕ). x < 2 ^ 277) (sym rounded) rounded_small))

  -- its half is exact
  one_up : suc (k - 1) ≡ k
  one_up = let l = size_low in omega arith

  doubled : K * 2 ^ (k - 1) * 2 ≡ K * 2 ^ k
  doubled = mul_assoc K (2 ^ (k - 1)) 2 ∙ ap (λ (x : ℕ). K * x) (sym (pow-suc 2 (k - 1)) ∙ ap (λ (x : ℕ). 2 ^ x) one_up)

  halves : K * 2 ^ k * 2 ^ 149 ≡ K * 2 ^ (k - 1) * 2 ^ 150
  halves = ap (λ (x : ℕ). x * 2 ^ 149) (sym doubled) ∙ mul_assoc (K * 2 ^ (k - 1)) 2 (2 ^ 149) ∙ ap (λ (x : ℕ). K * 2 ^ (k - 1) * x) (sym (pow-succ' 2 149))

  exact_half : HasValue (round binary32 false (K * 2 ^ k) (2 ^ 150)) false (K * 2 ^ k) (2 ^ 150)
  exact_half = elim (below_or_not K 16777216) [ inl h ↦ below h | inr h ↦ top h ]
    where
      half_under : K * 2 ^ (k - 1) < 2 ^ 277
      half_under = lt_of_le_of_lt (le_trans (le_of_lt_double (K * 2 ^ (k - 1))) (le_of_eq doubled)) rounded_small
        where
          le_of_lt_double : (x : ℕ) → x ≤ x * 2
          le_of_lt_double x = omega arith

      below : K < 16777216 → HasValue (round binary32 false (K * 2 ^ k) (2 ^ 150)) false (K * 2 ^ k) (2 ^ 150)
      below h = round_exact binary32 false (K * 2 ^ k) (2 ^ 150) K (k - 1) (pow_pos 150) h half_under halves

      top : 16777216 ≤ K → HasValue (round binary32 false (K * 2 ^ k) (2 ^ 150)) false (K * 2 ^ k) (2 ^ 150)
      top h =
          let e : K ≡ 8388608 * 2 = let f = kept_few in omega arith in
          let x : K * 2 ^ (k - 1) ≡ 8388608 * 2 ^ k = ap (λ (y : ℕ). y * 2 ^ (k - 1)) e ∙ mul_assoc 8388608 2 (2 ^ (k - 1)) ∙ ap (λ (y : ℕ). 8388608 * y) (sym (pow-succ' 2 (k - 1)) ∙ ap (λ (y : ℕ). 2 ^ y) one_up) in
          round_exact binary32 false (K * 2 ^ k) (2 ^ 150) 8388608 k (pow_pos 150) (omega arith) (subst (λ (y : ℕ). y < 2 ^ 277) x half_under) (halves ∙ ap (λ (y : ℕ). y * 2 ^ 150) x)

  -- an f32 of fewer digits lies below all that S could be rounded to
  far : (d : ℕ) → d ≤ 2 ^ 23 * 2 ^ k → dist (K * 2 ^ k) S ≤ dist d S
  far d h =
      let a = closest_nearest S (2 ^ k) (2 ^ 23) (pow_pos k) in
      let l = leading in
      away (dist (K * 2 ^ k) S) d (2 ^ 23 * 2 ^ k) S h l a
    where
      away : (x d j s : ℕ) → d ≤ j → j ≤ s → x ≤ dist j s → x ≤ dist d s
      away x d j s p q r = omega arith

  long_nearest : (c : ℕ) → dist (K * 2 ^ (k - 1) * 2) S ≤ dist (worth c * 2) S
  long_nearest c = rw doubled (elim (small_or_normal c) [ inl h ↦ small h | inr n ↦ normal n ])
    where
      small : c < 8388608 → dist (K * 2 ^ k) S ≤ dist (worth c * 2) S
      small h =
          let p : 2 ≤ 2 ^ k = power 1 k (let l = size_low in omega arith) in
          let q : 8388608 * 2 ≤ 2 ^ 23 * 2 ^ k = mul-le-mul_left (2 ^ 23) p in
          far (worth c * 2) (rw (worth_small c h) (omega arith))

      normal : Normal c → dist (K * 2 ^ k) S ≤ dist (worth c * 2) S
      normal n = rw (ap worth n.is ∙ worth_normal t q n.full (let u = n.fits in omega arith)) (elim (below_or_not (suc t) k) [ inl h ↦ fewer h | inr h ↦ whole h ])
        where
          t : ℕ
          t = n.exponent

          q : ℕ
          q = n.digits

          twice : q * 2 ^ t * 2 ≡ q * 2 ^ suc t
          twice = mul_assoc q (2 ^ t) 2 ∙ ap (λ (x : ℕ). q * x) (sym (pow-suc 2 t))

          fewer : suc t < k → dist (K * 2 ^ k) S ≤ dist (q * 2 ^ t * 2) S
          fewer h =
              let a : q * 2 ^ suc t ≤ 2 ^ 24 * 2 ^ suc t = mul-le-mul_right (2 ^ suc t) (let u = n.fits in omega arith) in
              let b : 2 ^ 24 * 2 ^ suc t ≡ 2 ^ (24 + suc t) = sym (pow-add 2 24 (suc t)) in
              let d : 2 ^ (24 + suc t) ≤ 2 ^ (23 + k) = power (24 + suc t) (23 + k) (omega arith) in
              far (q * 2 ^ t * 2) (le_trans (le_of_eq twice) (le_trans a (le_trans (le_of_eq b) (le_trans d (le_of_eq (pow-add 2 23 k))))))

          whole : k ≤ suc t → dist (K * 2 ^ k) S ≤ dist (q * 2 ^ t * 2) S
          whole h =
              let e : suc t - k + k ≡ suc t = omega arith in
              let x : q * 2 ^ t * 2 ≡ q * 2 ^ (suc t - k) * 2 ^ k = twice ∙ ap (λ (y : ℕ). q * 2 ^ y) (sym e) ∙ ap (λ (y : ℕ). q * y) (pow-add 2 (suc t - k) k) ∙ sym (mul_assoc q (2 ^ (suc t - k)) (2 ^ k)) in
              rw x (closest_nearest S (2 ^ k) (q * 2 ^ (suc t - k)) (pow_pos k))

  long_midway : Midway (round binary32 false (K * 2 ^ k) (2 ^ 150)) S
  long_midway = record {
    amount = K * 2 ^ (k - 1);
    holds = revalue (round binary32 false (K * 2 ^ k) (2 ^ 150)) (K * 2 ^ k) (2 ^ 150) (K * 2 ^ (k - 1)) (2 ^ 149) (pow_pos 150) halves exact_half;
    nearest = long_nearest;
  }

-- ---- either way
pub midway : (x y : Float) (a b : ℕ) → Units x a → Units y b → a + b < 2 ^ 276 → Midway (midpoint x y) (a + b)
unfolding midpoint
midway x y a b v w under = elim (below_or_not (a + b) 16777216) [ inl h ↦ short h | inr h ↦ long h ]
  where
    sum_is : add binary32 x y ≡ round binary32 false (a + b) (2 ^ 149)
    sum_is = add_values x y a b (2 ^ 149) (pow_pos 149) v w

    half_is : (c : ℕ) → Units (round binary32 false (a + b) (2 ^ 149)) c → mul binary32 (round binary32 false 1 2) (add binary32 x y) ≡ round binary32 false c (2 ^ 150)
    half_is c u = half_units (add binary32 x y) c (subst (λ (z : Float). Units z c) (sym sum_is) u)

    short : a + b < 16777216 → Midway (mul binary32 (round binary32 false 1 2) (add binary32 x y)) (a + b)
    short h = subst (λ (z : Float). Midway z (a + b)) (sym (half_is (a + b) (exact_sum (a + b) h))) (short_midway (a + b) h)

    long : 16777216 ≤ a + b → Midway (mul binary32 (round binary32 false 1 2) (add binary32 x y)) (a + b)
    long h = subst (λ (z : Float). Midway z (a + b)) (sym (half_is (K (a + b) h under * 2 ^ k (a + b) h under) (long_sum (a + b) h under))) (long_midway (a + b) h under)
