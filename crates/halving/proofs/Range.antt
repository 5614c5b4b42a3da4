-- The midpoint of two numbers from 0 to b is one too, with its sign bit clear, for any whole b that an f32 holds doubled; so is all that a halving meets. Assumes nothing.
use mathlib.Core.Path.{◌≡◌, refl, sym, ap, ◌∙◌}
use mathlib.Core.Bool.{Bool, true, false, not, ◌&&◌, ◌||◌, cond}
use Prim.Native.Nat.{ℕ, zero, suc, ◌+◌, ◌*◌, ◌≤◌, ◌<◌}
use native.Mathlib.Nat.{le_trans, le_of_eq, le_of_lt, mul_assoc, mul_comm, mul_left_comm, mul_right_comm, mul-one, one-mul, add-mul, mul-le-mul_right, mul-pos, le_of_mul-le-mul_right}
use native.Mathlib.Omega.{arith}
use lib.Dec.{T, ltb, eqb}
use lib.Ieee.{Float, nan, inf, fin, binary32, up, down, round, sum, add, mul, lt, eq, le, is_nan, of_int}
use lib.Ieee.Back.{round_whole}
use lib.Ieee.Exact.{HasValue}
use lib.Ieee.Fits.{down_pos}
use lib.Ieee.Order.{round_mono}
use borrow.Author.Tests.{ltb-true, ltb-false, eqb-true, le-ltb, not-true}
use Rattle.limits.specs.Taken.{sign_bit, sign_clear, up_to, f32_of}
use Rattle.limits.proofs.Floats.{never, round_sign}
use Rattle.halving.specs.Midpoint.{midpoint, halved, halve}

-- a number from 0 to b whose sign bit is clear
abbrev pub UpTo : ℕ → Float → Type 0
UpTo b nan = ⊥
UpTo b (inf s) = ⊥
UpTo b (fin true m e) = ⊥
UpTo b (fin false m e) = m * up e ≤ b * down e

-- ---- a comparison with a whole number b, by the fractions
cancel : (x b de n dd : ℕ) → 0 < dd → n ≡ b * dd → x * dd ≤ n * de → x ≤ b * de
cancel x b de n dd D v h = le_of_mul-le-mul_right (le_trans h (le_of_eq (ap (λ (y : ℕ). y * de) v ∙ mul_right_comm b dd de))) D

spread : (x b de n dd : ℕ) → n ≡ b * dd → x ≤ b * de → x * dd ≤ n * de
spread x b de n dd v h = le_trans (mul-le-mul_right dd h) (le_of_eq (mul_right_comm b de dd ∙ ap (λ (y : ℕ). y * de) (sym v)))

le_or : (a b : ℕ) → T (ltb a b || eqb a b && true) → a ≤ b
le_or a b t = go (ltb a b) (eqb a b) (ltb-true a b) (eqb-true a b) t
  where
    go : (p q : Bool) → (p ≡ true → a < b) → (q ≡ true → a ≡ b) → T (p || q && true) → a ≤ b
    go true q f g u = le_of_lt (f refl)
    go false true f g u = le_of_eq (g refl)
    go false false f g u = absurd u

-- what is at most a number of the value b, and has its sign bit clear
bounded : (x y : Float) (b : ℕ) → T (le x y) → sign_bit x ≡ false → HasValue y false b 1 → UpTo b x
unfolding le lt eq sign_bit
bounded nan y b l s v = l
bounded (inf true) y b l s v = never (sym s)
bounded (inf false) nan b l s v = v
bounded (inf false) (inf t) b l s v = v
bounded (inf false) (fin t n d) b l s v = l
bounded (fin true m e) y b l s v = never (sym s)
bounded (fin false m e) nan b l s v = absurd v
bounded (fin false m e) (inf t) b l s v = absurd v
bounded (fin false m e) (fin true n d) b l s v = never (sym v.0)
bounded (fin false m e) (fin false n d) b l s v =
    cancel (m * up e) b (down e) (n * up d) (down d) (down_pos d) (sym (mul-one (n * up d)) ∙ v.1) (le_or (m * up e * down d) (n * up d * down e) l)

-- a fraction of at most b is rounded to at most b
rounded : (a c b : ℕ) → 0 < c → b ≤ 16777216 → a ≤ b * c → UpTo b (round binary32 false a c)
rounded a c b C B h =
    bounded (round binary32 false a c) (round binary32 false b 1) b (round_mono binary32 a c b 1 C (omega arith) (le_trans (le_of_eq (mul-one a)) h)) (round_sign false a c) (round_whole binary32 false b B)

-- ---- the midpoint
pub sum_up_to : (b : ℕ) (x y : Float) → b + b ≤ 16777216 → UpTo b x → UpTo b y → UpTo (b + b) (add binary32 x y)
unfolding add sum
sum_up_to b nan y B p q = absurd p
sum_up_to b (inf s) y B p q = absurd p
sum_up_to b (fin true m e) y B p q = absurd p
sum_up_to b (fin false m e) nan B p q = absurd q
sum_up_to b (fin false m e) (inf t) B p q = absurd q
sum_up_to b (fin false m e) (fin true n d) B p q = absurd q
sum_up_to b (fin false m e) (fin false n d) B p q =
    let c = down e * down d in
    let x : m * up e * down d ≤ b * c = le_trans (mul-le-mul_right (down d) p) (le_of_eq (mul_assoc b (down e) (down d))) in
    let y : n * up d * down e ≤ b * c = le_trans (mul-le-mul_right (down e) q) (le_of_eq (mul_assoc b (down d) (down e) ∙ ap (λ (z : ℕ). b * z) (mul_comm (down d) (down e)))) in
    let z : (b + b) * c ≡ b * c + b * c = add-mul b b c in
    rounded (m * up e * down d + n * up d * down e) c (b + b) (mul-pos (down_pos e) (down_pos d)) B (omega arith)

half_up_to : (b : ℕ) (z : Float) → b ≤ 16777216 → UpTo (b + b) z → UpTo b (mul binary32 (round binary32 false 1 2) z)
unfolding mul round
half_up_to b nan B p = absurd p
half_up_to b (inf s) B p = absurd p
half_up_to b (fin true m e) B p = absurd p
half_up_to b (fin false m e) B p =
    let x : 1 * (m * up e) ≡ m * up e = one-mul (m * up e) in
    let y : (b + b) * down e ≡ b * (2 * down e) = add-mul b b (down e) ∙ twice (b * down e) ∙ mul_left_comm 2 b (down e) in
    rounded (1 * (m * up e)) (2 * down e) b (mul-pos (omega arith) (down_pos e)) B (le_trans (le_of_eq x) (le_trans p (le_of_eq y)))
  where
    twice : (n : ℕ) → n + n ≡ 2 * n
    twice n = omega arith

pub midpoint_up_to : (b : ℕ) (lo hi : Float) → b + b ≤ 16777216 → UpTo b lo → UpTo b hi → UpTo b (midpoint lo hi)
unfolding midpoint
midpoint_up_to b lo hi B p q = half_up_to b (add binary32 lo hi) (omega arith) (sum_up_to b lo hi B p q)

pub halve_up_to : (b : ℕ) (ok : Float → Bool) (n : ℕ) (lo hi : Float) → b + b ≤ 16777216 → UpTo b lo → UpTo b hi → UpTo b (halve ok n lo hi)
unfolding halve halved
halve_up_to b ok zero lo hi B p q = p
halve_up_to b ok (suc n) lo hi B p q =
    let mid = midpoint lo hi in
    let m : UpTo b mid = midpoint_up_to b lo hi B p q in
    halve_up_to b ok n (cond (ok mid) mid lo) (cond (ok mid) hi mid) B (either (ok mid) mid lo m p) (either (ok mid) hi mid q m)
  where
    either : (t : Bool) (x y : Float) → UpTo b x → UpTo b y → UpTo b (cond t x y)
    either true x y u v = u
    either false x y u v = v

-- ---- what the checks of `limits` take as a number up to b
not_above : (x y : Float) (b : ℕ) → HasValue y false b 1 → UpTo b x → up_to y x ≡ true
unfolding up_to sign_clear is_nan sign_bit lt
not_above nan y b v p = absurd p
not_above (inf s) y b v p = absurd p
not_above (fin true m e) y b v p = absurd p
not_above (fin false m e) nan b v p = absurd v
not_above (fin false m e) (inf t) b v p = absurd v
not_above (fin false m e) (fin true n d) b v p = never (sym v.0)
not_above (fin false m e) (fin false n d) b v p =
    ap not (le-ltb (n * up d * down e) (m * up e * down d) (spread (m * up e) b (down e) (n * up d) (down d) (sym (mul-one (n * up d)) ∙ v.1) p))

within : (x y : Float) (b : ℕ) → HasValue y false b 1 → up_to y x ≡ true → UpTo b x
unfolding up_to sign_clear is_nan sign_bit lt
within nan y b v h = never h
within (inf true) y b v h = never h
within (inf false) nan b v h = v
within (inf false) (inf t) b v h = v
within (inf false) (fin t n d) b v h = never h
within (fin true m e) y b v h = never h
within (fin false m e) nan b v h = absurd v
within (fin false m e) (inf t) b v h = absurd v
within (fin false m e) (fin true n d) b v h = never (sym v.0)
within (fin false m e) (fin false n d) b v h =
    cancel (m * up e) b (down e) (n * up d) (down d) (down_pos d) (sym (mul-one (n * up d)) ∙ v.1) (ltb-false (n * up d * down e) (m * up e * down d) (not-true (ltb (n * up d * down e) (m * up e * down d)) h))

pub up_to_taken : (b : ℕ) (x : Float) → b ≤ 16777216 → UpTo b x → up_to (f32_of b) x ≡ true
unfolding of_int
up_to_taken b x B p = not_above x (round binary32 false b 1) b (round_whole binary32 false b B) p

pub taken_up_to : (b : ℕ) (x : Float) → b ≤ 16777216 → up_to (f32_of b) x ≡ true → UpTo b x
unfolding of_int
taken_up_to b x B h = within x (round binary32 false b 1) b (round_whole binary32 false b B) h
