-- The f32 that are not negative compare as their patterns do, and whatever is at least a positive f32 is at least every smaller one. Assumes nothing.
use mathlib.Core.Path.{◌≡◌, refl, sym, subst}
use mathlib.Core.Bool.{Bool, true, false}
use Prim.Native.Nat.{ℕ, ◌^◌, ◌≤◌, ◌<◌, zero-le}
use native.Mathlib.Nat.{lt_of_le_of_lt, lt_of_lt_of_le, not-le_of_lt, le_of_mul-le-mul_right, mul-le-mul_right}
use native.Mathlib.Omega.{arith}
use lib.Dec.{T}
use lib.Pow.{pow_pos}
use lib.Ieee.{Float, nan, inf, fin, binary32, of_bits, le}
use lib.Ieee.Exact.{HasValue}
use lib.Ieee.Order.{le_of_values}
use lib.Ieee.Positive.{positive, positive_of_value, values_of_le, above, above_of_le, le_trans_positive}
use Rattle.halving.specs.Patterns.{worth}
use Rattle.halving.proofs.Patterns.{worth_le, worth_next, pattern_value}

-- a test that is true holds
pub holds_true : {b : Bool} → b ≡ true → T b
holds_true e = subst T (sym e) tt

-- a pattern above 0 and below the infinity's is that of a positive number
pub pattern_positive : (b : ℕ) → 0 < b → b < 2139095040 → T (positive (of_bits binary32 b))
pattern_positive b h u = positive_of_value (of_bits binary32 b) (worth b) (2 ^ 149) (pattern_value b u) (lt_of_le_of_lt zero-le (lt_of_lt_of_le (worth_next 0) (worth_le h)))

-- a pattern that is no larger is that of a number that is no larger
pub pattern_le : (a b : ℕ) → a ≤ b → b < 2139095040 → T (le (of_bits binary32 a) (of_bits binary32 b))
pattern_le a b h u =
    le_of_values (of_bits binary32 a) (of_bits binary32 b) (worth a) (2 ^ 149) (worth b) (2 ^ 149) (pow_pos 149) (pow_pos 149)
    (pattern_value a (omega arith)) (pattern_value b u) (mul-le-mul_right (2 ^ 149) (worth_le h))

-- above zero and finite is positive
finite_above : (x : Float) (a c : ℕ) → HasValue x false a c → T (above x) → T (positive x)
finite_above nan a c v t = absurd v
finite_above (inf s) a c v t = absurd v
finite_above (fin true m e) a c v t = absurd t
finite_above (fin false m e) a c v t = t

-- a smaller pattern is that of a smaller number
pub pattern_above : (a b : ℕ) → a < b → b < 2139095040 → le (of_bits binary32 b) (of_bits binary32 a) ≡ false
pattern_above a b h u = go (le (of_bits binary32 b) (of_bits binary32 a)) refl
  where
    never : T (le (of_bits binary32 b) (of_bits binary32 a)) → ⊥
    never t =
        let p : T (positive (of_bits binary32 b)) = pattern_positive b (omega arith) u in
        let w : HasValue (of_bits binary32 a) false (worth a) (2 ^ 149) = pattern_value a (omega arith) in
        let q : T (positive (of_bits binary32 a)) = finite_above (of_bits binary32 a) (worth a) (2 ^ 149) w (above_of_le (of_bits binary32 b) (of_bits binary32 a) p t) in
        not-le_of_lt (lt_of_lt_of_le (worth_next a) (worth_le h))
        (le_of_mul-le-mul_right (values_of_le (of_bits binary32 b) (of_bits binary32 a) (worth b) (2 ^ 149) (worth a) (2 ^ 149) p q (pattern_value b u) w t) (pow_pos 149))

    go : (t : Bool) → le (of_bits binary32 b) (of_bits binary32 a) ≡ t → t ≡ false
    go true e = absurd (never (holds_true e))
    go false e = refl

-- a positive number is at most plus infinity
up_to_infinity : (x : Float) → T (positive x) → T (le x (inf false))
unfolding le
up_to_infinity nan p = absurd p
up_to_infinity (inf s) p = absurd p
up_to_infinity (fin s m e) p = tt

-- x ≤ y and y ≤ v give x ≤ v, for every f32 v
pub onward : (x y v : Float) → T (positive x) → T (positive y) → T (le x y) → T (le y v) → T (le x v)
onward x y v p q h k = go v (above_of_le y v q k) k
  where
    go : (v : Float) → T (above v) → T (le y v) → T (le x v)
    go nan a k = absurd a
    go (inf true) a k = absurd a
    go (inf false) a k = up_to_infinity x p
    go (fin true m e) a k = absurd a
    go (fin false m e) a k = le_trans_positive x y (fin false m e) p q a h k
