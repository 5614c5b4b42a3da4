-- What the code's own tests of an f32 say: `x != x` finds the NaN, and the top bit of the pattern is the sign bit. Assumes nothing.
use mathlib.Core.Path.{◌≡◌, refl, sym, ap, ◌∙◌}
use mathlib.Core.Bool.{Bool, true, false, not, ◌&&◌, ◌||◌, beq, cond, true≢false}
use Prim.Native.Nat.{ℕ, zero, suc, ◌+◌, ◌-◌, ◌*◌, ◌/◌, ◌%◌, ◌^◌, ◌≤◌, ◌<◌, compare}
use lib.Dec.{T, leb, ltb, eqb, eqb_refl}
use lib.Ieee.{Float, nan, inf, fin, binary32, up, down, size, nearest, units, round, odd, of_fields, of_bits, to_bits, fits, is_nan, ne, level}
use lib.Ieee.Bits.{is_true, of_bits-to_bits}
use lib.Ieee.Scale.{finite}
use native.Mathlib.Omega.{arith}
use borrow.Author.Tests.{ltb-true, ltb-false, leb-true, leb-false, lt-ltb, le-ltb, lt-leb}
use Rattle.limits.specs.Taken.{sign_bit, root_operand_taken}

-- true is not false
pub never : {A : Type 0} → ◌≡◌ {A = Bool} false true → A
never e = absurd (true≢false (sym e))

-- ---- a NaN, and nothing else, differs from itself
beq_self : (s : Bool) → beq s s ≡ true
beq_self true = refl
beq_self false = refl

level_self : (s : Bool) (a : ℕ) → level s a s a ≡ true
level_self s a = go (eqb a a) (beq s s) (is_true (eqb a a) (eqb_refl a)) (beq_self s)
  where
    go : (x y : Bool) → x ≡ true → y ≡ true → (x && (y || eqb a 0)) ≡ true
    go x y p q = rw (p, q)

pub differs : (x : Float) → ne x x ≡ is_nan x
unfolding ne lib.Ieee.eq is_nan
differs nan = refl
differs (inf s) = ap not (beq_self s)
differs (fin s m e) = ap not (level_self s (m * up e * down e))

-- ---- the sign of a pattern
odd_sign : (d : ℕ) (s : Bool) (q k l : ℕ) → sign_bit (odd d s q k l) ≡ s
unfolding odd sign_bit
odd_sign d s zero k l = refl
odd_sign d s (suc q) k l = refl

fields_sign : (s : Bool) (x t : ℕ) → is_nan (of_fields binary32 s x t) ≡ false → sign_bit (of_fields binary32 s x t) ≡ s
unfolding of_fields sign_bit is_nan
fields_sign s zero t h = odd_sign 24 s t 0 149
fields_sign s (suc x) t h = go (eqb (suc x) 255) (eqb t 0) h
  where
    go : (a b : Bool) → is_nan (cond a (cond b (inf s) nan) (odd 24 s (8388608 + t) x 149)) ≡ false → sign_bit (cond a (cond b (inf s) nan) (odd 24 s (8388608 + t) x 149)) ≡ s
    go true true h = refl
    go true false h = let z : ◌≡◌ {A = Bool} true false = h in cc
    go false b h = odd_sign 24 s (8388608 + t) x 149

pattern_sign : (b : ℕ) → is_nan (of_bits binary32 b) ≡ false → sign_bit (of_bits binary32 b) ≡ leb 2147483648 b
unfolding of_bits
pattern_sign b h = fields_sign (leb 2147483648 b) (b % 2147483648 / 8388608) (b % 8388608) h

below_top : (b : ℕ) → ltb b 2147483648 ≡ not (leb 2147483648 b)
below_top b = go (leb 2147483648 b) refl
  where
    go : (t : Bool) → leb 2147483648 b ≡ t → ltb b 2147483648 ≡ not t
    go true e = le-ltb b 2147483648 (leb-true 2147483648 b e)
    go false e = lt-ltb b 2147483648 (leb-false 2147483648 b e)

pub top_bit : (x : Float) → T (fits binary32 x) → is_nan x ≡ false → ltb (to_bits binary32 x) 2147483648 ≡ not (sign_bit x)
top_bit x F h =
    let e : of_bits binary32 (to_bits binary32 x) ≡ x = of_bits-to_bits binary32 x F in
    below_top (to_bits binary32 x)
    ∙ ap not (sym (pattern_sign (to_bits binary32 x) (ap is_nan e ∙ h)))
    ∙ ap (λ (y : Float). not (sign_bit y)) e

-- ---- what is finite with its sign bit clear has a pattern below that of the infinity
full_field : (t : ℕ) → finite (of_fields binary32 false 255 t) ≡ true → ⊥
unfolding of_fields
full_field t h = go (eqb t 0) h
  where
    go : (b : Bool) → finite (cond b (inf false) nan) ≡ true → ⊥
    go true e = never e
    go false e = never e

pattern_finite : (b : ℕ) → b < 2147483648 → finite (of_bits binary32 b) ≡ true → b < 2139095040
unfolding of_bits
pattern_finite b u h = go (ltb b 2139095040) refl
  where
    go : (t : Bool) → ltb b 2139095040 ≡ t → b < 2139095040
    go true e = ltb-true b 2139095040 e
    go false e =
        let l : 2139095040 ≤ b = ltb-false b 2139095040 e in
        let s : leb 2147483648 b ≡ false = lt-leb 2147483648 b u in
        let m : b % 2147483648 / 8388608 ≡ 255 = omega arith in
        absurd (full_field (b % 8388608) (rw (s, m) at h))

taken : (x : Float) → root_operand_taken x ≡ true → (finite x ≡ true) × ((sign_bit x ≡ false) × (is_nan x ≡ false))
unfolding root_operand_taken sign_bit is_nan
taken nan h = never h
taken (inf s) h = never h
taken (fin true m e) h = never h
taken (fin false m e) h = (refl, (refl, refl))

pub operand_no_nan : (x : Float) → root_operand_taken x ≡ true → is_nan x ≡ false
operand_no_nan x h = (taken x h).1.1

pub operand_pattern : (x : Float) → T (fits binary32 x) → root_operand_taken x ≡ true → to_bits binary32 x < 2139095040
operand_pattern x F h =
    let k = taken x h in
    let u : ltb (to_bits binary32 x) 2147483648 ≡ true = top_bit x F k.1.1 ∙ ap not k.1.0 in
    pattern_finite (to_bits binary32 x) (ltb-true (to_bits binary32 x) 2147483648 u) (ap finite (of_bits-to_bits binary32 x F) ∙ k.0)

-- ---- a rounded fraction has the sign that it was given
pub round_sign : (s : Bool) (a c : ℕ) → sign_bit (round binary32 s a c) ≡ s
unfolding round units sign_bit
round_sign s a c =
    let n = a * 2 ^ 149 in
    let k = size (n / c) - 24 in
    let u = c * 2 ^ k in
    let q = nearest (n / u) (compare (n % u * 2) u) in
    go (ltb (q * 2 ^ k) (2 ^ 277)) q k
  where
    go : (b : Bool) (q k : ℕ) → sign_bit (cond b (odd 25 s q k 149) (inf s)) ≡ s
    go true q k = odd_sign 25 s q k 149
    go false q k = refl
