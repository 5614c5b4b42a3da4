-- The f32 from plus 0 up, the infinity left out: each has its pattern, they compare as their patterns do, and no f32 lies between one and the next. Assumes nothing.
use mathlib.Core.Path.{◌≡◌, refl, sym, ap, ◌∙◌, subst}
use mathlib.Core.Logic.{◌⊎◌, inl, inr}
use mathlib.Core.Bool.{Bool, true, false, not, ◌&&◌, ◌||◌, true≢false}
use Prim.Native.Nat.{ℕ, suc, ◌*◌, ◌^◌, ◌≤◌, ◌<◌}
use native.Mathlib.Nat.{le_trans, le_of_eq, le_antisymm, lt_of_not-le, not-le_of_lt, mul_assoc, mul_right_comm, mul-le-mul_right, mul-lt-mul_of_pos_right, le_of_mul-le-mul_right}
use native.Mathlib.Omega.{arith}
use lib.IntN.{ℤ}
use lib.Dec.{T, leb, ltb, eqb}
use lib.Pow.{pow_pos, pow-add}
use lib.Ieee.{Float, nan, inf, fin, binary32, up, down, of_bits, to_bits, fits, is_nan, lt, eq, le}
use lib.Ieee.Bits.{of_bits-to_bits, to_bits-of_bits, of_bits-fits}
use lib.Ieee.Exact.{HasValue}
use lib.Ieee.Fits.{down_pos}
use lib.Ieee.Order.{transfer}
use borrow.Author.Tests.{leb-true, leb-false, ltb-true, ltb-false, lt-ltb, le-ltb, le-leb, lt-leb, eq-eqb, ne_eqb}
use Rattle.limits.specs.Taken.{sign_bit, root_operand_taken, f32_of, up_to}
use Rattle.limits.proofs.Floats.{never, operand_pattern}
use Rattle.halving.specs.Patterns.{worth, next}
use Rattle.limits.proofs.Numbers.{below_or_not}
use Rattle.halving.proofs.Patterns.{worth_le, worth_normal, pattern_value}
use Rattle.halving.proofs.Midway.{Units}
use Rattle.halving.proofs.Range.{UpTo, taken_up_to}
use Rattle.halving.proofs.Width.{worth_lt}

-- ---- two numbers by the fractions a / c and b / d that they equal
module _ (m n a c b d : ℕ) (e f : ℤ) (C : 0 < c) (D : 0 < d) (p : m * up e * c ≡ a * down e) (q : n * up f * d ≡ b * down f) where
  own_le : a * d ≤ b * c → m * up e * down f ≤ n * up f * down e
  own_le h = transfer (m * up e) (n * up f) (down e) (down f) a b c d C D p q h

  fractions_le : m * up e * down f ≤ n * up f * down e → a * d ≤ b * c
  fractions_le h = transfer a b c d (m * up e) (n * up f) (down e) (down f) (down_pos e) (down_pos f) (sym p) (sym q) h

-- the same by tests
tests : (P Q a b : ℕ) → (a ≤ b → P ≤ Q) → (P ≤ Q → a ≤ b) → (b ≤ a → Q ≤ P) → (Q ≤ P → b ≤ a) → (ltb P Q ≡ ltb a b) × ((ltb P Q || (eqb P Q && true)) ≡ leb a b)
tests P Q a b f g h k = elim (below_or_not a b) [ inl l ↦ less l | inr l ↦ more l ]
  where
    less : a < b → (ltb P Q ≡ ltb a b) × ((ltb P Q || (eqb P Q && true)) ≡ leb a b)
    less l =
        let s : P < Q = lt_of_not-le (λ (z : Q ≤ P). not-le_of_lt l (k z)) in
        (lt-ltb P Q s ∙ sym (lt-ltb a b l), ap (λ (t : Bool). t || (eqb P Q && true)) (lt-ltb P Q s) ∙ sym (le-leb a b (omega arith)))

    more : b ≤ a → (ltb P Q ≡ ltb a b) × ((ltb P Q || (eqb P Q && true)) ≡ leb a b)
    more l = (le-ltb P Q (h l) ∙ sym (le-ltb a b l), ap (λ (t : Bool). t || (eqb P Q && true)) (le-ltb P Q (h l)) ∙ same)
      where
        same : (eqb P Q && true) ≡ leb a b
        same = elim (below_or_not b a) [ inl z ↦ apart z | inr z ↦ equal z ]
          where
            apart : b < a → (eqb P Q && true) ≡ leb a b
            apart z = ap (λ (t : Bool). t && true) (ne_eqb P Q (λ (u : P ≡ Q). not-le_of_lt z (g (le_of_eq u)))) ∙ sym (lt-leb a b z)

            equal : a ≤ b → (eqb P Q && true) ≡ leb a b
            equal z = ap (λ (t : Bool). t && true) (eq-eqb P Q (le_antisymm (f z) (h l))) ∙ sym (le-leb a b z)

pub compared : (x y : Float) (a c b d : ℕ) → 0 < c → 0 < d → HasValue x false a c → HasValue y false b d → (lt x y ≡ ltb (a * d) (b * c)) × (le x y ≡ leb (a * d) (b * c))
unfolding le lt eq
compared nan y a c b d C D v w = absurd v
compared (inf s) y a c b d C D v w = absurd v
compared (fin true m e) y a c b d C D v w = absurd (true≢false v.0)
compared (fin false m e) nan a c b d C D v w = absurd w
compared (fin false m e) (inf t) a c b d C D v w = absurd w
compared (fin false m e) (fin true n f) a c b d C D v w = absurd (true≢false w.0)
compared (fin false m e) (fin false n f) a c b d C D v w =
    tests (m * up e * down f) (n * up f * down e) (a * d) (b * c)
    (own_le m n a c b d e f C D v.1 w.1) (fractions_le m n a c b d e f C D v.1 w.1)
    (own_le n m b d a c f e D C w.1 v.1) (fractions_le n m b d a c f e D C w.1 v.1)

-- ---- such an f32 with its pattern
pub record Plain (x : Float) : Type 0 where
  pub f32 : T (fits binary32 x)
  pub under : to_bits binary32 x < 2139095040

pub plain_is : (x : Float) → Plain x → of_bits binary32 (to_bits binary32 x) ≡ x
plain_is x p = of_bits-to_bits binary32 x p.f32

pub plain_units : (x : Float) → Plain x → Units x (worth (to_bits binary32 x))
plain_units x p = subst (λ (y : Float). Units y (worth (to_bits binary32 x))) (plain_is x p) (pattern_value (to_bits binary32 x) p.under)

worth_tests : (a b u : ℕ) → 0 < u → (ltb (worth a * u) (worth b * u) ≡ ltb a b) × (leb (worth a * u) (worth b * u) ≡ leb a b)
worth_tests a b u U = elim (below_or_not a b) [ inl l ↦ less l | inr l ↦ (le-ltb (worth a * u) (worth b * u) (mul-le-mul_right u (worth_le l)) ∙ sym (le-ltb a b l), same l) ]
  where
    less : a < b → (ltb (worth a * u) (worth b * u) ≡ ltb a b) × (leb (worth a * u) (worth b * u) ≡ leb a b)
    less l = (lt-ltb (worth a * u) (worth b * u) (mul-lt-mul_of_pos_right (worth_lt l) U) ∙ sym (lt-ltb a b l), le-leb (worth a * u) (worth b * u) (mul-le-mul_right u (worth_le (omega arith))) ∙ sym (le-leb a b (omega arith)))

    same : b ≤ a → leb (worth a * u) (worth b * u) ≡ leb a b
    same l = elim (below_or_not b a) [
      | inl z ↦ lt-leb (worth a * u) (worth b * u) (mul-lt-mul_of_pos_right (worth_lt z) U) ∙ sym (lt-leb a b z)
      | inr z ↦ le-leb (worth a * u) (worth b * u) (mul-le-mul_right u (worth_le z)) ∙ sym (le-leb a b z)
    ]

module _ (x y : Float) (p : Plain x) (q : Plain y) where
  abbrev a : ℕ
  a = to_bits binary32 x

  abbrev b : ℕ
  b = to_bits binary32 y

  pub lt_plain : lt x y ≡ ltb a b
  lt_plain = (compared x y (worth a) (2 ^ 149) (worth b) (2 ^ 149) (pow_pos 149) (pow_pos 149) (plain_units x p) (plain_units y q)).0 ∙ (worth_tests a b (2 ^ 149) (pow_pos 149)).0

  pub le_plain : le x y ≡ leb a b
  le_plain = (compared x y (worth a) (2 ^ 149) (worth b) (2 ^ 149) (pow_pos 149) (pow_pos 149) (plain_units x p) (plain_units y q)).1 ∙ (worth_tests a b (2 ^ 149) (pow_pos 149)).1

-- ---- the order
pub le_through : (x y z : Float) → Plain x → Plain y → Plain z → le x y ≡ true → le y z ≡ true → le x z ≡ true
le_through x y z p q r h k =
    le_plain x z p r
    ∙ le-leb (to_bits binary32 x) (to_bits binary32 z)
    (le_trans (leb-true (to_bits binary32 x) (to_bits binary32 y) (sym (le_plain x y p q) ∙ h)) (leb-true (to_bits binary32 y) (to_bits binary32 z) (sym (le_plain y z q r) ∙ k)))

pub not_lt_le : (x y : Float) → Plain x → Plain y → lt x y ≡ false → le y x ≡ true
not_lt_le x y p q h = le_plain y x q p ∙ le-leb (to_bits binary32 y) (to_bits binary32 x) (ltb-false (to_bits binary32 x) (to_bits binary32 y) (sym (lt_plain x y p q) ∙ h))

pub not_le_lt : (x y : Float) → Plain x → Plain y → le x y ≡ false → lt y x ≡ true
not_le_lt x y p q h = lt_plain y x q p ∙ lt-ltb (to_bits binary32 y) (to_bits binary32 x) (leb-false (to_bits binary32 x) (to_bits binary32 y) (sym (le_plain x y p q) ∙ h))

pub le_not_lt : (x y : Float) → Plain x → Plain y → le x y ≡ true → lt y x ≡ false
le_not_lt x y p q h = lt_plain y x q p ∙ le-ltb (to_bits binary32 y) (to_bits binary32 x) (leb-true (to_bits binary32 x) (to_bits binary32 y) (sym (le_plain x y p q) ∙ h))

pub lt_then_le : (x y : Float) → Plain x → Plain y → lt x y ≡ true → le x y ≡ true
lt_then_le x y p q h =
    let l : to_bits binary32 x < to_bits binary32 y = ltb-true (to_bits binary32 x) (to_bits binary32 y) (sym (lt_plain x y p q) ∙ h) in
    le_plain x y p q ∙ le-leb (to_bits binary32 x) (to_bits binary32 y) (omega arith)

-- two of which neither is below the other are one
pub le_both : (x y : Float) → Plain x → Plain y → le x y ≡ true → le y x ≡ true → x ≡ y
le_both x y p q h k =
    let e : to_bits binary32 x ≡ to_bits binary32 y = le_antisymm (leb-true (to_bits binary32 x) (to_bits binary32 y) (sym (le_plain x y p q) ∙ h)) (leb-true (to_bits binary32 y) (to_bits binary32 x) (sym (le_plain y x q p) ∙ k)) in
    sym (plain_is x p) ∙ ap (of_bits binary32) e ∙ plain_is y q

-- ---- which f32 are such
positive_pattern : (m : ℕ) (e : ℤ) → T (fits binary32 (fin false m e)) → Plain (fin false m e)
unfolding root_operand_taken sign_bit
positive_pattern m e F = record { f32 = F; under = operand_pattern (fin false m e) F refl }

-- a number from 0 to b, by its pattern r, that of b
pub up_to_plain : (x : Float) (b r : ℕ) → T (fits binary32 x) → UpTo b x → worth r ≡ b * 2 ^ 149 → Plain x × (to_bits binary32 x ≤ r)
up_to_plain nan b r F u e = absurd u
up_to_plain (inf s) b r F u e = absurd u
up_to_plain (fin true m k) b r F u e = absurd u
up_to_plain (fin false m k) b r F u e =
    let p = positive_pattern m k F in
    let v = plain_units (fin false m k) p in
    let c = to_bits binary32 (fin false m k) in
    let h : worth c * down k ≤ b * 2 ^ 149 * down k = le_trans (le_of_eq (sym v.1)) (le_trans (mul-le-mul_right (2 ^ 149) u) (le_of_eq (mul_right_comm b (down k) (2 ^ 149)))) in
    let l : worth c ≤ worth r = subst (λ (z : ℕ). worth c ≤ z) (sym e) (le_of_mul-le-mul_right h (down_pos k)) in
    (p, elim (below_or_not r c) [ inl z ↦ absurd (not-le_of_lt (worth_lt z) l) | inr z ↦ z ])

-- an entry or a chroma that is taken: at most 200
pub taken_plain : (x : Float) → T (fits binary32 x) → up_to (f32_of 200) x ≡ true → Plain x × (to_bits binary32 x ≤ 1128792064)
taken_plain x F h = up_to_plain x 200 1128792064 F (taken_up_to 200 x (omega arith) h) (worth_normal 133 13107200 (omega arith) (omega arith) ∙ ap (λ (z : ℕ). z * 2 ^ 133) (sym eight) ∙ mul_assoc 200 65536 (2 ^ 133) ∙ ap (λ (z : ℕ). 200 * z) (sym (pow-add 2 16 133)))
  where
    eight : 200 * 65536 ≡ 13107200
    eight = refl

-- what a pattern stands for
no_nan : (x : Float) (a : ℕ) → Units x a → T (not (is_nan x))
unfolding is_nan
no_nan nan a v = v
no_nan (inf s) a v = tt
no_nan (fin s m e) a v = tt

pub pattern_number : (b : ℕ) → b < 2139095040 → T (not (is_nan (of_bits binary32 b)))
pattern_number b h = no_nan (of_bits binary32 b) (worth b) (pattern_value b h)

pub bits_of : (b : ℕ) → b < 2139095040 → to_bits binary32 (of_bits binary32 b) ≡ b
bits_of b h = to_bits-of_bits binary32 b (omega arith) (pattern_number b h)

pub pattern_plain : (b : ℕ) → b < 2139095040 → Plain (of_bits binary32 b)
pattern_plain b h = record { f32 = of_bits-fits binary32 b; under = subst (λ (z : ℕ). z < 2139095040) (sym (bits_of b h)) h }

-- ---- the next f32: no f32 lies strictly between
above_plain : (x y : Float) (a : ℕ) → Units x a → T (fits binary32 y) → lt x y ≡ true → Plain y ⊎ (y ≡ inf false)
unfolding lt
above_plain nan y a v F h = absurd v
above_plain (inf s) y a v F h = absurd v
above_plain (fin true m e) y a v F h = absurd (true≢false v.0)
above_plain (fin false m e) nan a v F h = never h
above_plain (fin false m e) (inf true) a v F h = never h
above_plain (fin false m e) (inf false) a v F h = inr refl
above_plain (fin false m e) (fin true n d) a v F h = never h
above_plain (fin false m e) (fin false n d) a v F h = inl (positive_pattern n d F)

infinity : (z : Float) (a : ℕ) → Units z a → (lt (inf false) z ≡ false) × (le z (inf false) ≡ true)
unfolding le lt eq
infinity nan a v = absurd v
infinity (inf s) a v = absurd v
infinity (fin s m e) a v = (refl, refl)

pub infinity_above : (x : Float) → Plain x → (lt (inf false) x ≡ false) × (le x (inf false) ≡ true)
infinity_above x p = infinity x (worth (to_bits binary32 x)) (plain_units x p)

module _ (x : Float) (p : Plain x) (u : to_bits binary32 x < 2139095039) where
  next_bits : to_bits binary32 (next x) ≡ suc (to_bits binary32 x)
  unfolding next
  next_bits = bits_of (suc (to_bits binary32 x)) (omega arith)

  pub next_plain : Plain (next x)
  unfolding next
  next_plain = pattern_plain (suc (to_bits binary32 x)) (omega arith)

  pub none_between : (y : Float) → T (fits binary32 y) → lt x y ≡ true → lt y (next x) ≡ true → ⊥
  none_between y F h k = elim (above_plain x y (worth (to_bits binary32 x)) (plain_units x p) F h) [ inl q ↦ between q | inr e ↦ never (sym (infinity_above (next x) next_plain).0 ∙ subst (λ (z : Float). lt z (next x) ≡ true) e k) ]
    where
      between : Plain y → ⊥
      between q =
          let a : to_bits binary32 x < to_bits binary32 y = ltb-true (to_bits binary32 x) (to_bits binary32 y) (sym (lt_plain x y p q) ∙ h) in
          let b : to_bits binary32 y < to_bits binary32 (next x) = ltb-true (to_bits binary32 y) (to_bits binary32 (next x)) (sym (lt_plain y (next x) q next_plain) ∙ k) in
          let e = next_bits in
          omega arith

  pub next_above : lt x (next x) ≡ true
  next_above = lt_plain x (next x) p next_plain ∙ lt-ltb (to_bits binary32 x) (to_bits binary32 (next x)) (let e = next_bits in omega arith)

-- a greater f32 has a greater one after it
pub next_le : (x y : Float) (p : Plain x) (q : Plain y) (u : to_bits binary32 x < 2139095039) (w : to_bits binary32 y < 2139095039) → le x y ≡ true → le (next x) (next y) ≡ true
next_le x y p q u w h =
    let a : to_bits binary32 x ≤ to_bits binary32 y = leb-true (to_bits binary32 x) (to_bits binary32 y) (sym (le_plain x y p q) ∙ h) in
    let e = next_bits x p u in
    let f = next_bits y q w in
    le_plain (next x) (next y) (next_plain x p u) (next_plain y q w) ∙ le-leb (to_bits binary32 (next x)) (to_bits binary32 (next y)) (omega arith)
