-- Digits and numbers: the bytes that are digits, which text is no number, and which is one. Assumes nothing.
use mathlib.Core.Path.{◌≡◌, refl}
use mathlib.Core.Bool.{Bool, true, false, ◌&&◌}
use mathlib.Core.List.{List, [], ◌∷◌}
use mathlib.Core.Option.{none, some}
use Prim.Native.Nat.{ℕ, ◌+◌, ◌-◌, ◌*◌, ◌≤◌}
use native.Mathlib.Omega.{arith}
use lib.Dec.{leb}
use borrow.Author.Tests.{leb-true, le-leb, eq-eqb, ne_eqb}
use Rattle.limits.proofs.HueCount.{both}
use Rattle.ring_reading.specs.Numbers.{is_digit, is_leading, number_of}

and-false : (a : Bool) → (a && false) ≡ false
and-false true = refl
and-false false = refl

-- what a digit is
pub digit_range : (b : ℕ) → is_digit b ≡ true → (48 ≤ b) × (b ≤ 57)
unfolding is_digit
digit_range b h = let k = both (leb 48 b) (leb b 57) h in (leb-true 48 b k.0, leb-true b 57 k.1)

pub range_digit : (b : ℕ) → 48 ≤ b → b ≤ 57 → is_digit b ≡ true
unfolding is_digit
range_digit b g h = rw (le-leb 48 b g, le-leb b 57 h)

-- a comma is no digit
pub digit_no_comma : (b : ℕ) → is_digit b ≡ true → b ≡ 44 → ⊥
digit_no_comma b h e = let k = digit_range b h in omega arith

pub leading : (b : ℕ) → is_digit b ≡ true → (b ≡ 48 → ⊥) → is_leading b ≡ true
unfolding is_leading
leading b h z = rw (h, ne_eqb b 48 z)

zero_last : (b : ℕ) → b ≡ 48 → is_leading b ≡ false
unfolding is_leading
zero_last b e = rw (eq-eqb b 48 e) (and-false (is_digit b))

no_leading : (b : ℕ) → is_digit b ≡ false → is_leading b ≡ false
unfolding is_leading
no_leading b h = rw h

-- ---- texts that are no number
pub no_digits : number_of [] ≡ none
unfolding number_of
no_digits = refl

pub first_no_digit : (a : ℕ) (more : List ℕ) → is_digit a ≡ false → number_of (a ∷ more) ≡ none
unfolding number_of
first_no_digit a [] h = rw h
first_no_digit a (b ∷ []) h = rw (no_leading a h)
first_no_digit a (b ∷ c ∷ []) h = rw (no_leading a h)
first_no_digit a (b ∷ c ∷ d ∷ more) h = refl

pub zero_then_more : (a b : ℕ) (more : List ℕ) → a ≡ 48 → number_of (a ∷ b ∷ more) ≡ none
unfolding number_of
zero_then_more a b [] e = rw (zero_last a e)
zero_then_more a b (c ∷ []) e = rw (zero_last a e)
zero_then_more a b (c ∷ d ∷ more) e = refl

pub second_no_digit : (a b : ℕ) (more : List ℕ) → is_digit b ≡ false → number_of (a ∷ b ∷ more) ≡ none
unfolding number_of
second_no_digit a b [] h = rw (h, and-false (is_leading a))
second_no_digit a b (c ∷ []) h = rw (h, and-false (is_leading a))
second_no_digit a b (c ∷ d ∷ more) h = refl

pub third_no_digit : (a b c : ℕ) (more : List ℕ) → is_digit c ≡ false → number_of (a ∷ b ∷ c ∷ more) ≡ none
unfolding number_of
third_no_digit a b c [] h = rw (h, and-false (is_leading a && is_digit b))
third_no_digit a b c (d ∷ more) h = refl

pub four_digits : (a b c d : ℕ) (more : List ℕ) → number_of (a ∷ b ∷ c ∷ d ∷ more) ≡ none
unfolding number_of
four_digits a b c d more = refl

-- ---- texts that are one
pub one_digit : (a : ℕ) → is_digit a ≡ true → number_of (a ∷ []) ≡ some (a - 48)
unfolding number_of
one_digit a h = rw h

pub two_digits : (a b : ℕ) → is_digit a ≡ true → (a ≡ 48 → ⊥) → is_digit b ≡ true → number_of (a ∷ b ∷ []) ≡ some ((a - 48) * 10 + (b - 48))
unfolding number_of
two_digits a b h z k = rw (leading a h z, k)

pub three_digits_lem : (a b c : ℕ) → is_digit a ≡ true → (a ≡ 48 → ⊥) → is_digit b ≡ true → is_digit c ≡ true
    → number_of (a ∷ b ∷ c ∷ []) ≡ some ((a - 48) * 100 + (b - 48) * 10 + (c - 48))
unfolding number_of
three_digits_lem a b c h z k l = rw (leading a h z, k, l)
