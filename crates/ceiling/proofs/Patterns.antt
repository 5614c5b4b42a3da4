-- The greater of two numbers by their patterns, of which one is held as its pattern (`greater_max`). Assumes nothing.
use mathlib.Core.Path.{◌≡◌, sym, ap, ◌∙◌, subst}
use mathlib.Core.Bool.{Bool, cond, not}
use mathlib.Core.Logic.{inl, inr}
use Prim.Native.Nat.{ℕ, max, ◌<◌}
use native.Mathlib.Nat.{max-eq_left, max-eq_right}
use native.Mathlib.Omega.{arith}
use lib.Dec.{T, ltb}
use lib.Ieee.{Float, binary32, of_bits, to_bits, is_nan, nan_bits, lt}
use lib.Ieee.Bits.{nan_bits_is}
use borrow.Author.Tests.{lt-ltb, le-ltb}
use Rattle.std.specs.Ordering.{ord_max, nat_cmp}
use Rattle.std.proofs.lemmas.Bool.Decides.{nat_tests}
use Rattle.limits.proofs.Numbers.{below_or_not}
use Rattle.halving.proofs.Plain.{Plain, plain_is, pattern_number, bits_of, pattern_plain, lt_plain}
use Rattle.pair_rules.specs.Rows.{greater}

pub plain_number : (x : Float) → Plain x → T (not (is_nan x))
plain_number x X = subst (λ (y : Float). T (not (is_nan y))) (plain_is x X) (pattern_number (to_bits binary32 x) X.under)

pub no_nan : (b : ℕ) → b < 2139095040 → T (not (nan_bits binary32 b))
no_nan b h = rw (nan_bits_is binary32 b) (pattern_number b h)

-- what `max` gives of two whole numbers
pub max_is : (a b : ℕ) → ord_max nat_cmp a b ≡ max a b
max_is a b = grind (arith, nat_tests)

module _ (most : ℕ) (x : Float) (small : most < 2139095040) (X : Plain x) where
  abbrev so : Float
  so = of_bits binary32 most

  -- numbers that are not negative are in the order of their patterns
  order : lt so x ≡ ltb most (to_bits binary32 x)
  order = lt_plain so x (pattern_plain most small) X ∙ ap (λ (b : ℕ). ltb b (to_bits binary32 x)) (bits_of most small)

  pub greater_max : of_bits binary32 (max most (to_bits binary32 x)) ≡ greater so x
  unfolding greater
  greater_max = elim (below_or_not most (to_bits binary32 x)) [
    | inl h ↦ ap (of_bits binary32) (max-eq_right (omega (arith, h))) ∙ plain_is x X ∙ sym (ap (λ (b : Bool). cond b x so) (order ∙ lt-ltb most (to_bits binary32 x) h))
    | inr h ↦ ap (of_bits binary32) (max-eq_left h) ∙ sym (ap (λ (b : Bool). cond b x so) (order ∙ le-ltb most (to_bits binary32 x) h))
  ]
