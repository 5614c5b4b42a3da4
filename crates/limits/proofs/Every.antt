-- `every` by a flag that goes through a list: the flag so far and the test of what is left are the test of the whole, at the start (`begun`) and one element
-- on (`joined`), so that past the end the flag is the test of the whole (`ended`). Assumes nothing.
use mathlib.Core.Path.{◌≡◌, refl, sym, ap, ◌∙◌}
use mathlib.Core.Bool.{Bool, true, ◌&&◌, and_assoc, and-true}
use mathlib.Core.List.{List}
use Prim.Native.Nat.{ℕ, ◌+◌, ◌≤◌, ◌<◌}
use native.Mathlib.Numerals.{add-one}
use native.Mathlib.Omega.{arith}
use lib.ListN.{length, get_or, drop, drop_of_length-le}
use lib.Seq.{drop-cons}
use lib.Ieee.{Float, nan}
use Rattle.limits.specs.Taken.{every}

-- the flag after i elements of a list
abbrev pub SoFar : (Float → Bool) → List Float → Bool → ℕ → Type 0
SoFar p xs all i = (i ≤ length xs) × ((all && every p (drop i xs)) ≡ every p xs)

module _ (p : Float → Bool) (xs : List Float) where
  pub begun : SoFar p xs true 0
  begun = (omega arith, refl)

  split : (i : ℕ) → i < length xs → every p (drop i xs) ≡ (p (get_or xs i nan) && every p (drop (i + 1) xs))
  unfolding every
  split i at = ap (every p) (drop-cons xs i nan at) ∙ ap (λ (n : ℕ). p (get_or xs i nan) && every p (drop n xs)) (sym (add-one i))

  pub joined : (all one : Bool) (i : ℕ) → i < length xs → one ≡ p (get_or xs i nan) → SoFar p xs all i → SoFar p xs (all && one) (i + 1)
  joined all one i at e s = (omega arith, and_assoc all one (every p (drop (i + 1) xs)) ∙ rw (e, ← split i at) s.1)

  pub ended : (all : Bool) (i : ℕ) → length xs ≤ i → SoFar p xs all i → all ≡ every p xs
  unfolding every
  ended all i h s = sym (and-true all) ∙ ap (λ (ys : List Float). all && every p ys) (sym (drop_of_length-le xs h)) ∙ s.1
