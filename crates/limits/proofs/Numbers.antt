-- Facts of whole numbers that several crates need. Assumes nothing.
use mathlib.Core.Path.{◌≡◌, refl}
use mathlib.Core.Bool.{Bool, true, false}
use mathlib.Core.Logic.{◌⊎◌, inl, inr}
use Prim.Native.Nat.{ℕ, ◌-◌, ◌*◌, ◌^◌, ◌≤◌, ◌<◌}
use native.Mathlib.Nat.{mul_comm, mul-sub}
use lib.Dec.{leb}
use lib.Pow.{pow_mono}
use borrow.Author.Tests.{leb-true, leb-false}

-- a number is below another, or not
pub below_or_not : (a b : ℕ) → (a < b) ⊎ (b ≤ a)
below_or_not a b = go (leb b a) refl
  where
    go : (t : Bool) → leb b a ≡ t → (a < b) ⊎ (b ≤ a)
    go true e = inr (leb-true b a e)
    go false e = inl (leb-false b a e)

-- powers of 2 are in the order of their exponents
pub power : (i j : ℕ) → i ≤ j → 2 ^ i ≤ 2 ^ j
power i j h = pow_mono h

-- a difference taken so many times
pub minus : (p q c : ℕ) → (p - q) * c ≡ p * c - q * c
minus p q c = simp (mul_comm, mul-sub)
