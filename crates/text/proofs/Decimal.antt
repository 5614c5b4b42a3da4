-- A number in decimal has at most three digits. Assumes nothing.
use mathlib.Core.Bool.{Bool, true, false, cond}
use mathlib.Core.List.{[], ◌∷◌}
use Prim.Native.Nat.{ℕ, ◌+◌, ◌/◌, ◌%◌, ◌≤◌}
use native.Mathlib.Omega.{arith}
use lib.Dec.{ltb}
use lib.ListN.{length}
use Rattle.text.specs.Decimal.{decimal}

-- a number has at most three digits
pub decimal_long : (n : ℕ) → length (decimal n) ≤ 3
unfolding decimal
decimal_long n = go (ltb n 10) (ltb n 100)
  where
    go : (s t : Bool) → length (cond s ((48 + n) ∷ []) (cond t ((48 + n / 10) ∷ (48 + n % 10) ∷ []) ((48 + n / 100 % 10) ∷ (48 + n / 10 % 10) ∷ (48 + n % 10) ∷ []))) ≤ 3
    go true t = omega arith
    go false true = omega arith
    go false false = omega arith
