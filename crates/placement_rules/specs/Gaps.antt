-- Req 07: "A placement carries its smallest gap round the circle, counted in positions, the closing gap included; for k = 1 it is the ring length." Over plain numbers, for
-- indices in the order in which they are taken. Definitions only.
use Rattle.std.specs.Prelude.{Bool, cond, List, [], ◌∷◌, ℕ, suc, ◌+◌, ◌-◌, ◌/◌, ◌≤◌, min, ◌≡◌, ltb}
use Rattle.placement_rules.specs.Spacing.{Spaced}

-- how far j lies on from i round a ring of n: the whole ring where they are one index
unfoldable pub around : ℕ → ℕ → ℕ → ℕ
around n i j = cond (ltb i j) (j - i) (n + j - i)

-- the smallest gap from cur on: from each index to the next, and from the last back to the first
unfoldable pub tightest_from : ℕ → ℕ → ℕ → List ℕ → ℕ
tightest_from n first cur [] = around n cur first
tightest_from n first cur (j ∷ is) = min (around n cur j) (tightest_from n first j is)

-- the smallest gap round a ring of n; 0 of no indices, and n of one
unfoldable pub tightest : ℕ → List ℕ → ℕ
tightest n [] = 0
tightest n (i ∷ is) = tightest_from n i i is

-- what it means for k indices that are placed at least step apart: any two of them are that far apart both ways round, in whatever order they are listed, and with k of 2 or
-- more not one position further; it is at least the step and at most an equal share of the ring; and with one index it is the ring
pub record Least (ok : ℕ → Bool) (n k step t : ℕ) (is : List ℕ) : Type 0 where
  pub spaced : Spaced ok n k t is
  pub no_further : 2 ≤ k → Spaced ok n k (suc t) is → ⊥
  pub from_step : step ≤ t
  pub in_share : t ≤ n / k
  pub alone : k ≡ 1 → t ≡ n
