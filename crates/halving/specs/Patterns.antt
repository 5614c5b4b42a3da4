-- The f32 that are not negative, in the order of their bit patterns: the pattern after b is that of the next f32.
-- And the f32 nearest an exact root, found by comparing powers of whole numbers. Definitions only.
use Rattle.std.specs.Prelude.{ℕ, zero, suc, ◌+◌, ◌-◌, ◌*◌, ◌/◌, ◌%◌, ◌^◌, Bool, cond, leb, Float}
use Rattle.std.specs.Float.{binary32}
use Rattle.std.specs.Float.Ieee.{of_bits, to_bits}

-- m digits under the exponent field x, in units of 2 ^ -149, the smallest f32: a field of 0 has no leading digit
unfoldable pub worth_of : ℕ → ℕ → ℕ
worth_of zero m = m
worth_of (suc x) m = (8388608 + m) * 2 ^ x

-- how many units the f32 with the pattern b is, for a b below that of the infinity, 255 * 2 ^ 23
unfoldable pub worth : ℕ → ℕ
unfolding worth_of
worth b = worth_of (b / 8388608) (b % 8388608)

-- the next f32 after x, for an x that is neither negative nor the infinity
unfoldable pub next : Float → Float
next x = of_bits binary32 (suc (to_bits binary32 x))

-- The least of the 2 ^ k numbers from `from` on at which p holds, found by halving, for a p that holds from there on.
unfoldable pub least : (ℕ → Bool) → ℕ → ℕ → ℕ
least p zero from = from
least p (suc k) from = least p k (from + cond (p (from + (2 ^ k - 1))) 0 (2 ^ k))

-- The n-th root of a / c is at most half way from the f32 with the pattern b to the next: a / c ≤ (half their sum) ^ n, with the units and the 2 multiplied out.
unfoldable pub half_way : ℕ → ℕ → ℕ → ℕ → Bool
half_way n a c b = leb (2 ^ n * (a * 2 ^ (149 * n))) ((worth b + worth (suc b)) ^ n * c)

-- the f32 nearest the n-th root of a / c: the first that the root is no more than half way above
unfoldable pub nearest_root : ℕ → ℕ → ℕ → Float
nearest_root n a c = of_bits binary32 (least (half_way n a c) 31 0)
