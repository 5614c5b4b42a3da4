-- Document 01, "Colour", stand-ins for `powf`: the constants of decoding and of encoding an 8-bit code. Definitions only.
use Rattle.std.specs.Prelude.{◌≡◌, Bool, cond, List, ℕ, zero, suc, ◌+◌, ◌-◌, ◌*◌, ◌^◌, ◌<◌, leb, get_or, Float}
use Rattle.std.specs.Float.{nan, binary32}
use Rattle.std.specs.Float.Ieee.{of_bits, le}
use Rattle.halving.specs.Patterns.{worth, least, nearest_root}

-- "256 constants, each the f32 nearest the exact value: 5n/16473 for n ≤ 10, else y with y^5 × 53805^12 = (200n + 2805)^12"
unfoldable pub decode_of : ℕ → Float
decode_of n = cond (leb n 10) (nearest_root 1 (5 * n) 16473) (nearest_root 5 ((200 * n + 2805) ^ 12) (53805 ^ 12))

-- "2 × 16473 × v ≥ 5(2n - 1) for n ≤ 10, else v^5 × 53805^12 ≥ (200n + 2705)^12", v being the f32 with the pattern b, and its units of 2^-149 multiplied out
unfoldable pub meets : ℕ → ℕ → Bool
meets n b = cond (leb n 10) (leb (5 * (2 * n - 1) * 2 ^ 149) (2 * 16473 * worth b)) (leb ((200 * n + 2705) ^ 12 * 2 ^ 745) (worth b ^ 5 * 53805 ^ 12))

-- "constant n, from 1 to 255, is the least f32" that meets this; no negative f32 does, since 0 does not
unfoldable pub threshold_of : ℕ → Float
threshold_of n = of_bits binary32 (least (meets n) 31 0)

-- how many of the constants 1 to n are ≤ v
unfoldable pub count_to : ℕ → Float → ℕ
count_to zero v = zero
count_to (suc n) v = cond (le (threshold_of (suc n)) v) 1 0 + count_to n v

-- "The code is how many constants are ≤ v": of all 255
unfoldable pub encode_of : Float → ℕ
encode_of v = count_to 255 v

-- the n numbers of a table are f 0, f 1 and so on
pub record Lists (n : ℕ) (f : ℕ → Float) (xs : List Float) : Type 0 where
  pub at : (k : ℕ) → k < n → get_or xs k nan ≡ f k
