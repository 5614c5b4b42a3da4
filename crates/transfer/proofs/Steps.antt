-- The constants in their order, by their patterns: constant n of decoding lies from constant n of encoding on and below the next, which is computed at every code. Assumes nothing.
use mathlib.Core.Path.{◌≡◌, refl}
use mathlib.Core.Logic.{inl, inr}
use mathlib.Core.Bool.{Bool, ◌&&◌}
use Prim.Native.Nat.{ℕ, zero, suc, ◌+◌, ◌-◌, ◌≤◌, ◌<◌, zero-le}
use native.Mathlib.Nat.{le_trans, le_of_lt, le_refl, le_of_eq, lt_of_le_of_lt, lt_of_lt_of_le, add-zero, add-suc}
use native.Mathlib.Omega.{arith}
use lib.Dec.{T, leb, ltb, leb→le, ltb→lt}
use lib.Ieee.Fits.{and_l, and_r}
use Rattle.halving.specs.Patterns.{worth, least, half_way}
use Rattle.limits.proofs.Numbers.{below_or_not}
use Rattle.transfer.specs.Transfer.{meets}
use Rattle.transfer.proofs.Table.{throughout, each}
use Rattle.transfer.proofs.Rules.{decode_pattern, threshold_pattern}

-- constant n of decoding is between constant n of encoding and the next
abbrev between : ℕ → Bool
between n = leb (threshold_pattern n) (decode_pattern n) && ltb (decode_pattern n) (threshold_pattern (suc n))

-- as computed at every code
all_between : T (throughout between 256)
unfolding least half_way meets worth
all_between = tt

-- the constant of decoding reaches that of encoding
pub reached : (n : ℕ) → n < 256 → threshold_pattern n ≤ decode_pattern n
reached n h = leb→le (threshold_pattern n) (decode_pattern n) (and_l (leb (threshold_pattern n) (decode_pattern n)) (ltb (decode_pattern n) (threshold_pattern (suc n))) (each between 256 all_between n h))

-- and not the next
pub not_reached : (n : ℕ) → n < 256 → decode_pattern n < threshold_pattern (suc n)
not_reached n h = ltb→lt (decode_pattern n) (threshold_pattern (suc n)) (and_r (leb (threshold_pattern n) (decode_pattern n)) (ltb (decode_pattern n) (threshold_pattern (suc n))) (each between 256 all_between n h))

-- so the constants of encoding ascend
ascending : (j d : ℕ) → j + d ≤ 255 → threshold_pattern j ≤ threshold_pattern (j + d)
ascending j zero h = rw add-zero (le_refl (threshold_pattern j))
ascending j (suc d) h =
    rw (add-suc j d) (le_trans (ascending j d (omega arith)) (le_trans (reached (j + d) (omega arith)) (le_of_lt (not_reached (j + d) (omega arith)))))

-- of any two constants of encoding the later is no smaller
pub threshold_le : (j k : ℕ) → j ≤ k → k ≤ 255 → threshold_pattern j ≤ threshold_pattern k
threshold_le j k h u = let e : j + (k - j) ≡ k = omega arith in rw e at (ascending j (k - j) (omega arith))

-- each of them is above zero
pub threshold_above_zero : (n : ℕ) → 0 < n → n ≤ 255 → 0 < threshold_pattern n
threshold_above_zero n h u = lt_of_le_of_lt zero-le (lt_of_lt_of_le (not_reached 0 (omega arith)) (threshold_le 1 n h u))

-- the last constant of decoding is 1
last : decode_pattern 255 ≡ 1065353216
unfolding least half_way worth
last = refl

-- no constant of encoding is above 1
pub threshold_to_one : (n : ℕ) → n ≤ 255 → threshold_pattern n ≤ 1065353216
threshold_to_one n h = le_trans (threshold_le n 255 h (omega arith)) (le_trans (reached 255 (omega arith)) (le_of_eq last))

-- nor one of decoding
pub decode_to_one : (n : ℕ) → n < 256 → decode_pattern n ≤ 1065353216
decode_to_one n h = elim (below_or_not n 255) [
  | inl l ↦ le_trans (le_of_lt (not_reached n h)) (threshold_to_one (suc n) l)
  | inr g ↦ let e : n ≡ 255 = omega arith in rw e (le_of_eq last)
]
