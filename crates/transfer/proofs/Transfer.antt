-- What document 01 says of the constants and the codes: each constant is nearest, or least; a decoded code is encoded as itself; NaN and what is below 0 give 0, what is above 1 gives 255. Assumes nothing.
use mathlib.Core.Path.{◌≡◌, refl, sym, ◌∙◌}
use mathlib.Core.Bool.{Bool, true, false}
use Prim.Native.Nat.{ℕ, suc, ◌+◌, ◌*◌, ◌^◌, ◌≤◌, ◌<◌}
use native.Mathlib.Nat.{le_trans, le_refl, lt_of_lt_of_le, not-le_of_lt, not-suc-le-zero, zero-mul}
use native.Mathlib.Omega.{arith}
use lib.IntN.{pos}
use lib.Dec.{T, ltb, ltb→lt}
use lib.Ieee.{Float, nan, inf, fin, binary32, up, down, of_bits, of_int, lt, le}
use lib.Ieee.Bits.{is_true}
use lib.Ieee.Positive.{above, above_of_le}
use borrow.Author.Tests.{ltb-true}
use Rattle.halving.specs.Patterns.{worth, least, half_way}
use Rattle.halving.proofs.Least.{least_holds, least_first}
use Rattle.halving.proofs.Nearest.{sums, below}
use Rattle.transfer.specs.Transfer.{decode_of, meets, threshold_of, encode_of}
use Rattle.transfer.proofs.Table.{throughout, each}
use Rattle.transfer.proofs.Rules.{degree, dividend, divisor, decode_pattern, threshold_pattern, decode_is, meets_lasts}
use Rattle.halving.proofs.Order.{holds_true, pattern_positive, pattern_le, pattern_above, onward}
use Rattle.transfer.proofs.Steps.{reached, not_reached, threshold_le, threshold_to_one, decode_to_one}
use Rattle.transfer.proofs.Count.{threshold_positive, encode_is}

-- "Encoding a decoded code gives it back."
pub round_trip : (n : ℕ) → n < 256 → encode_of (decode_of n) ≡ n
unfolding threshold_of
round_trip n h = rw (decode_is n) (encode_is (of_bits binary32 (decode_pattern n)) n (omega arith) met missed)
  where
    met : (k : ℕ) → k < n → le (threshold_of (suc k)) (of_bits binary32 (decode_pattern n)) ≡ true
    met k l =
        let o : decode_pattern n ≤ 1065353216 = decode_to_one n h in
        is_true (le (threshold_of (suc k)) (of_bits binary32 (decode_pattern n)))
        (pattern_le (threshold_pattern (suc k)) (decode_pattern n) (le_trans (threshold_le (suc k) n l (omega arith)) (reached n h)) (omega arith))

    missed : (k : ℕ) → n ≤ k → k < 255 → le (threshold_of (suc k)) (of_bits binary32 (decode_pattern n)) ≡ false
    missed k g u =
        let o : threshold_pattern (suc k) ≤ 1065353216 = threshold_to_one (suc k) u in
        pattern_above (decode_pattern n) (threshold_pattern (suc k)) (lt_of_lt_of_le (not_reached n h) (threshold_le (suc n) (suc k) (omega arith) u)) (omega arith)

-- what is not above zero: a NaN, either zero, and whatever is negative
pub encode_not_above : (v : Float) → above v ≡ false → encode_of v ≡ 0
encode_not_above v f = encode_is v 0 (omega arith) (λ (k : ℕ) (l : k < 0). absurd (not-suc-le-zero l)) (λ (k : ℕ) (g : 0 ≤ k) (u : k < 255). missed k u)
  where
    missed : (k : ℕ) → k < 255 → le (threshold_of (suc k)) v ≡ false
    missed k u = go (le (threshold_of (suc k)) v) refl
      where
        go : (t : Bool) → le (threshold_of (suc k)) v ≡ t → t ≡ false
        go true e = sym (is_true (above v) (above_of_le (threshold_of (suc k)) v (threshold_positive k u) (holds_true e))) ∙ f
        go false e = refl

-- "Values below 0 or NaN give 0": NaN
pub encode_nan : encode_of nan ≡ 0
encode_nan = encode_not_above nan refl

-- what is below 0 is not above it
below_zero : (v : Float) → lt v (of_int binary32 (pos 0)) ≡ true → above v ≡ false
unfolding lt of_int
below_zero nan h = refl
below_zero (inf true) h = refl
below_zero (inf false) h = sym h
below_zero (fin true m e) h = refl
below_zero (fin false m e) h = absurd (not-suc-le-zero (rw (zero-mul (down e)) at (ltb-true (m * up e * down (pos 0)) (0 * up (pos 0) * down e) h)))

-- and values below 0
pub encode_below : (v : Float) → lt v (of_int binary32 (pos 0)) ≡ true → encode_of v ≡ 0
encode_below v h = encode_not_above v (below_zero v h)

-- 1 by its pattern
one : of_int binary32 (pos 1) ≡ of_bits binary32 1065353216
unfolding of_int of_bits
one = refl

-- what is less is at most as much
at_most_lem : (x v : Float) → lt x v ≡ true → T (le x v)
unfolding le
at_most_lem x v h = rw h tt

-- "above 1 give 255"
pub encode_above : (v : Float) → lt (of_int binary32 (pos 1)) v ≡ true → encode_of v ≡ 255
unfolding threshold_of
encode_above v h = encode_is v 255 (le_refl 255) (λ (k : ℕ) (u : k < 255). met k u) (λ (k : ℕ) (g : 255 ≤ k) (u : k < 255). absurd (not-le_of_lt u g))
  where
    met : (k : ℕ) → k < 255 → le (threshold_of (suc k)) v ≡ true
    met k u =
        is_true (le (threshold_of (suc k)) v)
        (onward (threshold_of (suc k)) (of_bits binary32 1065353216) v (threshold_positive k u) (pattern_positive 1065353216 (omega arith) (omega arith))
        (pattern_le (threshold_pattern (suc k)) 1065353216 (threshold_to_one (suc k) u) (omega arith)) (at_most_lem (of_bits binary32 1065353216) v (rw one at h)))

-- plus infinity with them
pub encode_infinity : encode_of (inf false) ≡ 255
unfolding lt of_int
encode_infinity = encode_above (inf false) refl

-- ---- constant n of decoding is the f32 nearest the exact value, the root of the degree `degree n` of dividend n / divisor n
-- half way from it down to any smaller f32 lies below the exact value, with the units and the 2 multiplied out
pub decode_nearest_below : (n b : ℕ) → b < decode_pattern n → (worth b + worth (decode_pattern n)) ^ degree n * divisor n < 2 ^ degree n * (dividend n * 2 ^ (149 * degree n))
decode_nearest_below n b h = below (degree n) (dividend n) (divisor n) b h

-- half way up to the next f32 lies above the exact value
abbrev clear : ℕ → Bool
clear n = ltb (2 ^ degree n * (dividend n * 2 ^ (149 * degree n))) ((worth (decode_pattern n) + worth (suc (decode_pattern n))) ^ degree n * divisor n)

-- as computed at every code
all_clear : T (throughout clear 256)
unfolding least half_way worth
all_clear = tt

-- half way up to any larger f32 lies above the exact value
pub decode_nearest_above : (n : ℕ) → n < 256 → (b : ℕ) → decode_pattern n < b → 2 ^ degree n * (dividend n * 2 ^ (149 * degree n)) < (worth (decode_pattern n) + worth b) ^ degree n * divisor n
decode_nearest_above n u b h =
    let d = decode_pattern n in
    lt_of_lt_of_le
    (ltb→lt (2 ^ degree n * (dividend n * 2 ^ (149 * degree n))) ((worth d + worth (suc d)) ^ degree n * divisor n) (each clear 256 all_clear n u))
    (sums (degree n) (dividend n) (divisor n) {b = d} {d = suc d} {b' = d} {d' = b} (le_refl d) h)

-- ---- constant n of encoding is the least f32 that meets its rule
-- the last of the 2 ^ 31 numbers that are tried meets the rule
abbrev met_at_last : ℕ → Bool
met_at_last n = meets n 2147483647

-- as computed at every code
all_met : T (throughout met_at_last 256)
unfolding meets worth
all_met = tt

-- the constant meets its rule
pub threshold_meets : (n : ℕ) → n < 256 → meets n (threshold_pattern n) ≡ true
threshold_meets n h = least_holds (meets n) (meets_lasts n) 31 0 (is_true (meets n 2147483647) (each met_at_last 256 all_met n h))

-- and no smaller f32 does
pub threshold_least : (n b : ℕ) → b < threshold_pattern n → meets n b ≡ false
threshold_least n b h = least_first (meets n) (meets_lasts n) 31 0 (λ (i : ℕ) (l : i < 0). none i l) b h
  where
    none : (i : ℕ) → i < 0 → meets n i ≡ false
    none i l = absurd (not-suc-le-zero l)
