-- How many constants are ≤ v: m, where the first m are and no other is; and the constants' order says where those are. Assumes nothing.
use mathlib.Core.Path.{◌≡◌}
use mathlib.Core.Logic.{inl, inr}
use mathlib.Core.Bool.{true, false}
use Prim.Native.Nat.{ℕ, zero, suc, ◌≤◌, ◌<◌}
use native.Mathlib.Nat.{le_refl, not-le_of_lt}
use native.Mathlib.Omega.{arith}
use lib.Dec.{T}
use lib.Ieee.{Float, le}
use lib.Ieee.Bits.{is_true}
use lib.Ieee.Positive.{positive}
use Rattle.limits.proofs.Numbers.{below_or_not}
use Rattle.transfer.specs.Transfer.{threshold_of, count_to, encode_of}
use Rattle.transfer.proofs.Rules.{threshold_pattern}
use Rattle.halving.proofs.Order.{holds_true, pattern_positive, pattern_le, onward}
use Rattle.transfer.proofs.Steps.{threshold_le, threshold_above_zero, threshold_to_one}

-- the constants are above zero
pub threshold_positive : (k : ℕ) → k < 255 → T (positive (threshold_of (suc k)))
unfolding threshold_of
threshold_positive k h = pattern_positive (threshold_pattern (suc k)) (threshold_above_zero (suc k) (omega arith) h) (let t = threshold_to_one (suc k) h in omega arith)

module _ (v : Float) where
  -- with a constant every lower one is ≤ v
  pub lower : (j k : ℕ) → j ≤ k → k < 255 → le (threshold_of (suc k)) v ≡ true → le (threshold_of (suc j)) v ≡ true
  unfolding threshold_of
  lower j k h u t =
      let o : threshold_pattern (suc k) ≤ 1065353216 = threshold_to_one (suc k) u in
      is_true (le (threshold_of (suc j)) v)
      (onward (threshold_of (suc j)) (threshold_of (suc k)) v (threshold_positive j (omega arith)) (threshold_positive k u)
      (pattern_le (threshold_pattern (suc j)) (threshold_pattern (suc k)) (threshold_le (suc j) (suc k) (omega arith) u) (omega arith)) (holds_true t))

  -- the count is m, where the first m constants are ≤ v and the others are not
  pub count_is : (m n : ℕ) → m ≤ n → ((k : ℕ) → k < m → le (threshold_of (suc k)) v ≡ true) → ((k : ℕ) → m ≤ k → k < n → le (threshold_of (suc k)) v ≡ false) → count_to n v ≡ m
  unfolding count_to
  count_is m zero h t f = omega arith
  count_is m (suc n) h t f = elim (below_or_not n m) [
    | inl l ↦
        let r : count_to n v ≡ n = count_is n n (le_refl n) (λ (k : ℕ) (i : k < n). t k (omega arith)) (λ (k : ℕ) (i : n ≤ k) (j : k < n). absurd (not-le_of_lt j i)) in
        rw (t n l) (omega arith)
    | inr g ↦
        let r : count_to n v ≡ m = count_is m n g t (λ (k : ℕ) (i : m ≤ k) (j : k < n). f k i (omega arith)) in
        rw (f n g (le_refl (suc n))) (omega arith)
  ]

  -- and so is the code
  pub encode_is : (m : ℕ) → m ≤ 255 → ((k : ℕ) → k < m → le (threshold_of (suc k)) v ≡ true) → ((k : ℕ) → m ≤ k → k < 255 → le (threshold_of (suc k)) v ≡ false) → encode_of v ≡ m
  unfolding encode_of
  encode_is m h t f = count_is m 255 h t f
