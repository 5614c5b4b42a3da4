-- The two rules of the constants, each as one test over every code that lasts from its constant on: half way up for decoding, `meets` for encoding. Assumes nothing.
use mathlib.Core.Path.{◌≡◌, refl}
use mathlib.Core.Bool.{Bool, true, false, cond}
use Prim.Native.Nat.{ℕ, ◌+◌, ◌-◌, ◌*◌, ◌^◌}
use native.Mathlib.Nat.{le_trans, mul-le-mul_left, mul-le-mul_right, pow-le-pow_left}
use lib.Dec.{leb}
use lib.Ieee.{binary32, of_bits}
use borrow.Author.Tests.{leb-true, le-leb}
use Rattle.halving.specs.Patterns.{worth, least, half_way, nearest_root}
use Rattle.halving.proofs.Least.{Lasting}
use Rattle.halving.proofs.Patterns.{worth_le}
use Rattle.halving.proofs.Nearest.{half_way_lasts}
use Rattle.transfer.specs.Transfer.{decode_of, meets, threshold_of}

-- decoding: constant n is nearest the root of this degree of dividend n / divisor n
abbrev pub degree : ℕ → ℕ
degree n = cond (leb n 10) 1 5

-- what is divided
abbrev pub dividend : ℕ → ℕ
dividend n = cond (leb n 10) (5 * n) ((200 * n + 2805) ^ 12)

-- what it is divided by
abbrev pub divisor : ℕ → ℕ
divisor n = cond (leb n 10) 16473 (53805 ^ 12)

-- the exact value of constant n is at most half way from the f32 with the pattern b to the next
abbrev pub reaches : ℕ → ℕ → Bool
reaches n = half_way (degree n) (dividend n) (divisor n)

-- the pattern of constant n of decoding
abbrev pub decode_pattern : ℕ → ℕ
decode_pattern n = least (reaches n) 31 0

-- the pattern of constant n of encoding
abbrev pub threshold_pattern : ℕ → ℕ
threshold_pattern n = least (meets n) 31 0

-- both branches of the definition are the f32 with that pattern
pub decode_is : (n : ℕ) → decode_of n ≡ of_bits binary32 (decode_pattern n)
unfolding decode_of nearest_root
decode_is n = go (leb n 10)
  where
    go : (t : Bool) → cond t (of_bits binary32 (least (half_way 1 (5 * n) 16473) 31 0)) (of_bits binary32 (least (half_way 5 ((200 * n + 2805) ^ 12) (53805 ^ 12)) 31 0))
        ≡ of_bits binary32 (least (half_way (cond t 1 5) (cond t (5 * n) ((200 * n + 2805) ^ 12)) (cond t 16473 (53805 ^ 12))) 31 0)
    go true = refl
    go false = refl

-- and so for encoding
pub threshold_is : (n : ℕ) → threshold_of n ≡ of_bits binary32 (threshold_pattern n)
unfolding threshold_of
threshold_is n = refl

-- half way up from a larger f32 is further up
pub reaches_lasts : (n : ℕ) → Lasting (reaches n)
reaches_lasts n = half_way_lasts (degree n) (dividend n) (divisor n)

-- where an f32 meets the rule, every larger one does
pub meets_lasts : (n : ℕ) → Lasting (meets n)
unfolding meets
meets_lasts n i j h = go (leb n 10)
  where
    go : (t : Bool) → cond t (leb (5 * (2 * n - 1) * 2 ^ 149) (2 * 16473 * worth i)) (leb ((200 * n + 2705) ^ 12 * 2 ^ 745) (worth i ^ 5 * 53805 ^ 12)) ≡ true
        → cond t (leb (5 * (2 * n - 1) * 2 ^ 149) (2 * 16473 * worth j)) (leb ((200 * n + 2705) ^ 12 * 2 ^ 745) (worth j ^ 5 * 53805 ^ 12)) ≡ true
    go true t = le-leb _ _ (le_trans (leb-true _ _ t) (mul-le-mul_left (2 * 16473) (worth_le h)))
    go false t = le-leb _ _ (le_trans (leb-true _ _ t) (mul-le-mul_right (53805 ^ 12) (pow-le-pow_left (worth_le h) 5)))
