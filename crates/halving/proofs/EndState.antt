-- The end state of a halving. From a lo of 35 or more to a hi of at most 200, 30 halvings leave the two equal or neighbouring (`end_state`): after 26 there are less than
-- 6 of the least distances of neighbours between them, and 4 more close that. From any lo, 0 among them, 30 halvings leave at most 2 ^ -15 (`end_width`). Both are
-- instances of `after`. Assumes nothing.
use mathlib.Core.Path.{◌≡◌, refl, sym, ap, ◌∙◌, subst}
use mathlib.Core.Logic.{◌⊎◌, inl, inr}
use mathlib.Core.Bool.{Bool, true}
use Prim.Native.Nat.{ℕ, suc, ◌+◌, ◌-◌, ◌*◌, ◌/◌, ◌%◌, ◌^◌, ◌≤◌, ◌<◌}
use native.Mathlib.Nat.{le_trans, le_of_eq, le_refl, mul_assoc, suc-mul}
use native.Mathlib.Omega.{arith}
use lib.Dec.{T}
use lib.Pow.{pow-add, pow_pos}
use lib.Ieee.{Float, binary32, of_bits, to_bits, fits, le, of_int}
use borrow.Author.Tests.{leb-true, le-leb}
use Rattle.limits.specs.Taken.{f32_of, up_to}
use Rattle.halving.specs.Midpoint.{halved}
use Rattle.halving.specs.Patterns.{worth, next}
use Rattle.halving.specs.Ends.{Closed, Within}
use Rattle.limits.proofs.Numbers.{below_or_not, power}
use Rattle.halving.proofs.Patterns.{worth_small, worth_normal, worth_le}
use Rattle.halving.proofs.Halve.{joined}
use Rattle.halving.proofs.Width.{Gaps, After, after}
use Rattle.halving.proofs.Plain.{Plain, plain_is, le_plain, taken_plain, pattern_plain, bits_of}

-- ---- how far apart neighbours are
gap_normal : (b : ℕ) → 8388608 ≤ b → worth (suc b) ≡ worth b + 2 ^ (b / 8388608 - 1)
gap_normal b h =
    let t = b / 8388608 - 1 in
    let q = 8388608 + b % 8388608 in
    let e : b ≡ t * 8388608 + q = omega arith in
    let f : suc b ≡ t * 8388608 + suc q = omega arith in
    let x : worth b ≡ q * 2 ^ t = ap worth e ∙ worth_normal t q (omega arith) (omega arith) in
    let y : worth (suc b) ≡ suc q * 2 ^ t = ap worth f ∙ worth_normal t (suc q) (omega arith) (omega arith) in
    y ∙ suc-mul q (2 ^ t) ∙ ap (λ (z : ℕ). z + 2 ^ t) (sym x)

gap_small : (b : ℕ) → b < 8388608 → worth (suc b) ≡ worth b + 1
gap_small b h = elim (below_or_not (suc b) 8388608) [ inl k ↦ plain k | inr k ↦ last k ]
  where
    plain : suc b < 8388608 → worth (suc b) ≡ worth b + 1
    plain k = worth_small (suc b) k ∙ (let e : suc b ≡ b + 1 = omega arith in e) ∙ ap (λ (z : ℕ). z + 1) (sym (worth_small b h))

    last : 8388608 ≤ suc b → worth (suc b) ≡ worth b + 1
    last k =
        let e : suc b ≡ 0 * 8388608 + 8388608 = omega arith in
        let f : 8388608 * 1 ≡ b + 1 = omega arith in
        ap worth e ∙ worth_normal 0 8388608 (omega arith) (omega arith) ∙ f ∙ ap (λ (z : ℕ). z + 1) (sym (worth_small b h))

-- from 32 to 256
gaps_high : (p q : ℕ) → 1107296256 ≤ p → q ≤ 1132462080 → Gaps (2 ^ 131) (2 ^ 133) p q
gaps_high p q l u b x y =
    let e = gap_normal b (omega arith) in
    let a : 2 ^ 131 ≤ 2 ^ (b / 8388608 - 1) = power 131 (b / 8388608 - 1) (omega arith) in
    let c : 2 ^ (b / 8388608 - 1) ≤ 2 ^ 133 = power (b / 8388608 - 1) 133 (omega arith) in
    rw e (both (worth b) (2 ^ 131) (2 ^ (b / 8388608 - 1)) (2 ^ 133) a c)
  where
    both : (w g d e : ℕ) → g ≤ d → d ≤ e → (w + g ≤ w + d) × (w + d ≤ w + e)
    both w g d e h k = omega arith

-- from 0 to 256
gaps_all : (p q : ℕ) → q ≤ 1132462080 → Gaps 1 (2 ^ 133) p q
gaps_all p q u b x y = elim (below_or_not b 8388608) [ inl h ↦ small h | inr h ↦ normal h ]
  where
    both : (w d e : ℕ) → 1 ≤ d → d ≤ e → (w + 1 ≤ w + d) × (w + d ≤ w + e)
    both w d e h k = omega arith

    small : b < 8388608 → (worth b + 1 ≤ worth (suc b)) × (worth (suc b) ≤ worth b + 2 ^ 133)
    small h = rw (gap_small b h) (both (worth b) 1 (2 ^ 133) (le_refl 1) (pow_pos 133))

    normal : 8388608 ≤ b → (worth b + 1 ≤ worth (suc b)) × (worth (suc b) ≤ worth b + 2 ^ 133)
    normal h = rw (gap_normal b h) (both (worth b) (2 ^ (b / 8388608 - 1)) (2 ^ 133) (pow_pos (b / 8388608 - 1)) (power (b / 8388608 - 1) 133 (omega arith)))

-- ---- the patterns of 35 and 200
worth_35 : worth 1108082688 ≡ 9175040 * 2 ^ 131
worth_35 = worth_normal 131 9175040 (omega arith) (omega arith)

worth_200 : worth 1128792064 ≡ 52428800 * 2 ^ 131
worth_200 = worth_normal 133 13107200 (omega arith) (omega arith) ∙ ap (λ (z : ℕ). 13107200 * z) (pow-add 2 2 131) ∙ sym (mul_assoc 13107200 4 (2 ^ 131))

four : 2 ^ 133 ≡ 4 * 2 ^ 131
four = pow-add 2 2 131

-- where n halvings from p to q end
pub record Ended (ok : Float → Bool) (n p q : ℕ) : Type 0 where
  pub low : ℕ
  pub high : ℕ
  pub is : halved ok n (of_bits binary32 p) (of_bits binary32 q) ≡ (of_bits binary32 low, of_bits binary32 high)
  pub above : p ≤ low
  pub ordered : low ≤ high
  pub below : high ≤ q

module _ (ok : Float → Bool) (p q : ℕ) (o : p ≤ q) (u : q ≤ 1128792064) where
  -- ---- from 35
  pub closing : 1108082688 ≤ p → (e : Ended ok 30 p q) × (e.high ≤ suc e.low)
  closing l = (record { low = b.low; high = b.high; is = joins; above = le_trans a.above b.above; ordered = b.ordered; below = le_trans b.below a.below }, b.closed few)
    where
      a : After ok (2 ^ 131) (2 ^ 133) 26 p q
      a = after ok (2 ^ 131) (2 ^ 133) 26 p q o (omega arith) (gaps_high p q (omega arith) (omega arith))

      b : After ok (2 ^ 131) (2 ^ 133) 4 a.low a.high
      b =
          let x = a.above in
          let y = a.below in
          after ok (2 ^ 131) (2 ^ 133) 4 a.low a.high a.ordered (omega arith) (gaps_high a.low a.high (omega arith) (omega arith))

      joins : halved ok 30 (of_bits binary32 p) (of_bits binary32 q) ≡ (of_bits binary32 b.low, of_bits binary32 b.high)
      joins = joined ok 26 4 (of_bits binary32 p) (of_bits binary32 q) ∙ ap (λ (e : Float × Float). halved ok 4 e.0 e.1) a.is ∙ b.is

      between : (W p q u : ℕ) → W * 67108864 + 4 * u ≤ (q - p) + 67108864 * (4 * u) → 9175040 * u ≤ p → q ≤ 52428800 * u → 0 < u → W < 6 * u
      between W p q u h x y z = omega arith

      few : worth a.high - worth a.low < (4 + 2) * 2 ^ 131
      few =
          let h = subst (λ (e : ℕ). (worth a.high - worth a.low) * 2 ^ 26 + e ≤ (worth q - worth p) + 2 ^ 26 * e) four a.width in
          between (worth a.high - worth a.low) (worth p) (worth q) (2 ^ 131) h (le_trans (le_of_eq (sym worth_35)) (worth_le l)) (le_trans (worth_le u) (le_of_eq worth_200)) (pow_pos 131)

  -- ---- from anywhere
  pub narrowing : (e : Ended ok 30 p q) × (worth e.high ≤ worth e.low + 2 ^ 134)
  narrowing = (record { low = a.low; high = a.high; is = a.is; above = a.above; ordered = a.ordered; below = a.below }, near)
    where
      a : After ok 1 (2 ^ 133) 30 p q
      a = after ok 1 (2 ^ 133) 30 p q o (omega arith) (gaps_all p q (omega arith))

      between : (lo hi p q u : ℕ) → (hi - lo) * 1073741824 + 4 * u ≤ (q - p) + 1073741824 * (4 * u) → q ≤ 52428800 * u → hi ≤ lo + 8 * u
      between lo hi p q u h y = omega arith

      near : worth a.high ≤ worth a.low + 2 ^ 134
      near =
          let h = subst (λ (e : ℕ). (worth a.high - worth a.low) * 2 ^ 30 + e ≤ (worth q - worth p) + 2 ^ 30 * e) four a.width in
          subst (λ (z : ℕ). worth a.high ≤ worth a.low + z) (sym (pow-add 2 3 131)) (between (worth a.low) (worth a.high) (worth p) (worth q) (2 ^ 131) h (le_trans (worth_le u) (le_of_eq worth_200)))

-- ---- the same of f32
is_35 : f32_of 35 ≡ of_bits binary32 1108082688
unfolding of_int of_bits
is_35 = refl

-- an f32 of 35 or more, by its pattern
pub from_35 : (x : Float) → Plain x → le (f32_of 35) x ≡ true → 1108082688 ≤ to_bits binary32 x
from_35 x p l =
    let h : le (of_bits binary32 1108082688) x ≡ true = subst (λ (y : Float). le y x ≡ true) is_35 l in
    let z = le_plain (of_bits binary32 1108082688) x (pattern_plain 1108082688 (omega arith)) p in
    subst (λ (n : ℕ). n ≤ to_bits binary32 x) (bits_of 1108082688 (omega arith)) (leb-true (to_bits binary32 (of_bits binary32 1108082688)) (to_bits binary32 x) (sym z ∙ h))

module _ (ok : Float → Bool) (lo hi : Float) (F : T (fits binary32 lo)) (G : T (fits binary32 hi)) (L : up_to (f32_of 200) lo ≡ true) (H : up_to (f32_of 200) hi ≡ true) (o : le lo hi ≡ true) where
  abbrev p : ℕ
  p = to_bits binary32 lo

  abbrev q : ℕ
  q = to_bits binary32 hi

  ordered : p ≤ q
  ordered = leb-true p q (sym (le_plain lo hi (taken_plain lo F L).0 (taken_plain hi G H).0) ∙ o)

  patterns : halved ok 30 lo hi ≡ halved ok 30 (of_bits binary32 p) (of_bits binary32 q)
  patterns = ap (λ (x : Float). halved ok 30 x hi) (sym (plain_is lo (taken_plain lo F L).0)) ∙ ap (λ (x : Float). halved ok 30 (of_bits binary32 p) x) (sym (plain_is hi (taken_plain hi G H).0))

  pub end_state : le (f32_of 35) lo ≡ true → Closed (halved ok 30 lo hi)
  unfolding next
  end_state l = subst Closed (sym (patterns ∙ e.is)) (closed (below_or_not e.low e.high))
    where
      from : 1108082688 ≤ p
      from = from_35 lo (taken_plain lo F L).0 l

      c : (e : Ended ok 30 p q) × (e.high ≤ suc e.low)
      c = closing ok p q ordered (taken_plain hi G H).1 from

      e : Ended ok 30 p q
      e = c.0

      closed : (e.low < e.high) ⊎ (e.high ≤ e.low) → Closed (of_bits binary32 e.low, of_bits binary32 e.high)
      closed (inr h) = inl (ap (of_bits binary32) (let x = e.ordered in omega arith))
      closed (inl h) =
          let x = e.below in
          let y = (taken_plain hi G H).1 in
          let z : e.high ≡ suc e.low = let s = c.1 in omega arith in
          let b : to_bits binary32 (of_bits binary32 e.low) ≡ e.low = bits_of e.low (omega arith) in
          inr (ap (of_bits binary32) (z ∙ ap suc (sym b)))

  -- both ends are f32 from plus 0 to 200 still, and lo has not gone down
  ended : Ended ok 30 p q
  ended = (narrowing ok p q ordered (taken_plain hi G H).1).0

  low_end : to_bits binary32 (of_bits binary32 ended.low) ≡ ended.low
  low_end =
      let x = ended.below in
      let o' = ended.ordered in
      let y = (taken_plain hi G H).1 in
      bits_of ended.low (omega arith)

  pub end_plain : (Plain (halved ok 30 lo hi).0 × Plain (halved ok 30 lo hi).1) × (to_bits binary32 (halved ok 30 lo hi).0 ≤ 1128792064)
  end_plain = subst (λ (e : Float × Float). (Plain e.0 × Plain e.1) × (to_bits binary32 e.0 ≤ 1128792064)) (sym (patterns ∙ ended.is)) plain
    where
      plain : (Plain (of_bits binary32 ended.low) × Plain (of_bits binary32 ended.high)) × (to_bits binary32 (of_bits binary32 ended.low) ≤ 1128792064)
      plain =
          let x = ended.below in
          let o' = ended.ordered in
          let y = (taken_plain hi G H).1 in
          ((pattern_plain ended.low (omega arith), pattern_plain ended.high (omega arith)), subst (λ (z : ℕ). z ≤ 1128792064) (sym low_end) (omega arith))

  pub end_above : le lo (halved ok 30 lo hi).0 ≡ true
  end_above =
      le_plain lo (halved ok 30 lo hi).0 (taken_plain lo F L).0 end_plain.0.0
      ∙ le-leb p (to_bits binary32 (halved ok 30 lo hi).0) (subst (λ (e : Float × Float). p ≤ to_bits binary32 e.0) (sym (patterns ∙ ended.is)) (subst (λ (z : ℕ). p ≤ z) (sym low_end) ended.above))

  pub end_width : Within (2 ^ 134) (halved ok 30 lo hi)
  end_width = subst (Within (2 ^ 134)) (sym (patterns ∙ e.is)) near
    where
      c : (e : Ended ok 30 p q) × (worth e.high ≤ worth e.low + 2 ^ 134)
      c = narrowing ok p q ordered (taken_plain hi G H).1

      e : Ended ok 30 p q
      e = c.0

      near : Within (2 ^ 134) (of_bits binary32 e.low, of_bits binary32 e.high)
      near =
          let x = e.below in
          let o' = e.ordered in
          let y = (taken_plain hi G H).1 in
          rw (bits_of e.low (omega arith), bits_of e.high (omega arith)) c.1
