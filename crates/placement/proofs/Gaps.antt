-- The smallest gap of the first k hues, taken from the last of them on: at the last, one before, and at the first; and that hues which were reduced are below the length.
-- Assumes nothing.
use mathlib.Core.Path.{◌≡◌, refl, sym, ap, ◌∙◌}
use mathlib.Core.List.{List, [], ◌∷◌, map}
use Prim.Native.Nat.{ℕ, zero, suc, ◌%◌, ◌≤◌, ◌<◌, min}
use native.Mathlib.Nat.{le_of_suc-le-suc, not-suc-le-zero, mod-lt}
use native.Mathlib.Omega.{arith}
use lib.ListN.{length, get_or, set, take, drop, replicate, drop_of_length-le}
use lib.Seq.{length-take-le}
use Rattle.limits.specs.Each.{Each}
use Rattle.limits.proofs.Lists.{each_same}
use Rattle.placement_rules.specs.Ring.{Places, nowhere, placed, reduced}
use Rattle.placement_rules.specs.Gaps.{around, tightest_from, tightest}
use Rattle.placement_rules.specs.Placing.{stores, sixteen}

-- of the first k of a list, from a place on
taken_from_lem : (xs : List ℕ) (j k : ℕ) → j < k → k ≤ length xs → drop j (take k xs) ≡ get_or xs j 0 ∷ drop (suc j) (take k xs)
taken_from_lem [] j k l h = absurd (let n : k ≤ 0 = h in omega arith)
taken_from_lem (x ∷ xs) j zero l h = absurd (not-suc-le-zero l)
taken_from_lem (x ∷ xs) zero (suc k) l h = refl
taken_from_lem (x ∷ xs) (suc j) (suc k) l h = taken_from_lem xs j k (le_of_suc-le-suc l) (le_of_suc-le-suc h)

-- the smallest gap from the hue at a place on
abbrev pub from : ℕ → ℕ → List ℕ → ℕ → ℕ
from n k hues at = tightest_from n (get_or hues 0 0) (get_or hues at 0) (drop (suc at) (take k hues))

module _ (n k : ℕ) (hues : List ℕ) (few : k ≤ length hues) where
  -- at the last hue it is the gap back to the first
  pub begins : (at : ℕ) → k ≤ suc at → (least : ℕ) → least ≡ around n (get_or hues at 0) (get_or hues 0 0) → least ≡ from n k hues at
  unfolding tightest_from
  begins at h least e =
      let long : length (take k hues) ≤ suc at = let l = length-take-le k hues few in omega arith in
      e ∙ sym (ap (tightest_from n (get_or hues 0 0) (get_or hues at 0)) (drop_of_length-le (take k hues) long))

  -- and at the one before it the smaller of its own and that
  pub goes_on : (at : ℕ) → suc at < k → (least far so : ℕ) → least ≡ min far so → far ≡ around n (get_or hues at 0) (get_or hues (suc at) 0) → so ≡ from n k hues (suc at) → least ≡ from n k hues at
  unfolding tightest_from
  goes_on at h least far so e f g = e ∙ rw (f, g) (sym (ap (tightest_from n (get_or hues 0 0) (get_or hues at 0)) (taken_from_lem hues (suc at) k h few)))

  -- at the first it is that of all
  pub at_first : 1 ≤ k → from n k hues 0 ≡ tightest n (take k hues)
  unfolding tightest
  at_first h = sym (ap (tightest n) (taken_from_lem hues 0 k h few))

-- ---- hues that were reduced
set_each : (P : ℕ → Type 0) (xs : List ℕ) (t i : ℕ) → P i → Each P xs → Each P (set xs t i)
set_each P [] t i p e = tt
set_each P (x ∷ xs) zero i p e = (p, e.1)
set_each P (x ∷ xs) (suc t) i p e = (e.0, set_each P xs t i p e.1)

stored_below : (n : ℕ) → 1 ≤ n → (hues : List ℕ) (t : ℕ) (is : List ℕ) → Each (λ h. h < n) hues → Each (λ h. h < n) (stores hues t (map (λ i. i % n) is))
unfolding stores
stored_below n h hues t [] e = e
stored_below n h hues t (i ∷ is) e = stored_below n h (set hues t (i % n)) (suc t) is (set_each (λ x. x < n) hues t (i % n) (mod-lt i h) e)

each_at : (n : ℕ) → 1 ≤ n → (xs : List ℕ) → Each (λ h. h < n) xs → (p : ℕ) → get_or xs p 0 < n
each_at n h [] e p = h
each_at n h (x ∷ xs) e zero = e.0
each_at n h (x ∷ xs) e (suc p) = each_at n h xs e.1 p

pub all_below : (n : ℕ) → 1 ≤ n → (p : Places) (hues : List ℕ) → sixteen (reduced n p) ≡ placed hues → (at : ℕ) → get_or hues at 0 < n
all_below n h nowhere hues e at = absurd (let z : ◌≡◌ {A = ℕ} 0 1 = cc in omega arith)
all_below n h (placed is) hues e at =
    let same : stores (replicate 16 0) 0 (map (λ i. i % n) is) ≡ hues = cc in
    each_at n h hues (rw same at (stored_below n h (replicate 16 0) 0 is (each_same (λ x. x < n) 16 0 h))) at
