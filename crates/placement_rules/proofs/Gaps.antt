-- Req 07: the smallest gap round the ring. Of indices below the length it is from 1 to the length (`tightest_within`), and of one index it is the length
-- (`tightest_one`). Of what is placed it says how far apart the k are, and with k of 2 or more no number above it does (`least`), and so it does of the first k hues
-- that a call hands out (`called_least`). Assumes nothing.
use mathlib.Core.Path.{◌≡◌, refl, sym, ap, ◌∙◌, subst}
use mathlib.Core.Logic.{◌⊎◌, inl, inr}
use mathlib.Core.Bool.{Bool, true}
use mathlib.Core.List.{List, [], ◌∷◌, map}
use Prim.Native.Nat.{ℕ, suc, ◌+◌, ◌-◌, ◌*◌, ◌%◌, ◌≤◌, ◌<◌}
use native.Mathlib.Nat.{le_refl, add-mod_right, le-div_iff_mul-le}
use native.Mathlib.Omega.{arith}
use lib.Dec.{leb}
use lib.Ieee.{Float}
use lib.ListN.{length, get_or, take, replicate}
use borrow.Author.Tests.{leb-true, lt-ltb, le-ltb}
use Rattle.limits.specs.Answers.{Said, value}
use Rattle.limits.proofs.HueCount.{both, hue_count}
use Rattle.limits.proofs.Checks.{all_pass}
use Rattle.placement_rules.specs.Ring.{Places, nowhere, placed, placement}
use Rattle.placement_rules.specs.Spacing.{Apart, Spaced}
use Rattle.placement_rules.specs.Gaps.{around, tightest_from, tightest, Least}
use Rattle.placement_rules.specs.Placing.{allowed_at, stores, sixteen, checked, placement_says, tightest_beside}
use Rattle.limits.proofs.Numbers.{below_or_not}
use Rattle.placement_rules.proofs.Chain.{Chain, closes}
use Rattle.placement_rules.proofs.Sorted.{All, Pairs, all_of, pairs_of}
use Rattle.placement_rules.proofs.Laws.{reduce, apart_sym, spaced, went, sound}
use Rattle.placement_rules.proofs.Checking.{row_checks}
use Rattle.placement_rules.proofs.Stored.{first_of}
use Rattle.placement_rules.proofs.Allowed.{round}

-- ---- how far one index lies on from another: before the ring's end, and past it
pub onward_by : (n i j : ℕ) → i < j → around n i j ≡ j - i
unfolding around
onward_by n i j l = rw (lt-ltb i j l)

pub round_by : (n i j : ℕ) → j ≤ i → around n i j ≡ n + j - i
unfolding around
round_by n i j l = rw (le-ltb i j l)

around_within : (n i j : ℕ) → i < n → j < n → (1 ≤ around n i j) × (around n i j ≤ n)
around_within n i j a b = elim (below_or_not i j) [ inl l ↦ omega (arith, onward_by n i j l) | inr l ↦ omega (arith, round_by n i j l) ]

around_apart : (n step i j : ℕ) → Apart n step i j → step ≤ around n i j
around_apart n step i j h = elim (below_or_not i j) [ inl l ↦ omega (arith, onward_by n i j l) | inr l ↦ omega (arith, round_by n i j l) ]

around_reduced : (n a b : ℕ) → a < b → b ≤ a + n → b < n + n → around n (a % n) (b % n) ≡ b - a
around_reduced n a b l u t = go (reduce n a (omega arith)) (reduce n b t)
  where
    go : ((a < n) × (a % n ≡ a)) ⊎ ((n ≤ a) × (a % n ≡ a - n)) → ((b < n) × (b % n ≡ b)) ⊎ ((n ≤ b) × (b % n ≡ b - n)) → around n (a % n) (b % n) ≡ b - a
    go (inl p) (inl q) = rw (p.1, q.1) (onward_by n a b l)
    go (inl p) (inr q) = let h = q.0 in rw (p.1, q.1) (omega (arith, round_by n a (b - n) (omega arith)))
    go (inr p) (inl q) = let h = p.0 in let k = q.0 in omega arith
    go (inr p) (inr q) = let h = p.0 in let k = q.0 in rw (p.1, q.1) (omega (arith, onward_by n (a - n) (b - n) (omega arith)))

-- ---- of any indices
pub tightest_within : (n : ℕ) (is : List ℕ) → 1 ≤ length is → ((p : ℕ) → p < length is → get_or is p 0 < n) → (1 ≤ tightest n is) × (tightest n is ≤ n)
unfolding tightest tightest_from
tightest_within n [] some h = omega arith
tightest_within n (i ∷ is) some h = let a = all_of (λ j. j < n) (i ∷ is) h in go i is a.0 a.1
  where
    go : (cur : ℕ) (is : List ℕ) → cur < n → All (λ j. j < n) is → (1 ≤ tightest_from n i cur is) × (tightest_from n i cur is ≤ n)
    go cur [] c a = around_within n cur i c (h 0 (omega arith))
    go cur (j ∷ is) c a = let x = around_within n cur j c a.0 in let y = go j is a.0 a.1 in omega arith

pub tightest_one : (n i : ℕ) → tightest n (i ∷ []) ≡ n
unfolding tightest tightest_from
tightest_one n i = omega (arith, round_by n i i (le_refl i))

alone : (n : ℕ) (is : List ℕ) → length is ≡ 1 → tightest n is ≡ n
alone n [] e = omega arith
alone n (i ∷ []) e = tightest_one n i
alone n (i ∷ j ∷ is) e = omega arith

-- indices any two of which are step apart, two of them or more, have no gap below step
wide : (n step : ℕ) (is : List ℕ) → 2 ≤ length is → Pairs (Apart n step) is → step ≤ tightest n is
unfolding tightest tightest_from
wide n step [] two a = omega arith
wide n step (i ∷ []) two a = omega arith
wide n step (i ∷ j ∷ is) two a = let x = around_apart n step i j a.0.0 in let y = go j is a.0.0 a.0.1 a.1 in omega arith
  where
    go : (cur : ℕ) (is : List ℕ) → Apart n step i cur → All (Apart n step i) is → Pairs (Apart n step) (cur ∷ is) → step ≤ tightest_from n i cur is
    go cur [] c f a = around_apart n step cur i (apart_sym n step i cur c)
    go cur (j ∷ is) c f a = let x = around_apart n step cur j a.0.0 in let y = go j is f.0 f.1 a.1 in omega arith

spaced_wide : (ok : ℕ → Bool) (n k step : ℕ) (is : List ℕ) → 2 ≤ k → Spaced ok n k step is → step ≤ tightest n is
spaced_wide ok n k step is two s =
    let c = s.count in
    wide n step is (omega arith) (pairs_of (Apart n step) is (λ (p q : ℕ) (l : p < q) (h : q < length is). s.apart p q (omega arith) (omega arith) (λ (e : p ≡ q). omega arith)))

-- ---- of a chain
-- a step for each of its indices fits in before the stop
fits : (ok : ℕ → Bool) (step stop cur : ℕ) (is : List ℕ) → Chain ok step stop cur is → cur + suc (length is) * step ≤ stop
fits ok step stop cur [] c = omega arith
fits ok step stop cur (j ∷ is) c = let a = c.0 in let r = fits ok step stop j is c.1.1 in omega arith

-- a chain round the ring from t is one for every step up to its smallest gap
module _ (ok : ℕ → Bool) (n step : ℕ) (some_step : 1 ≤ step) (t : ℕ) (below : t < n) (wider : ℕ) where
  widened : (cur : ℕ) (is : List ℕ) → t ≤ cur → Chain ok step (t + n) cur is → wider ≤ tightest_from n (t % n) (cur % n) (map (λ i. i % n) is) → Chain ok wider (t + n) cur is
  unfolding tightest_from
  widened cur [] l c h =
      let e : around n (cur % n) (t % n) ≡ t + n - cur = ap (around n (cur % n)) (sym (add-mod_right t n)) ∙ around_reduced n cur (t + n) (omega arith) (omega arith) (omega arith) in
      omega arith
  widened cur (j ∷ is) l c h =
      let a = c.0 in
      let z = closes ok step (t + n) j is c.1.1 in
      let e = around_reduced n cur j (omega arith) (omega arith) (omega arith) in
      (omega arith, (c.1.0, widened j is (omega arith) c.1.1 (omega arith)))

-- ---- of what is placed
module _ (ok : ℕ → Bool) (n k step : ℕ) (round : (i : ℕ) → ok (i % n) ≡ ok i) (some_hue : 1 ≤ k) (some_step : 1 ≤ step) (within : step ≤ n) where
  pub least : (js : List ℕ) → placement ok n k step ≡ placed js → Least ok n k step (tightest n js) js
  unfolding tightest
  least js e =
      let w = went ok n k step round some_hue some_step within js e in
      let s = sound ok n k step round some_hue some_step within js e in
      let t = w.start in
      let gap = tightest n js in
      let one : k ≡ 1 → gap ≡ n = λ (q : k ≡ 1). alone n js (s.count ∙ q) in
      let from : step ≤ gap = elim (below_or_not 1 k) [ inl two ↦ spaced_wide ok n k step js two s | inr few ↦ omega (arith, one (omega arith)) ] in
      let same : tightest n (map (λ i. i % n) (t ∷ w.rest)) ≡ gap = ap (tightest n) w.are in
      let chain : Chain ok gap (t + n) t w.rest = widened ok n step some_step t w.below gap t w.rest (le_refl t) w.chain (omega arith) in
      let share : t + suc (length w.rest) * gap ≤ t + n = fits ok gap (t + n) t w.rest chain in
      let times : suc (length w.rest) * gap ≡ k * gap = ap (λ (x : ℕ). x * gap) w.count in
      record {
        spaced = subst (Spaced ok n k gap) w.are (spaced ok n k gap round some_hue (omega arith) (omega (arith, closes ok gap (t + n) t w.rest chain)) t w.below w.rest w.allowed w.count chain);
        no_further = λ (two : 2 ≤ k) (f : Spaced ok n k (suc gap) js). omega (arith, spaced_wide ok n k (suc gap) js two f);
        from_step = from;
        in_share = (le-div_iff_mul-le some_hue).1 (omega arith);
        alone = one;
      }

-- it is about how far apart the indices lie, and not about which are allowed
pub least_anywhere : (ok : ℕ → Bool) (n k step t : ℕ) (is : List ℕ) → Least ok n k step t is → Least (λ i. true) n k step t is
least_anywhere ok n k step t is l = record {
  spaced = record { count = l.spaced.count; within = l.spaced.within; allowed = λ (p : ℕ) (h : p < k). refl; apart = l.spaced.apart };
  no_further = λ (two : 2 ≤ k) (f : Spaced (λ i. true) n k (suc t) is). l.no_further two (record { count = f.count; within = f.within; allowed = l.spaced.allowed; apart = f.apart });
  from_step = l.from_step;
  in_share = l.in_share;
  alone = l.alone;
}

-- ---- of what a call hands out
module _ (k step : ℕ) (c : Float) (row : List Float) (room : ℕ) (hues : List ℕ) where
  pub called_least : placement_says k step c row room ≡ value (placed hues) → Least (allowed_at row c) (length row) k step (tightest_beside (length row) k (placement_says k step c row room)) (take k hues)
  unfolding placement_says checked
  called_least h =
      let t = all_pass (row_checks k step c row room) (value (sixteen (placement (allowed_at row c) (length row) k step))) (placed hues) h in
      let a = hue_count k t.0.0 in
      let s = both (leb 1 step) (leb step (length row)) t.0.1.1.1.0 in
      subst (λ (x : Said Places). Least (allowed_at row c) (length row) k step (tightest_beside (length row) k x) (take k hues)) (sym h)
      (go a.0 a.1 (leb-true 1 step s.0) (leb-true step (length row) s.1) (placement (allowed_at row c) (length row) k step) refl t.1)
    where
      go : 1 ≤ k → k ≤ 16 → 1 ≤ step → step ≤ length row → (p : Places) → placement (allowed_at row c) (length row) k step ≡ p → ◌≡◌ {A = Said Places} (value (sixteen p)) (value (placed hues))
          → Least (allowed_at row c) (length row) k step (tightest (length row) (take k hues)) (take k hues)
      go some few from within nowhere e q = absurd (let z : ◌≡◌ {A = ℕ} 0 1 = cc in omega arith)
      go some few from within (placed js) e q =
          let l = least (allowed_at row c) (length row) k step (round row c) some from within js e in
          let first : take k hues ≡ js = first_of k js hues (let f : stores (replicate 16 0) 0 js ≡ hues = cc in f) l.spaced.count few in
          subst (λ (is : List ℕ). Least (allowed_at row c) (length row) k step (tightest (length row) is) is) (sym first) l
