-- What placement means, over every ring length n, k and step that are taken: what is placed goes round the ring in a chain from a start on it (`went`), and is k allowed
-- indices any two of which are at least the step apart both ways round (`sound`); where any k allowed indices are that far apart, in whatever order they are listed, it
-- does not say none (`complete`); and a start from which k - 1 steps reach past the end of the ring need not be tried (`few_starts`). Assumes nothing.
use mathlib.Core.Path.{◌≡◌, refl, sym, ap, ◌∙◌, subst}
use mathlib.Core.Logic.{◌⊎◌, inl, inr}
use mathlib.Core.Bool.{Bool, true, false, cond}
use mathlib.Core.List.{List, [], ◌∷◌, map}
use Prim.Native.Nat.{ℕ, zero, suc, ◌+◌, ◌-◌, ◌*◌, ◌%◌, ◌≤◌, ◌<◌}
use native.Mathlib.Nat.{le_refl, le_of_suc-le-suc, not-suc-le-zero, mod-lt, mod-eq_of_lt, mod-eq-sub-mod, add_comm, suc-mul, zero-mul}
use native.Mathlib.Omega.{arith}
use lib.ListN.{length, get_or}
use Rattle.limits.proofs.Floats.{never}
use Rattle.placement_rules.specs.Ring.{Places, nowhere, placed, before, or_else, onward, from_start, first_from, reduced, placement}
use Rattle.placement_rules.specs.Spacing.{Apart, Spaced}
use Rattle.limits.proofs.Numbers.{below_or_not}
use Rattle.placement_rules.proofs.Chain.{Some, Chain, closes, later, pairs, Taken, taken, succeeds}
use Rattle.placement_rules.proofs.Sorted.{All, Pairs, all_of, pairs_of, sorted, sorted_long, sorted_all, Ordered, sorted_pairs, all_map}

-- ---- an index reduced by the length
pub reduce : (n x : ℕ) → x < n + n → ((x < n) × (x % n ≡ x)) ⊎ ((n ≤ x) × (x % n ≡ x - n))
reduce n x u = elim (below_or_not x n) [
  | inl h ↦ inl (h, mod-eq_of_lt h)
  | inr h ↦ inr (h, mod-eq-sub-mod h ∙ mod-eq_of_lt (omega arith))
]

apart_reduced : (n step a b : ℕ) → 1 ≤ step → a + step ≤ b → b + step ≤ a + n → b < n + n → Apart n step (a % n) (b % n)
apart_reduced n step a b s l u t = go (reduce n a (omega arith)) (reduce n b t)
  where
    go : ((a < n) × (a % n ≡ a)) ⊎ ((n ≤ a) × (a % n ≡ a - n)) → ((b < n) × (b % n ≡ b)) ⊎ ((n ≤ b) × (b % n ≡ b - n)) → Apart n step (a % n) (b % n)
    go (inl p) (inl q) = rw (p.1, q.1) (omega arith)
    go (inl p) (inr q) = let h = q.0 in rw (p.1, q.1) (omega arith)
    go (inr p) (inl q) = let h = p.0 in let k = q.0 in rw (p.1, q.1) (omega arith)
    go (inr p) (inr q) = let h = p.0 in let k = q.0 in rw (p.1, q.1) (omega arith)

pub apart_sym : (n step i j : ℕ) → Apart n step i j → Apart n step j i
apart_sym n step i j h = let e : (j - i) + (i - j) ≡ (i - j) + (j - i) = add_comm (j - i) (i - j) in rw e h

map_long : (f : ℕ → ℕ) (is : List ℕ) → length (map f is) ≡ length is
map_long f [] = refl
map_long f (i ∷ is) = ap suc (map_long f is)

map_at : (f : ℕ → ℕ) (is : List ℕ) (p : ℕ) → p < length is → get_or (map f is) p 0 ≡ f (get_or is p 0)
map_at f [] p h = absurd (not-suc-le-zero h)
map_at f (i ∷ is) zero h = refl
map_at f (i ∷ is) (suc p) h = map_at f is p (le_of_suc-le-suc h)

-- ---- the first start that succeeds
module _ (try : ℕ → Places) where
  -- what was found is what one of the starts gave
  abbrev Found : ℕ → ℕ → Places → Type 0
  Found m s nowhere = Unit
  Found m s (placed is) = (t : ℕ) × ((s ≤ t) × ((t < s + m) × (try t ≡ placed is)))

  found : (m s : ℕ) → Found m s (first_from try m s)
  unfolding first_from
  found zero s = tt
  found (suc m) s = go (try s) refl (first_from try m (suc s)) (found m (suc s))
    where
      more : (later : Places) → Found m (suc s) later → Found (suc m) s later
      more nowhere f = tt
      more (placed is) f = let l = f.1.0 in let u = f.1.1.0 in (f.0, (omega arith, (omega arith, f.1.1.1)))

      go : (now : Places) → try s ≡ now → (later : Places) → Found m (suc s) later → Found (suc m) s (or_else now later)
      go nowhere e later f = more later f
      go (placed is) e later f = (s, (le_refl s, (omega arith, e)))

  some_else : (a b : Places) → Some b → Some (or_else a b)
  some_else nowhere b h = h
  some_else (placed is) b h = tt

  -- a start that succeeds is found, or one before it
  pub some_start : (m s t : ℕ) → s ≤ t → t < s + m → Some (try t) → Some (first_from try m s)
  unfolding first_from
  some_start zero s t l u h = absurd (clash s t l u)
    where
      clash : (s t : ℕ) → s ≤ t → t < s + 0 → ⊥
      clash s t l u = omega arith
  some_start (suc m) s t l u h = elim (below_or_not s t) [
    | inl k ↦ some_else (try s) (first_from try m (suc s)) (some_start m (suc s) t k (omega arith) h)
    | inr k ↦ at_once (try s) (first_from try m (suc s)) (subst (λ (x : ℕ). Some (try x)) (same s t l k) h)
  ]
    where
      same : (s t : ℕ) → s ≤ t → t ≤ s → t ≡ s
      same s t l k = omega arith

      at_once : (a b : Places) → Some a → Some (or_else a b)
      at_once nowhere b h = absurd h
      at_once (placed is) b h = tt

  -- more starts change nothing where one of the fewer succeeds
  pub more_starts : (m d s : ℕ) → Some (first_from try m s) → first_from try (m + d) s ≡ first_from try m s
  unfolding first_from
  more_starts zero d s h = absurd h
  more_starts (suc m) d s h =
      let e : suc m + d ≡ suc (m + d) = omega arith in
      rw e (go (try s) (first_from try m (suc s)) (λ (k : Some (first_from try m (suc s))). more_starts m d (suc s) k) h)
    where
      go : (now later : Places) → (Some later → first_from try (m + d) (suc s) ≡ later) → Some (or_else now later) → or_else now (first_from try (m + d) (suc s)) ≡ or_else now later
      go nowhere later f h = f h
      go (placed is) later f h = refl

-- indices that go round a ring of n in a chain from a start on it, reduced
pub record Went (ok : ℕ → Bool) (n k step : ℕ) (js : List ℕ) : Type 0 where
  pub start : ℕ
  pub below : start < n
  pub rest : List ℕ
  pub allowed : ok start ≡ true
  pub count : suc (length rest) ≡ k
  pub chain : Chain ok step (start + n) start rest
  pub are : map (λ i. i % n) (start ∷ rest) ≡ js

module _ (ok : ℕ → Bool) (n k step : ℕ) (round : (i : ℕ) → ok (i % n) ≡ ok i) (some_hue : 1 ≤ k) (some_step : 1 ≤ step) (within : step ≤ n) where
  abbrev try : ℕ → Places
  try = from_start ok n k step

  -- ---- from one start
  abbrev From : ℕ → Places → Type 0
  From s nowhere = Unit
  From s (placed []) = ⊥
  From s (placed (t ∷ is)) = (t ≡ s) × ((ok s ≡ true) × ((suc (length is) ≡ k) × Chain ok step (s + n) s is))

  from_start_lem : (s : ℕ) → From s (try s)
  unfolding from_start
  from_start_lem s = go (ok s) refl (onward ok step (s + n) (k - 1) s) (taken ok step (s + n) some_step (k - 1) s)
    where
      go : (b : Bool) → ok s ≡ b → (rest : Places) → Taken ok step (s + n) (k - 1) s rest → From s (cond b (before s rest) nowhere)
      go false e rest t = tt
      go true e nowhere t = tt
      go true e (placed is) t = (refl, (e, (let h = t.0 in omega arith, t.1)))

  -- ---- sound
  module _ (t : ℕ) (below : t < n) (is : List ℕ) (start : ok t ≡ true) (count : suc (length is) ≡ k) (chain : Chain ok step (t + n) t is) where
    abbrev at : ℕ → ℕ
    at p = get_or (t ∷ is) p 0

    each : (p : ℕ) → p < k → (t ≤ at p) × ((at p + step ≤ t + n) × (ok (at p) ≡ true))
    each zero h = (le_refl t, (closes ok step (t + n) t is chain, start))
    each (suc p) h = let r = later ok step (t + n) t is chain p (omega arith) in let a = r.0 in (omega arith, (r.1.0, r.1.1))

    two : (p q : ℕ) → p < q → q < k → at p + step ≤ at q
    two p zero l h = absurd (not-suc-le-zero l)
    two zero (suc q) l h = (later ok step (t + n) t is chain q (omega arith)).0
    two (suc p) (suc q) l h = pairs ok step (t + n) t is chain p q (le_of_suc-le-suc l) (omega arith)

    reduced_at : (p : ℕ) → p < k → get_or (map (λ i. i % n) (t ∷ is)) p 0 ≡ at p % n
    reduced_at p h = map_at (λ i. i % n) (t ∷ is) p (omega arith)

    in_order : (p q : ℕ) → p < q → q < k → Apart n step (at p % n) (at q % n)
    in_order p q l h =
        let a = each p (omega arith) in
        let b = each q h in
        let x = a.0 in
        let y = b.1.0 in
        apart_reduced n step (at p) (at q) some_step (two p q l h) (omega arith) (omega arith)

    pub spaced : Spaced ok n k step (map (λ i. i % n) (t ∷ is))
    spaced = record {
      count = ap suc (map_long (λ i. i % n) is) ∙ count;
      within = λ (p : ℕ) (h : p < k). rw (reduced_at p h) (mod-lt (at p) (omega arith));
      allowed = λ (p : ℕ) (h : p < k). rw (reduced_at p h) (round (at p) ∙ (each p h).1.1);
      apart = λ (p q : ℕ) (h : p < k) (g : q < k) (ne : p ≡ q → ⊥). rw (reduced_at p h, reduced_at q g) (either p q h g ne);
    }
      where
        either : (p q : ℕ) → p < k → q < k → (p ≡ q → ⊥) → Apart n step (at p % n) (at q % n)
        either p q h g ne = elim (below_or_not p q) [
          | inl l ↦ in_order p q l g
          | inr l ↦ apart_sym n step (at q % n) (at p % n) (in_order q p (omega arith) h)
        ]

  went_spaced : (js : List ℕ) → Went ok n k step js → Spaced ok n k step js
  went_spaced js w = subst (Spaced ok n k step) w.are (spaced w.start w.below w.rest w.allowed w.count w.chain)

  start_went : (s : ℕ) → s < n → (is : List ℕ) → try s ≡ placed is → Went ok n k step (map (λ i. i % n) is)
  start_went s h is e = go is (subst (From s) e (from_start_lem s))
    where
      go : (is : List ℕ) → From s (placed is) → Went ok n k step (map (λ i. i % n) is)
      go [] f = absurd f
      go (t ∷ is) f = record { start = s; below = h; rest = is; allowed = f.1.0; count = f.1.1.0; chain = f.1.1.1; are = ap (λ (x : ℕ). map (λ i. i % n) (x ∷ is)) (sym f.0) }

  -- what one start gives, reduced, is such a choice
  start_sound : (s : ℕ) → s < n → (is : List ℕ) → try s ≡ placed is → Spaced ok n k step (map (λ i. i % n) is)
  start_sound s h is e = went_spaced (map (λ i. i % n) is) (start_went s h is e)

  pub went : (js : List ℕ) → placement ok n k step ≡ placed js → Went ok n k step js
  unfolding placement
  went js e = go (first_from try n 0) (found try n 0) e
    where
      go : (p : Places) → Found try n 0 p → reduced n p ≡ placed js → Went ok n k step js
      go nowhere f h = absurd (let z : ◌≡◌ {A = ℕ} 0 1 = cc in omega arith)
      go (placed is) f h =
          let same : map (λ i. i % n) is ≡ js = cc in
          subst (Went ok n k step) same (start_went f.0 (let u = f.1.1.0 in omega arith) is f.1.1.1)

  pub sound : (js : List ℕ) → placement ok n k step ≡ placed js → Spaced ok n k step js
  sound js e = went_spaced js (went js e)

  -- ---- complete
  gap : (i j : ℕ) → i ≤ j → Apart n step i j → (i + step ≤ j) × (j + step ≤ i + n)
  gap i j l h = let a = h.0 in let b = h.1 in (omega arith, omega arith)

  -- indices in order, any two apart, make a chain round the ring from the first
  chained : (first cur : ℕ) (is : List ℕ) → (cur + step ≤ first + n) → All (λ j. j + step ≤ first + n) is → All (λ i. ok i ≡ true) is → Pairs (Ordered (Apart n step) (apart_sym n step)) (cur ∷ is) → Chain ok step (first + n) cur is
  chained first cur [] c z o p = c
  chained first cur (j ∷ is) c z o p = ((gap cur j p.0.0.0 p.0.0.1).0, (o.0, chained first j is z.0 z.1 o.1 p.1))

  -- and leave room below the end of the ring
  room : (cur : ℕ) (is : List ℕ) → cur < n → All (λ i. i < n) is → Pairs (Ordered (Apart n step) (apart_sym n step)) (cur ∷ is) → cur + length is * step < n
  room cur [] h a p = let e : 0 * step ≡ 0 = zero-mul step in omega arith
  room cur (j ∷ is) h a p =
      let r : j + length is * step < n = room j is a.0 a.1 p.1 in
      let g : cur + step ≤ j = (gap cur j p.0.0.0 p.0.0.1).0 in
      let e : suc (length is) * step ≡ length is * step + step = suc-mul (length is) step in
      omega arith

  in_order_succeeds : (is : List ℕ) → length is ≡ k → All (λ i. i < n) is → All (λ i. ok i ≡ true) is → Pairs (Ordered (Apart n step) (apart_sym n step)) is → Some (first_from try (n - (k - 1) * step) 0)
  unfolding from_start
  in_order_succeeds [] e a o p = absurd (clash e)
    where
      clash : 0 ≡ k → ⊥
      clash e = omega arith
  in_order_succeeds (i ∷ is) e a o p =
      let m : length is ≡ k - 1 = omega arith in
      let r : i + length is * step < n = room i is a.0 a.1 p in
      let q : length is * step ≡ (k - 1) * step = ap (λ (x : ℕ). x * step) m in
      let z : All (λ j. j + step ≤ i + n) is = all_map (Ordered (Apart n step) (apart_sym n step) i) (λ j. j + step ≤ i + n) is (λ (j : ℕ) (h : Ordered (Apart n step) (apart_sym n step) i j). (gap i j h.0 h.1).1) p.0 in
      let c : Chain ok step (i + n) i is = chained i i is (omega arith) z o.1 p in
      let s : Some (onward ok step (i + n) (k - 1) i) = subst (λ (x : ℕ). Some (onward ok step (i + n) x i)) m (succeeds ok step (i + n) some_step i i is (le_refl i) c) in
      some_start try (n - (k - 1) * step) 0 i (omega arith) (omega arith) (rw o.0 (some i (onward ok step (i + n) (k - 1) i) s))
    where
      some : (x : ℕ) (rest : Places) → Some rest → Some (before x rest)
      some x nowhere h = h
      some x (placed xs) h = tt

  few_succeed : (is : List ℕ) → Spaced ok n k step is → Some (first_from try (n - (k - 1) * step) 0)
  few_succeed is s =
      let c = s.count in
      in_order_succeeds (sorted is) (sorted_long is ∙ c)
      (sorted_all (λ i. i < n) is (all_of (λ i. i < n) is (λ (p : ℕ) (h : p < length is). s.within p (omega arith))))
      (sorted_all (λ i. ok i ≡ true) is (all_of (λ i. ok i ≡ true) is (λ (p : ℕ) (h : p < length is). s.allowed p (omega arith))))
      (sorted_pairs (Apart n step) (apart_sym n step) is (pairs_of (Apart n step) is (λ (p q : ℕ) (l : p < q) (h : q < length is). s.apart p q (omega arith) (omega arith) (λ (e : p ≡ q). omega arith))))

  -- a start above n - 1 - (k - 1) * step need not be tried
  pub few_starts : first_from try n 0 ≡ first_from try (n - (k - 1) * step) 0
  few_starts = go (first_from try (n - (k - 1) * step) 0) refl
    where
      fits : n - (k - 1) * step + (n - (n - (k - 1) * step)) ≡ n
      fits = omega arith

      all : first_from try n 0 ≡ nowhere → nowhere ≡ first_from try (n - (k - 1) * step) 0 → first_from try n 0 ≡ first_from try (n - (k - 1) * step) 0
      all e f = e ∙ f

      none : (p : Places) → Found try n 0 p → first_from try (n - (k - 1) * step) 0 ≡ nowhere → p ≡ nowhere
      none nowhere f e = refl
      none (placed is) f e = absurd (subst Some e (few_succeed (map (λ i. i % n) is) (start_sound f.0 (let u = f.1.1.0 in omega arith) is f.1.1.1)))

      go : (p : Places) → first_from try (n - (k - 1) * step) 0 ≡ p → first_from try n 0 ≡ first_from try (n - (k - 1) * step) 0
      go nowhere e = none (first_from try n 0) (found try n 0) e ∙ sym e
      go (placed is) e = ap (λ (x : ℕ). first_from try x 0) (sym fits) ∙ more_starts try (n - (k - 1) * step) (n - (n - (k - 1) * step)) 0 (subst Some (sym e) tt)

  pub complete : (is : List ℕ) → Spaced ok n k step is → placement ok n k step ≡ nowhere → ⊥
  unfolding placement
  complete is s e = subst Some e (kept (first_from try n 0) (subst Some (sym few_starts) (few_succeed is s)))
    where
      kept : (p : Places) → Some p → Some (reduced n p)
      kept nowhere h = h
      kept (placed xs) h = tt
