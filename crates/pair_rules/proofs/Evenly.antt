-- For every hue count that is taken some hues are spaced at least the step for it: 0, step, 2 * step and so on, since k steps go round no further than 720 (`some_hues`). Assumes nothing.
use mathlib.Core.Path.{◌≡◌, refl, sym, ap, ◌∙◌}
use mathlib.Core.Logic.{inl, inr}
use mathlib.Core.Bool.{true}
use mathlib.Core.List.{List, [], ◌∷◌}
use Prim.Native.Nat.{ℕ, zero, suc, ◌+◌, ◌*◌, ◌≤◌, ◌<◌}
use native.Mathlib.Nat.{zero-add, add-zero, add-suc, suc-add, le_of_suc-le-suc, not-suc-le-zero, suc-mul, mul-le-mul_right}
use native.Mathlib.Omega.{arith}
use lib.Dec.{leb}
use lib.ListN.{length, get_or}
use borrow.Author.Tests.{leb-true}
use Rattle.limits.specs.Taken.{hue_count_taken}
use Rattle.limits.proofs.HueCount.{both}
use Rattle.placement_rules.specs.Placing.{step_for}
use Rattle.placement_rules.specs.Spacing.{Apart}
use Rattle.limits.proofs.Numbers.{below_or_not}
use Rattle.placement_rules.proofs.Step.{step_taken, steps_fit}
use Rattle.pair_rules.specs.Limit.{Hues}

-- ---- m indices a step apart, from i steps on
unfoldable pub evenly : ℕ → ℕ → ℕ → List ℕ
evenly step zero i = []
evenly step (suc m) i = i * step ∷ evenly step m (suc i)

module _ (step : ℕ) where
  evenly_long : (m i : ℕ) → length (evenly step m i) ≡ m
  unfolding evenly
  evenly_long zero i = refl
  evenly_long (suc m) i = ap suc (evenly_long m (suc i))

  evenly_at : (m i p : ℕ) → p < m → get_or (evenly step m i) p 0 ≡ (i + p) * step
  unfolding evenly
  evenly_at zero i p h = absurd (not-suc-le-zero h)
  evenly_at (suc m) i zero h = ap (λ (z : ℕ). z * step) (sym (add-zero i))
  evenly_at (suc m) i (suc p) h = evenly_at m (suc i) p (le_of_suc-le-suc h) ∙ ap (λ (z : ℕ). z * step) (suc-add i p ∙ sym (add-suc i p))

-- ---- round a ring on which all k steps fit
module _ (n k step : ℕ) (some : 1 ≤ step) (fit : k * step ≤ n) where
  abbrev at : ℕ → ℕ
  at p = get_or (evenly step k 0) p 0

  place : (p : ℕ) → p < k → at p ≡ p * step
  place p h = evenly_at step k 0 p h ∙ ap (λ (z : ℕ). z * step) (zero-add p)

  -- a step on
  next : (p q : ℕ) → p < q → p * step + step ≤ q * step
  next p q h = let x : suc p * step ≤ q * step = mul-le-mul_right step h in let e = suc-mul p step in omega arith

  inside : (p : ℕ) → p < k → at p + step ≤ n
  inside p h = let e = place p h in let x = next p k h in omega arith

  forward : (p q : ℕ) → p < k → q < k → p < q → at p + step ≤ at q
  forward p q P Q h = let e = place p P in let f = place q Q in let x = next p q h in omega arith

  pub evenly_spaced : Hues n k step (evenly step k 0)
  evenly_spaced = record {
    count = evenly_long step k 0;
    within = λ (p : ℕ) (h : p < k). let x = inside p h in omega arith;
    allowed = λ (p : ℕ) (h : p < k). refl;
    apart = apart;
  }
    where
      apart : (p q : ℕ) → p < k → q < k → (p ≡ q → ⊥) → Apart n step (at p) (at q)
      apart p q P Q ne = elim (below_or_not p q) [
        | inl h ↦ (let x = forward p q P Q h in let y = inside q Q in (omega arith, omega arith))
        | inr h ↦ (let g : q < p = other h in let x = forward q p Q P g in let y = inside p P in (omega arith, omega arith))
      ]
        where
          other : q ≤ p → q < p
          other h = elim (below_or_not q p) [ inl z ↦ z | inr z ↦ absurd (ne (omega arith)) ]

pub some_hues : (k : ℕ) → hue_count_taken k ≡ true → Hues 720 k (step_for k) (evenly (step_for k) k 0)
some_hues k h =
    let step = step_for k in
    let some : 1 ≤ step = leb-true 1 step (both (leb 1 step) (leb step 720) (step_taken k h)).0 in
    evenly_spaced 720 k step some (steps_fit k h)
