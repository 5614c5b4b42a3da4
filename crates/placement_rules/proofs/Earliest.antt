-- The earliest allowed index: where it lies, that it is allowed and that none before it is, and what a nearer end makes of it. Assumes nothing.
use mathlib.Core.Path.{◌≡◌, refl, sym, ap, ◌∙◌}
use mathlib.Core.Logic.{inl, inr}
use mathlib.Core.Bool.{Bool, true, false, cond}
use Prim.Native.Nat.{ℕ, zero, suc, ◌+◌, ◌-◌, ◌≤◌, ◌<◌}
use native.Mathlib.Nat.{le_refl}
use native.Mathlib.Omega.{arith}
use Rattle.limits.proofs.Numbers.{below_or_not}
use Rattle.limits.proofs.Floats.{never}
use Rattle.placement_rules.specs.Ring.{earliest}

module _ (ok : ℕ → Bool) where
  pub here : (far i : ℕ) → ok i ≡ true → earliest ok (suc far) i ≡ i
  unfolding earliest
  here far i t = rw t

  pub skip : (far i : ℕ) → ok i ≡ false → earliest ok (suc far) i ≡ earliest ok far (suc i)
  unfolding earliest
  skip far i f = rw f

  pub from : (far i : ℕ) → i ≤ earliest ok far i
  unfolding earliest
  from zero i = le_refl i
  from (suc far) i = go (ok i) (earliest ok far (suc i)) (from far (suc i))
    where
      go : (t : Bool) (e : ℕ) → suc i ≤ e → i ≤ cond t i e
      go true e h = le_refl i
      go false e h = omega arith

  pub to : (far i : ℕ) → earliest ok far i ≤ i + far
  unfolding earliest
  to zero i = omega arith
  to (suc far) i = go (ok i) (earliest ok far (suc i)) (to far (suc i))
    where
      go : (t : Bool) (e : ℕ) → e ≤ suc i + far → cond t i e ≤ i + suc far
      go true e h = omega arith
      go false e h = omega arith

  pub is_ok : (far i : ℕ) → earliest ok far i < i + far → ok (earliest ok far i) ≡ true
  unfolding earliest
  is_ok zero i h = absurd (clash i h)
    where
      clash : (i : ℕ) → i < i + 0 → ⊥
      clash i h = omega arith
  is_ok (suc far) i h = go (ok i) refl (earliest ok far (suc i)) (is_ok far (suc i)) h
    where
      go : (t : Bool) → ok i ≡ t → (e : ℕ) → (e < suc i + far → ok e ≡ true) → cond t i e < i + suc far → ok (cond t i e) ≡ true
      go true e x f h = e
      go false e x f h = f (omega arith)

  pub first : (far i j : ℕ) → i ≤ j → j < i + far → ok j ≡ true → earliest ok far i ≤ j
  unfolding earliest
  first zero i j l u t = absurd (clash i j l u)
    where
      clash : (i j : ℕ) → i ≤ j → j < i + 0 → ⊥
      clash i j l u = omega arith
  first (suc far) i j l u t = go (ok i) refl (earliest ok far (suc i)) (λ (k : suc i ≤ j). first far (suc i) j k (omega arith) t)
    where
      go : (b : Bool) → ok i ≡ b → (e : ℕ) → (suc i ≤ j → e ≤ j) → cond b i e ≤ j
      go true q e f = l
      go false q e f = elim (below_or_not i j) [ inl h ↦ f h | inr h ↦ never (sym q ∙ ap ok (same h) ∙ t) ]
        where
          same : j ≤ i → i ≡ j
          same h = omega arith

  -- the same search with a nearer end
  module _ (i stop top : ℕ) (in_reach : i ≤ stop) (nearer : stop ≤ top) where
    abbrev far_one : ℕ
    far_one = earliest ok (top - i) i

    abbrev near_one : ℕ
    near_one = earliest ok (stop - i) i

    pub nearer_same : far_one < stop → near_one ≡ far_one
    nearer_same h =
        let a : i ≤ far_one = from (top - i) i in
        let t : ok far_one ≡ true = is_ok (top - i) i (omega arith) in
        let l : near_one ≤ far_one = first (stop - i) i far_one a (omega arith) t in
        let b : i ≤ near_one = from (stop - i) i in
        let u : ok near_one ≡ true = is_ok (stop - i) i (omega arith) in
        let m : far_one ≤ near_one = first (top - i) i near_one b (omega arith) u in
        omega arith

    pub nearer_none : stop ≤ far_one → stop ≤ near_one
    nearer_none h = elim (below_or_not near_one stop) [ inl k ↦ absurd (clash k) | inr k ↦ k ]
      where
        clash : near_one < stop → ⊥
        clash k =
            let b : i ≤ near_one = from (stop - i) i in
            let u : ok near_one ≡ true = is_ok (stop - i) i (omega arith) in
            let m : far_one ≤ near_one = first (top - i) i near_one b (omega arith) u in
            omega arith
