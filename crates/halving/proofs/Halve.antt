-- One halving of several, by which side moves; and the same for a loop that counts its halvings up to n. Assumes nothing.
use mathlib.Core.Path.{◌≡◌, refl, sym, ap, ◌∙◌}
use mathlib.Core.Logic.{◌⊎◌, inl, inr}
use mathlib.Core.Bool.{Bool, true, false, cond}
use Prim.Native.Nat.{ℕ, zero, suc, ◌+◌, ◌-◌, ◌≤◌, ◌<◌}
use native.Mathlib.Nat.{add-zero, add-suc}
use native.Mathlib.Omega.{arith}
use lib.Ieee.{Float}
use Rattle.halving.specs.Midpoint.{midpoint, halved, halve}

pub halved_up : (ok : Float → Bool) (n : ℕ) (lo hi : Float) → ok (midpoint lo hi) ≡ true → halved ok (suc n) lo hi ≡ halved ok n (midpoint lo hi) hi
unfolding halved
halved_up ok n lo hi t = rw t

pub halved_down : (ok : Float → Bool) (n : ℕ) (lo hi : Float) → ok (midpoint lo hi) ≡ false → halved ok (suc n) lo hi ≡ halved ok n lo (midpoint lo hi)
unfolding halved
halved_down ok n lo hi f = rw f

pub halve_up : (ok : Float → Bool) (n : ℕ) (lo hi : Float) → ok (midpoint lo hi) ≡ true → halve ok (suc n) lo hi ≡ halve ok n (midpoint lo hi) hi
unfolding halve
halve_up ok n lo hi t = ap (λ (e : Float × Float). e.0) (halved_up ok n lo hi t)

pub halve_down : (ok : Float → Bool) (n : ℕ) (lo hi : Float) → ok (midpoint lo hi) ≡ false → halve ok (suc n) lo hi ≡ halve ok n lo (midpoint lo hi)
unfolding halve
halve_down ok n lo hi f = ap (λ (e : Float × Float). e.0) (halved_down ok n lo hi f)

-- ---- where the halvings end: lo passes as it did, and hi is still the first or one that fails; and b halvings after a
pub kept : (ok : Float → Bool) (n : ℕ) (lo hi : Float) → ok lo ≡ true → (ok (halved ok n lo hi).0 ≡ true) × (((halved ok n lo hi).1 ≡ hi) ⊎ (ok (halved ok n lo hi).1 ≡ false))
unfolding halved
kept ok zero lo hi t = (t, inl refl)
kept ok (suc n) lo hi t = go (ok (midpoint lo hi)) refl (kept ok n (midpoint lo hi) hi) (kept ok n lo (midpoint lo hi) t)
  where
    End : Float × Float → Float → Type 0
    End e h = (ok e.0 ≡ true) × ((e.1 ≡ h) ⊎ (ok e.1 ≡ false))

    go : (b : Bool) → ok (midpoint lo hi) ≡ b → (ok (midpoint lo hi) ≡ true → End (halved ok n (midpoint lo hi) hi) hi) → End (halved ok n lo (midpoint lo hi)) (midpoint lo hi)
        → End (halved ok n (cond b (midpoint lo hi) lo) (cond b hi (midpoint lo hi))) hi
    go true e up down = up e
    go false e up down = (down.0, elim down.1 [ inl same ↦ inr (ap ok same ∙ e) | inr fails ↦ inr fails ])

pub joined : (ok : Float → Bool) (a b : ℕ) (lo hi : Float) → halved ok (b + a) lo hi ≡ halved ok b (halved ok a lo hi).0 (halved ok a lo hi).1
unfolding halved
joined ok zero b lo hi = ap (λ (n : ℕ). halved ok n lo hi) (add-zero b)
joined ok (suc a) b lo hi = ap (λ (n : ℕ). halved ok n lo hi) (add-suc b a) ∙ joined ok a b (cond (ok (midpoint lo hi)) (midpoint lo hi) lo) (cond (ok (midpoint lo hi)) hi (midpoint lo hi))

-- ---- rounds that change nothing: the midpoint is lo, which passes, or hi, which does not
pub stays_low : (ok : Float → Bool) (n : ℕ) (lo hi : Float) → midpoint lo hi ≡ lo → ok lo ≡ true → halve ok n lo hi ≡ lo
unfolding halve halved
stays_low ok zero lo hi m t = refl
stays_low ok (suc n) lo hi m t = halve_up ok n lo hi (ap ok m ∙ t) ∙ ap (λ (x : Float). halve ok n x hi) m ∙ stays_low ok n lo hi m t

pub stays_high : (ok : Float → Bool) (n : ℕ) (lo hi : Float) → midpoint lo hi ≡ hi → ok hi ≡ false → halve ok n lo hi ≡ lo
unfolding halve halved
stays_high ok zero lo hi m f = refl
stays_high ok (suc n) lo hi m f = halve_down ok n lo hi (ap ok m ∙ f) ∙ ap (λ (x : Float). halve ok n lo x) m ∙ stays_high ok n lo hi m f

-- ---- after i of n halvings, the rest of them ends at `end`
module _ (ok : Float → Bool) (n i : ℕ) (lo hi end : Float) (rest : halve ok (n - i) lo hi ≡ end) where
  one_less : i < n → n - i ≡ suc (n - (i + 1))
  one_less h = omega arith

  pub turn_up : i < n → ok (midpoint lo hi) ≡ true → halve ok (n - (i + 1)) (midpoint lo hi) hi ≡ end
  turn_up h t = sym (halve_up ok (n - (i + 1)) lo hi t) ∙ (rw (one_less h) at rest)

  pub turn_down : i < n → ok (midpoint lo hi) ≡ false → halve ok (n - (i + 1)) lo (midpoint lo hi) ≡ end
  turn_down h f = sym (halve_down ok (n - (i + 1)) lo hi f) ∙ (rw (one_less h) at rest)

  pub turned : n ≤ i → lo ≡ end
  unfolding halve halved
  turned h = let e : n - i ≡ 0 = omega arith in rw e at rest
