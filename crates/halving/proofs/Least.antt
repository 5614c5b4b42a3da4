-- `least` finds what it says, for a test that holds from some number on: the test holds there, and nowhere below. Assumes nothing.
use mathlib.Core.Path.{◌≡◌, refl, sym, ◌∙◌}
use mathlib.Core.Logic.{inl, inr}
use mathlib.Core.Bool.{Bool, true, false, cond}
use Prim.Native.Nat.{ℕ, zero, suc, ◌+◌, ◌-◌, ◌*◌, ◌^◌, ◌≤◌, ◌<◌}
use native.Mathlib.Nat.{pow-suc, add-zero}
use native.Mathlib.Omega.{arith}
use lib.Pow.{pow_pos}
use Rattle.limits.proofs.Numbers.{below_or_not}
use Rattle.halving.specs.Patterns.{least}

abbrev pub Lasting : (ℕ → Bool) → Type 0
Lasting p = (i j : ℕ) → i ≤ j → p i ≡ true → p j ≡ true

clash : {A : Type 0} (b : Bool) → b ≡ true → b ≡ false → A
clash b t f = absurd (let z : ◌≡◌ {A = Bool} true false = sym t ∙ f in never z)
  where
    never : true ≡ false → ⊥
    never z = let w : ◌≡◌ {A = ℕ} 0 1 = cc in omega arith

twice : (k : ℕ) → 2 ^ suc k ≡ 2 ^ k + 2 ^ k
twice k = let e : 2 ^ suc k ≡ 2 ^ k * 2 = pow-suc 2 k in omega arith

module _ (p : ℕ → Bool) (lasts : Lasting p) where
  -- where p fails, it fails below
  pub fails_below : (i j : ℕ) → i ≤ j → p j ≡ false → p i ≡ false
  fails_below i j h f = go (p i) refl
    where
      go : (t : Bool) → p i ≡ t → t ≡ false
      go true e = clash (p j) (lasts i j h e) f
      go false e = refl

  -- the number at which p begins to hold is found
  pub least_is : (k from b : ℕ) → from ≤ b → b < from + 2 ^ k → p b ≡ true → ((i : ℕ) → i < b → p i ≡ false) → least p k from ≡ b
  unfolding least
  least_is zero from b l u t f = omega arith
  least_is (suc k) from b l u t f = go (p (from + (2 ^ k - 1))) refl (λ (from' : ℕ) (l' : from' ≤ b) (u' : b < from' + 2 ^ k). least_is k from' b l' u' t f)
    where
      z : 0 < 2 ^ k
      z = pow_pos k

      w : 2 ^ suc k ≡ 2 ^ k + 2 ^ k
      w = twice k

      -- b is no further than where p was tried
      near : p (from + (2 ^ k - 1)) ≡ true → b < from + 2 ^ k
      near e = elim (below_or_not (from + (2 ^ k - 1)) b) [ inl h ↦ clash (p (from + (2 ^ k - 1))) e (f (from + (2 ^ k - 1)) h) | inr h ↦ omega arith ]

      far : p (from + (2 ^ k - 1)) ≡ false → from + 2 ^ k ≤ b
      far e = elim (below_or_not (from + (2 ^ k - 1)) b) [ inl h ↦ omega arith | inr h ↦ clash (p b) t (fails_below b (from + (2 ^ k - 1)) h e) ]

      go : (q : Bool) → p (from + (2 ^ k - 1)) ≡ q → ((from' : ℕ) → from' ≤ b → b < from' + 2 ^ k → least p k from' ≡ b) → least p k (from + cond q 0 (2 ^ k)) ≡ b
      go true e rec = rec (from + 0) (omega arith) (let h = near e in omega arith)
      go false e rec = rec (from + 2 ^ k) (far e) (omega arith)

  -- p holds where `least` stops, if it holds at the last number
  pub least_holds : (k from : ℕ) → p (from + (2 ^ k - 1)) ≡ true → p (least p k from) ≡ true
  unfolding least
  least_holds zero from t = rw add-zero at t
  least_holds (suc k) from t = go (p (from + (2 ^ k - 1))) refl (λ (from' : ℕ) (t' : p (from' + (2 ^ k - 1)) ≡ true). least_holds k from' t')
    where
      last : from + (2 ^ suc k - 1) ≡ from + 2 ^ k + (2 ^ k - 1)
      last = let z : 0 < 2 ^ k = pow_pos k in let w : 2 ^ suc k ≡ 2 ^ k + 2 ^ k = twice k in omega arith

      go : (q : Bool) → p (from + (2 ^ k - 1)) ≡ q → ((from' : ℕ) → p (from' + (2 ^ k - 1)) ≡ true → p (least p k from') ≡ true) → p (least p k (from + cond q 0 (2 ^ k))) ≡ true
      go true e rec = rec (from + 0) (rw add-zero e)
      go false e rec = rec (from + 2 ^ k) (rw last at t)

  -- and nowhere below
  pub least_first : (k from : ℕ) → ((i : ℕ) → i < from → p i ≡ false) → (i : ℕ) → i < least p k from → p i ≡ false
  unfolding least
  least_first zero from f = f
  least_first (suc k) from f = go (p (from + (2 ^ k - 1))) refl (λ (from' : ℕ) (f' : (i : ℕ) → i < from' → p i ≡ false). least_first k from' f')
    where
      go : (q : Bool) → p (from + (2 ^ k - 1)) ≡ q → ((from' : ℕ) → ((i : ℕ) → i < from' → p i ≡ false) → (i : ℕ) → i < least p k from' → p i ≡ false)
          → (i : ℕ) → i < least p k (from + cond q 0 (2 ^ k)) → p i ≡ false
      go true e rec = rec (from + 0) (λ (j : ℕ) (h : j < from + 0). f j (omega arith))
      go false e rec = rec (from + 2 ^ k) (λ (j : ℕ) (h : j < from + 2 ^ k). fails_below j (from + (2 ^ k - 1)) (let z : 0 < 2 ^ k = pow_pos k in omega arith) e)
