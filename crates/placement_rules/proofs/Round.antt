-- The earliest allowed index within one round, on a ring that is gone round. One round on it is one length further (`round_on`). Where the ring has an allowed index,
-- an index that is allowed has itself (`itself`), and one that is not has that of the index after it (`passed`). Assumes nothing.
use mathlib.Core.Path.{◌≡◌, refl, sym, ap, ◌∙◌, subst}
use mathlib.Core.Logic.{inl, inr}
use mathlib.Core.Bool.{Bool, true, false, cond}
use Prim.Native.Nat.{ℕ, zero, suc, ◌+◌, ◌-◌, ◌%◌, ◌≤◌, ◌<◌}
use native.Mathlib.Nat.{add-mod_right}
use native.Mathlib.Omega.{arith}
use Rattle.limits.proofs.Floats.{never}
use Rattle.placement_rules.specs.Ring.{earliest}
use Rattle.limits.proofs.Numbers.{below_or_not}
use Rattle.placement_rules.proofs.Earliest.{here, skip, is_ok, first, nearer_same}

module _ (ok : ℕ → Bool) (n : ℕ) (round : (i : ℕ) → ok (i % n) ≡ ok i) where
  again : (i : ℕ) → ok (i + n) ≡ ok i
  again i = sym (round (i + n)) ∙ ap ok (add-mod_right i n) ∙ round i

  pub round_on : (far i : ℕ) → earliest ok far (i + n) ≡ earliest ok far i + n
  unfolding earliest
  round_on zero i = refl
  round_on (suc far) i =
      let e : suc i + n ≡ suc (i + n) = omega arith in
      go (ok i) (ok (i + n)) (again i) (earliest ok far (suc (i + n))) (earliest ok far (suc i)) (subst (λ (x : ℕ). earliest ok far x ≡ earliest ok far (suc i) + n) e (round_on far (suc i)))
    where
      go : (a b : Bool) → b ≡ a → (x y : ℕ) → x ≡ y + n → cond b (i + n) x ≡ cond a i y + n
      go true true e x y h = refl
      go true false e x y h = never e
      go false true e x y h = never (sym e)
      go false false e x y h = h

  -- ---- somewhere on the ring an index is allowed
  module _ (some : earliest ok n 0 < n) where
    abbrev f : ℕ
    f = earliest ok n 0

    f_allowed : ok f ≡ true
    f_allowed = is_ok ok n 0 (let h = some in omega arith)

    -- within a round of each index of the lap one is allowed
    within : (i : ℕ) → i ≤ n → earliest ok n i < i + n
    within i h = elim (below_or_not f i) [
      | inl k ↦ (let a = first ok n i (f + n) (let s = some in omega arith) (omega arith) (again f ∙ f_allowed) in omega arith)
      | inr k ↦ (let a = first ok n i f k (let s = some in omega arith) f_allowed in let s = some in omega arith)
    ]

    one_less : n ≡ suc (n - 1)
    one_less = let s = some in omega arith

    pub itself : (i : ℕ) → ok i ≡ true → earliest ok n i ≡ i
    itself i t = ap (λ (x : ℕ). earliest ok x i) one_less ∙ here ok (n - 1) i t

    pub passed : (i : ℕ) → i < n → ok i ≡ false → earliest ok n i ≡ earliest ok n (suc i)
    passed i h t =
        let one : earliest ok n i ≡ earliest ok (n - 1) (suc i) = ap (λ (x : ℕ). earliest ok x i) one_less ∙ skip ok (n - 1) i t in
        let w : earliest ok n (suc i) < suc i + n = within (suc i) h in
        let near : earliest ok n (suc i) < i + n = strict (earliest ok n (suc i)) w (is_ok ok n (suc i) w) in
        let x : (suc i + n) - suc i ≡ n = omega arith in
        let y : (i + n) - suc i ≡ n - 1 = omega arith in
        let s = nearer_same ok (suc i) (i + n) (suc i + n) (omega arith) (omega arith) (subst (λ (z : ℕ). earliest ok z (suc i) < i + n) (sym x) near) in
        one ∙ subst (λ (z : ℕ). earliest ok z (suc i) ≡ earliest ok n (suc i)) y (s ∙ ap (λ (z : ℕ). earliest ok z (suc i)) x)
      where
        -- one round on from i nothing is allowed either
        strict : (j : ℕ) → j < suc i + n → ok j ≡ true → j < i + n
        strict j u a = elim (below_or_not j (i + n)) [ inl k ↦ k | inr k ↦ never (sym t ∙ sym (again i) ∙ ap ok (let e : i + n ≡ j = omega arith in e) ∙ a) ]
