-- The table of earliest allowed indices within one round: the first allowed index, the table filled from its top, and read on round the circle. Assumes nothing.
use mathlib.Core.Path.{◌≡◌, refl, sym, ap, ◌∙◌, subst}
use mathlib.Core.Logic.{◌⊎◌, inl, inr}
use mathlib.Core.Bool.{Bool, true, false, cond}
use mathlib.Core.List.{List}
use Prim.Native.Nat.{ℕ, suc, ◌+◌, ◌-◌, ◌≤◌, ◌<◌, min}
use native.Mathlib.Nat.{zero-add, mod-eq_of_lt, ne_of_gt}
use native.Mathlib.Omega.{arith}
use lib.Dec.{ltb}
use lib.Ieee.{Float, nan, le}
use lib.ListN.{length, get_or, set, length-set}
use lib.Seq.{get_or-set_same, get_or-set_other}
use borrow.Author.Tests.{le-ltb, lt-ltb, ltb-true, ltb-false}
use Rattle.placement_rules.specs.Ring.{earliest}
use Rattle.placement_rules.specs.Placing.{allowed_at}
use Rattle.placement.specs.Inner.{first_allowed, Filled, FillAsked}
use Rattle.placement_rules.proofs.Allowed.{round}
use Rattle.limits.proofs.Numbers.{below_or_not}
use Rattle.placement_rules.proofs.Earliest.{to}
use Rattle.placement_rules.proofs.Earliest as first
use Rattle.placement_rules.proofs.Round.{round_on, itself, passed}

-- one less is left
pub one_less : (n i : ℕ) → i < n → n - i ≡ suc (n - (i + 1))
one_less n i h = omega arith

module _ (row : List Float) (c : Float) where
  abbrev n : ℕ
  n = length row

  abbrev ok : ℕ → Bool
  ok = allowed_at row c

  pub allowed_there : (i : ℕ) → i < n → ok i ≡ le c (get_or row i nan)
  unfolding allowed_at
  allowed_there i h = ap (λ (x : ℕ). le c (get_or row x nan)) (mod-eq_of_lt h)

  -- ---- the first allowed index: none is allowed before i
  module _ (i : ℕ) (so_far : earliest ok (n - i) i ≡ earliest ok n 0) where
    pub first_here : i < n → ok i ≡ true → i ≡ first_allowed row c
    first_here h t =
        let e : earliest ok n 0 ≡ i = sym so_far ∙ ap (λ (x : ℕ). earliest ok x i) (one_less n i h) ∙ first.here ok (n - (i + 1)) i t in
        rw (e, lt-ltb i n h)

    pub not_here : i < n → ok i ≡ false → earliest ok (n - (i + 1)) (i + 1) ≡ earliest ok n 0
    not_here h t =
        let s : i + 1 ≡ suc i = omega arith in
        ap (earliest ok (n - (i + 1))) s ∙ sym (first.skip ok (n - (i + 1)) i t) ∙ ap (λ (x : ℕ). earliest ok x i) (sym (one_less n i h)) ∙ so_far

    pub none_there : n ≤ i → 65535 ≡ first_allowed row c
    unfolding earliest
    none_there h =
        let z : n - i ≡ 0 = omega arith in
        let e : earliest ok n 0 ≡ i = sym so_far ∙ ap (λ (x : ℕ). earliest ok x i) z in
        rw (e, le-ltb i n h)

  -- the mark says whether there is one
  pub is_there : (f : ℕ) → f ≡ first_allowed row c → (f ≡ 65535 → ⊥) → (f ≡ earliest ok n 0) × (f < n)
  is_there f e h = go (ltb (earliest ok n 0) n) refl e
    where
      go : (b : Bool) → ltb (earliest ok n 0) n ≡ b → f ≡ cond b (earliest ok n 0) 65535 → (f ≡ earliest ok n 0) × (f < n)
      go true t e = (e, let l = ltb-true (earliest ok n 0) n t in omega arith)
      go false t e = absurd (h e)

  pub is_none : n ≤ 720 → 65535 ≡ first_allowed row c → n ≤ earliest ok n 0
  is_none short e = go (ltb (earliest ok n 0) n) refl e
    where
      go : (b : Bool) → ltb (earliest ok n 0) n ≡ b → 65535 ≡ cond b (earliest ok n 0) 65535 → n ≤ earliest ok n 0
      go true t e = let l = ltb-true (earliest ok n 0) n t in omega arith
      go false t e = ltb-false (earliest ok n 0) n t

  -- ---- the table, one index less each time
  module _ (f : ℕ) (work : List ℕ) (asked : FillAsked row c f work) where
    some : earliest ok n 0 < n
    some = let e = asked.is_first in let l = asked.there in omega arith

    -- after the last index of the lap comes the first, one length on
    pub top : n + f ≡ earliest ok n n
    top =
        let e = asked.is_first in
        let a : earliest ok n (0 + n) ≡ earliest ok n 0 + n = round_on ok n (round row c) n 0 in
        let b : earliest ok n n ≡ earliest ok n 0 + n = ap (earliest ok n) (sym (zero-add n)) ∙ a in
        omega arith

    pub here : (i : ℕ) → ok i ≡ true → i ≡ earliest ok n i
    here i t = sym (itself ok n (round row c) some i t)

    pub skip : (i w : ℕ) → i < n → ok i ≡ false → w ≡ earliest ok n (suc i) → w ≡ earliest ok n i
    skip i w h t e = e ∙ sym (passed ok n (round row c) some i h t)

  pub none_yet : (next : List ℕ) → n ≤ length next → Filled row c n next
  none_yet next h = record { long = h; at = λ (i : ℕ) (l : n ≤ i) (u : i < n). absurd (clash i l u) }
    where
      clash : (i : ℕ) → n ≤ i → i < n → ⊥
      clash i l u = omega arith

  pub more : (p w : ℕ) (next : List ℕ) → p < n → Filled row c (suc p) next → w ≡ earliest ok n p → Filled row c p (set next p w)
  more p w next h f s =
      let l = f.long in
      record {
        long = rw (length-set next p w) l;
        at = λ (i : ℕ) (l : p ≤ i) (u : i < n). go i l u (below_or_not p i);
      }
    where
      go : (i : ℕ) → p ≤ i → i < n → (p < i) ⊎ (i ≤ p) → get_or (set next p w) i 0 ≡ earliest ok n i
      go i l u (inl k) = rw (get_or-set_other next p i w 0 (ne_of_gt k)) (f.at i k u)
      go i l u (inr k) =
          let e : i ≡ p = omega arith in
          let b : p < length next = let l = f.long in omega arith in
          subst (λ (x : ℕ). get_or (set next p w) x 0 ≡ earliest ok n x) (sym e) (get_or-set_same next p w 0 b ∙ s)

  -- ---- read on the second lap
  pub round_again : (next : List ℕ) → Filled row c 0 next → (from : ℕ) → n ≤ from → from < n + n → n + get_or next (from - n) 0 ≡ earliest ok n from
  round_again next filled from l u =
      let i = from - n in
      let a : get_or next i 0 ≡ earliest ok n i = filled.at i (omega arith) (omega arith) in
      let b : earliest ok n (i + n) ≡ earliest ok n i + n = round_on ok n (round row c) n i in
      let e : i + n ≡ from = omega arith in
      let d : earliest ok n from ≡ earliest ok n i + n = ap (earliest ok n) (sym e) ∙ b in
      omega arith

  -- what is read, as taking one more index asks for it
  pub in_one_round : (from w : ℕ) → w ≡ earliest ok n from → min w (from + n) ≡ earliest ok (from + n - from) from
  in_one_round from w e =
      let far : from + n - from ≡ n = omega arith in
      let u : earliest ok n from ≤ from + n = to ok n from in
      let m : min w (from + n) ≡ w = omega arith in
      m ∙ e ∙ sym (ap (λ (x : ℕ). earliest ok x from) far)
