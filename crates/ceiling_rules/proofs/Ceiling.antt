-- The ceiling is the greatest of what the qualifying pairs still to come have, and is absent exactly where there is none of them (`greatest`); and at a later position of the
-- same job it is not above what it was (`further_on`). Over tables that are taken, of f32. Assumes nothing.
use mathlib.Core.Path.{◌≡◌, refl, sym, ap, ◌∙◌, subst}
use mathlib.Core.Logic.{◌⊎◌, inl, inr}
use mathlib.Core.Bool.{Bool, true, false, cond}
use mathlib.Core.List.{List}
use Prim.Native.Nat.{ℕ, zero, suc, ◌+◌, ◌-◌, ◌*◌, ◌/◌, ◌%◌, ◌≤◌, ◌<◌}
use native.Mathlib.Nat.{mod-lt, div-lt_iff_lt-mul}
use native.Mathlib.Omega.{arith}
use lib.Ieee.{Float, lt, le}
use Rattle.limits.proofs.Numbers.{below_or_not}
use Rattle.halving.proofs.Plain.{Plain, le_through, lt_then_le, not_lt_le}
use Rattle.gamut.specs.Table.{levels_in}
use Rattle.pair_rules.specs.Rows.{greater}
use Rattle.pair_rules.proofs.Choices.{le_self}
use Rattle.search_rules.specs.declared.Settings.{Settings}
use Rattle.search_rules.specs.declared.Job.{Job}
use Rattle.search_rules.specs.Job.{unbroken, dark_at, light_at, qualifies}
use Rattle.search_rules.specs.Loops.{loop}
use Rattle.search_rules.proofs.Unbroken.{sound}
use Rattle.search_rules.proofs.Rows.{Good}
use Rattle.search_rules.proofs.Turns.{keeps}
use Rattle.ceiling_rules.specs.Ceiling.{Ceiling, none_left, at_most, top_at, raised, with_pair, ceiling_from, ceiling_of}
use Rattle.ceiling_rules.specs.Meant.{ToCome, Greatest, NotAbove}
use Rattle.ceiling_rules.proofs.Tops.{of_either, top_plain}

-- ---- at most a ceiling
-- x is at most the ceiling, which is there
abbrev pub Under : Float → Ceiling → Type 0
Under x none_left = ⊥
Under x (at_most y) = le x y ≡ true

-- the ceiling is a number, where it is there
abbrev pub Numbered : Ceiling → Type 0
Numbered none_left = Unit
Numbered (at_most x) = Plain x

-- the greater of two is one of them, and at least each
greater_plain : (y x : Float) → Plain y → Plain x → Plain (greater y x)
unfolding greater
greater_plain y x Y X = of_either Plain (lt y x) x y X Y

pub greater_left : (y x : Float) → Plain y → Plain x → le y (greater y x) ≡ true
unfolding greater
greater_left y x Y X = go (lt y x) refl
  where
    go : (b : Bool) → lt y x ≡ b → le y (cond b x y) ≡ true
    go true e = lt_then_le y x Y X e
    go false e = le_self y Y

pub greater_right : (y x : Float) → Plain y → Plain x → le x (greater y x) ≡ true
unfolding greater
greater_right y x Y X = go (lt y x) refl
  where
    go : (b : Bool) → lt y x ≡ b → le x (cond b x y) ≡ true
    go true e = le_self x X
    go false e = not_lt_le y x Y X e

pub under_greater : (c y x : Float) → Plain c → Plain y → Plain x → le c x ≡ true → le c (greater y x) ≡ true
under_greater c y x C Y X h = le_through c x (greater y x) C X (greater_plain y x Y X) h (greater_right y x Y X)

-- ---- one pair more
module _ (x : Float) (X : Plain x) where
  raised_plain : (so : Ceiling) → Numbered so → Numbered (raised x so)
  raised_plain none_left n = X
  raised_plain (at_most y) n = greater_plain y x n X

  raised_keeps : (so : Ceiling) → Numbered so → (c : Float) → Plain c → Under c so → Under c (raised x so)
  raised_keeps none_left n c C h = absurd h
  raised_keeps (at_most y) n c C h = le_through c y (greater y x) C n (greater_plain y x n X) h (greater_left y x n X)

  raised_counts : (so : Ceiling) → Numbered so → Under x (raised x so)
  raised_counts none_left n = le_self x X
  raised_counts (at_most y) n = greater_right y x n X

same_ceiling : (x y : Float) → ◌≡◌ {A = Ceiling} (at_most x) (at_most y) → x ≡ y
same_ceiling x y e = cc

raised_is : (x y : Float) (so : Ceiling) → raised x so ≡ at_most y → (so ≡ at_most y) ⊎ (x ≡ y)
unfolding greater
raised_is x y none_left e = inr (same_ceiling x y e)
raised_is x y (at_most z) e = go (lt z x) e
  where
    go : (b : Bool) → ◌≡◌ {A = Ceiling} (at_most (cond b x z)) (at_most y) → (◌≡◌ {A = Ceiling} (at_most z) (at_most y)) ⊎ (x ≡ y)
    go true e = inr (same_ceiling x y e)
    go false e = inl e

module _ (s : Settings) (t : List Float) (good : Good t) (m : ℕ) (levels : m ≡ levels_in t) (some : 1 ≤ m) where
  abbrev dark : ℕ → ℕ
  dark p = p / m

  abbrev light : ℕ → ℕ
  light p = p % m

  abbrev top : ℕ → Float
  top p = top_at t (dark p) (light p)

  abbrev counts : ℕ → Bool
  counts p = qualifies s (dark p) (light p)

  plain : (p : ℕ) → p < m * m → Plain (top p)
  plain p h =
      let d : dark p < m = (div-lt_iff_lt-mul some).1 h in
      let l : light p < m = mod-lt p some in
      top_plain t good (dark p) (light p) (subst (λ (n : ℕ). dark p < n) levels d) (subst (λ (n : ℕ). light p < n) levels l)

  module _ (p : ℕ) (h : p < m * m) (so : Ceiling) (n : Numbered so) where
    with_plain : Numbered (with_pair s t m p so)
    unfolding with_pair
    with_plain = of_either Numbered (counts p) (raised (top p) so) so (raised_plain (top p) (plain p h) so n) n

    with_keeps : (c : Float) → Plain c → Under c so → Under c (with_pair s t m p so)
    unfolding with_pair
    with_keeps c C u = of_either (Under c) (counts p) (raised (top p) so) so (raised_keeps (top p) (plain p h) so n c C u) u

    with_counts : counts p ≡ true → Under (top p) (with_pair s t m p so)
    unfolding with_pair
    with_counts q = subst (λ (b : Bool). Under (top p) (cond b (raised (top p) so) so)) (sym q) (raised_counts (top p) (plain p h) so n)

  with_is : (p : ℕ) (so : Ceiling) (y : Float) → with_pair s t m p so ≡ at_most y → (so ≡ at_most y) ⊎ ((counts p ≡ true) × (top p ≡ y))
  unfolding with_pair
  with_is p so y e = go (counts p) refl e
    where
      go : (b : Bool) → counts p ≡ b → cond b (raised (top p) so) so ≡ at_most y → (so ≡ at_most y) ⊎ ((counts p ≡ true) × (top p ≡ y))
      go true q e = elim (raised_is (top p) y so e) [ inl a ↦ inl a | inr a ↦ inr (q, a) ]
      go false q e = inl e

  -- ---- the loop
  abbrev over : ℕ → ℕ → Ceiling → Ceiling
  over n p so = loop (with_pair s t m) n p so

  -- what is there stays a number, and what is at most it stays so
  holds : (n p : ℕ) → p + n ≤ m * m → (so : Ceiling) → Numbered so → Numbered (over n p so) × ((c : Float) → Plain c → Under c so → Under c (over n p so))
  holds n p h so num = keeps (with_pair s t m) Kept n p so turn (num, λ (c : Float) (C : Plain c) (u : Under c so). u)
    where
      Kept : Ceiling → Type 0
      Kept x = Numbered x × ((c : Float) → Plain c → Under c so → Under c x)

      turn : (q : ℕ) (x : Ceiling) → p ≤ q → q < p + n → Kept x → Kept (with_pair s t m q x)
      turn q x a b (num', k) =
          let here : q < m * m = omega arith in
          (with_plain q here x num', λ (c : Float) (C : Plain c) (u : Under c so). with_keeps q here x num' c C (k c C u))

  covers : (n p : ℕ) → p + n ≤ m * m → (so : Ceiling) → Numbered so → (q : ℕ) → p ≤ q → q < p + n → counts q ≡ true → Under (top q) (over n p so)
  unfolding loop
  covers zero p h so num q a b c = absurd (let z : ◌≡◌ {A = ℕ} 0 1 = omega arith in omega arith)
  covers (suc n) p h so num q a b c = elim (below_or_not p q) [
    | inl later ↦ covers n (suc p) (omega arith) (with_pair s t m p so) (with_plain p (omega arith) so num) q later (omega arith) c
    | inr here ↦ first here
  ]
    where
      first : q ≤ p → Under (top q) (over n (suc p) (with_pair s t m p so))
      first l =
          let e : p ≡ q = omega arith in
          let inside : p < m * m = omega arith in
          let u : Under (top p) (with_pair s t m p so) = with_counts p inside so num (ap counts e ∙ c) in
          subst (λ (x : ℕ). Under (top x) (over n (suc p) (with_pair s t m p so))) e ((holds n (suc p) (omega arith) (with_pair s t m p so) (with_plain p inside so num)).1 (top p) (plain p inside) u)

  -- a pair of the loop that counts and has just this
  pub record At (n p : ℕ) (y : Float) : Type 0 where
    pub at : ℕ
    pub from : p ≤ at
    pub below : at < p + n
    pub counted : counts at ≡ true
    pub is : top at ≡ y

  comes_from : (n p : ℕ) (so : Ceiling) (y : Float) → over n p so ≡ at_most y → (so ≡ at_most y) ⊎ At n p y
  unfolding loop
  comes_from zero p so y e = inl e
  comes_from (suc n) p so y e = elim (comes_from n (suc p) (with_pair s t m p so) y e) [ inl a ↦ here (with_is p so y a) | inr a ↦ inr (record { at = a.at; from = let f = a.from in omega arith; below = let b = a.below in omega arith; counted = a.counted; is = a.is }) ]
    where
      here : (so ≡ at_most y) ⊎ ((counts p ≡ true) × (top p ≡ y)) → (so ≡ at_most y) ⊎ At (suc n) p y
      here (inl a) = inl a
      here (inr a) = inr (record { at = p; from = omega arith; below = omega arith; counted = a.0; is = a.1 })

  -- ---- from no pair on
  pub ceiling_covers : (n p : ℕ) → p + n ≤ m * m → (q : ℕ) → p ≤ q → q < p + n → counts q ≡ true → Under (top q) (ceiling_from s t m n p)
  unfolding ceiling_from
  ceiling_covers n p h = covers n p h none_left tt

  pub ceiling_number_lem : (n p : ℕ) → p + n ≤ m * m → Numbered (ceiling_from s t m n p)
  unfolding ceiling_from
  ceiling_number_lem n p h = (holds n p h none_left tt).0

  pub ceiling_at : (n p : ℕ) (y : Float) → ceiling_from s t m n p ≡ at_most y → At n p y
  unfolding ceiling_from
  ceiling_at n p y e = elim (comes_from n p none_left y e) [ inl a ↦ absurd (let z : ◌≡◌ {A = ℕ} 0 1 = cc in omega arith) | inr a ↦ a ]

-- ---- of a job that is not broken
module _ (t : List Float) (good : Good t) (j : Job) (u : unbroken j ≡ true) (levels : j.levels ≡ levels_in t) where
  abbrev all : ℕ
  all = j.levels * j.levels

  abbrev left : ℕ
  left = all - j.position

  whole : j.position + left ≡ all
  whole = let w = (sound j u).within in omega arith

  fits_in : j.position + left ≤ all
  fits_in = let w = whole in omega arith

  pub ceiling_of_covers : (q : ℕ) → j.position ≤ q → q < all → qualifies j.settings (dark_at j.levels q) (light_at j.levels q) ≡ true
      → Under (top_at t (dark_at j.levels q) (light_at j.levels q)) (ceiling_of j t)
  ceiling_of_covers q a b c = ceiling_covers j.settings t good j.levels levels (sound j u).some_level left j.position fits_in q a (let w = whole in omega arith) c

  pub ceiling_of_number : Numbered (ceiling_of j t)
  ceiling_of_number = ceiling_number_lem j.settings t good j.levels levels (sound j u).some_level left j.position fits_in

  pub greatest : Greatest j t (ceiling_of j t)
  greatest = go (ceiling_of j t) refl
    where
      go : (c : Ceiling) → ceiling_of j t ≡ c → Greatest j t c
      go none_left e = λ (p : ToCome j). subst (Under (top_at t (dark_at j.levels p.at) (light_at j.levels p.at))) e (ceiling_of_covers p.at p.from p.below p.pair_qualifies)
      go (at_most y) e =
          let a = ceiling_at j.settings t good j.levels levels (sound j u).some_level left j.position y e in (
            (record { at = a.at; from = a.from; below = let b = a.below in let w = whole in omega arith; pair_qualifies = a.counted }, a.is),
            λ (p : ToCome j). subst (Under (top_at t (dark_at j.levels p.at) (light_at j.levels p.at))) e (ceiling_of_covers p.at p.from p.below p.pair_qualifies),
          )

-- ---- further on
pub further_on : (t : List Float) → Good t → (j j' : Job) → unbroken j ≡ true → unbroken j' ≡ true → j.levels ≡ levels_in t → j'.levels ≡ j.levels → j'.settings ≡ j.settings → j.position ≤ j'.position
    → NotAbove (ceiling_of j' t) (ceiling_of j t)
further_on t good j j' u u' levels same_levels same_settings on = go (ceiling_of j' t) refl
  where
    under : (x : Float) (c : Ceiling) → Under x c → NotAbove (at_most x) c
    under x none_left u = u
    under x (at_most y) u = u

    go : (c : Ceiling) → ceiling_of j' t ≡ c → NotAbove c (ceiling_of j t)
    go none_left e = tt
    go (at_most y) e =
        let a = ceiling_at j'.settings t good j'.levels (same_levels ∙ levels) (sound j' u').some_level (left t good j' u' (same_levels ∙ levels)) j'.position y e in
        let at = a.at in
        let f = a.from in
        let b = a.below in
        let w = whole t good j' u' (same_levels ∙ levels) in
        let inside : at < j'.levels * j'.levels = omega arith in
        let inside' : at < j.levels * j.levels = subst (λ (m : ℕ). at < m * m) same_levels inside in
        let counted : qualifies j.settings (dark_at j.levels at) (light_at j.levels at) ≡ true =
        subst (λ (m : ℕ). qualifies j.settings (dark_at m at) (light_at m at) ≡ true) same_levels (subst (λ (s : Settings). qualifies s (dark_at j'.levels at) (light_at j'.levels at) ≡ true) same_settings a.counted) in
        let is : top_at t (dark_at j.levels at) (light_at j.levels at) ≡ y = subst (λ (m : ℕ). top_at t (dark_at m at) (light_at m at) ≡ y) same_levels a.is in
        under y (ceiling_of j t) (subst (λ (x : Float). Under x (ceiling_of j t)) is (ceiling_of_covers t good j u levels at (omega arith) inside' counted))
