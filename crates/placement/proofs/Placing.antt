-- Placing from a start, one index after the other: what is stored so far, with the rest of the definition, is the whole. Assumes nothing.
use mathlib.Core.Path.{◌≡◌, refl, sym, ap, ◌∙◌, subst}
use mathlib.Core.Bool.{Bool, true, false}
use mathlib.Core.List.{List, [], map}
use Prim.Native.Nat.{ℕ, zero, suc, ◌+◌, ◌-◌, ◌%◌, ◌≤◌, ◌<◌, min}
use native.Mathlib.Omega.{arith}
use lib.ListN.{set, replicate}
use borrow.Author.Tests.{le-ltb, lt-ltb, le-leb, lt-leb}
use Rattle.std.specs.Prelude.{Option, None, Ok}
use Rattle.limits.specs.Answers.{value}
use Rattle.placement_rules.specs.declared.Placement.{Placement}
use Rattle.placement_rules.specs.Ring.{Places, nowhere, placed, before, earliest, onward, from_start, reduced}
use Rattle.placement_rules.specs.Placing.{stores, sixteen, Hands, Gives}
use Rattle.placement_rules.proofs.Earliest.{from, nearer_same, nearer_none}

-- the indices reduced by n and stored into the hues from place t on
abbrev pub stored : ℕ → List ℕ → ℕ → Places → Places
stored n hues t nowhere = nowhere
stored n hues t (placed is) = placed (stores hues t (map (λ i. i % n) is))

pub sixteen_stored : (n : ℕ) (p : Places) → sixteen (reduced n p) ≡ stored n (replicate 16 0) 0 p
sixteen_stored n nowhere = refl
sixteen_stored n (placed is) = refl

pub store_one : (n : ℕ) (hues : List ℕ) (t i : ℕ) (p : Places) → stored n hues t (before i p) ≡ stored n (set hues t (i % n)) (suc t) p
unfolding stores
store_one n hues t i nowhere = refl
store_one n hues t i (placed is) = refl

pub store_none : (n : ℕ) (hues : List ℕ) (t : ℕ) → stored n hues t (placed []) ≡ placed hues
unfolding stores
store_none n hues t = refl

-- ---- one index on
module _ (ok : ℕ → Bool) (step stop : ℕ) where
  pub too_late : (more cur : ℕ) → stop ≤ cur + step → onward ok step stop (suc more) cur ≡ nowhere
  unfolding onward
  too_late more cur h =
      let j = earliest ok (stop - (cur + step)) (cur + step) in
      let l : cur + step ≤ j = from ok (stop - (cur + step)) (cur + step) in
      rw (le-ltb j stop (omega arith))

  module _ (more cur w top : ℕ) (in_reach : cur + step ≤ stop) (nearer : stop ≤ top) (stands : min w top ≡ earliest ok (top - (cur + step)) (cur + step)) where
    pub none_left : stop ≤ w → onward ok step stop (suc more) cur ≡ nowhere
    unfolding onward
    none_left h =
        let far : stop ≤ earliest ok (top - (cur + step)) (cur + step) = omega arith in
        rw (le-ltb (earliest ok (stop - (cur + step)) (cur + step)) stop (nearer_none ok (cur + step) stop top in_reach nearer far))

    pub one_on : w < stop → onward ok step stop (suc more) cur ≡ before w (onward ok step stop more w)
    unfolding onward
    one_on h =
        let far : earliest ok (top - (cur + step)) (cur + step) ≡ w = omega arith in
        let near : earliest ok (stop - (cur + step)) (cur + step) ≡ w = nearer_same ok (cur + step) stop top in_reach nearer (rw far h) ∙ far in
        rw (near, lt-ltb w stop h)

  pub closed : (cur : ℕ) → step ≤ stop - cur → onward ok step stop zero cur ≡ placed []
  unfolding onward
  closed cur h = rw (le-leb step (stop - cur) h)

  pub open_end : (cur : ℕ) → stop - cur < step → onward ok step stop zero cur ≡ nowhere
  unfolding onward
  open_end cur h = rw (lt-leb step (stop - cur) h)

-- ---- the start itself
pub at_start : (ok : ℕ → Bool) (n k step s : ℕ) → ok s ≡ true → from_start ok n k step s ≡ before s (onward ok step (s + n) (k - 1) s)
unfolding from_start
at_start ok n k step s t = rw t

pub not_there : (ok : ℕ → Bool) (n k step s : ℕ) → ok s ≡ false → from_start ok n k step s ≡ nowhere
unfolding from_start
not_there ok n k step s f = rw f

-- ---- what is handed out is places that are the same
pub hands_same : {n k : ℕ} {r : Option Placement} {p q : Places} → p ≡ q → Hands n k r q → Hands n k r p
hands_same {n} {k} {r} e g = subst (Hands n k r) (sym e) g

-- nothing is handed out
pub hands_none : (n k : ℕ) {p : Places} → p ≡ nowhere → Hands n k None p
hands_none n k e = hands_same e (record { places_are = refl; tightest_is = refl })

-- what is handed out is what the call gives
pub given : {n k : ℕ} {found : Option Placement} {p : Places} → Hands n k found p → Gives n k (Ok found) (value p)
given h = record { says = ap value h.places_are; tightest_is = h.tightest_is }
