-- `orientation::over_partners` meets its contract. Where the fixed hue itself has too little, no partner changes anything; else the loop keeps the turns that are left from the best so
-- far. Assumes nothing.
use mathlib.Core.Path.{◌≡◌, refl, sym, ap, ◌∙◌}
use mathlib.Core.Bool.{true, false}
use mathlib.Core.List.{List, [], ◌∷◌}
use Prim.Native.Nat.{ℕ, ◌+◌, ◌%◌}
use native.Mathlib.Omega.{arith}
use lib.Ieee.{Float}
use Rattle.gamut.specs.Table.{row_at}
use Rattle.pair_rules.specs.Rows.{lesser, value_at}
use Rattle.pair_rules.proofs.Rows.{common_of_two}
use Rattle.search_rules.specs.Runs.{common_of}
use Rattle.search_rules.proofs.Turns.{one_taken, all_taken}
use Rattle.orientation_rules.specs.Orientation.{Best, found, partner_at, replaces, tried_with, over_partners}
use Rattle.orientation_rules.proofs.Skipping.{skipped}
use Rattle.orientation.specs.Inner.{best_of}
use Rattle.orientation.proofs.over_partners.Goals as goal
use Rattle.orientation.proofs.over_partners.Goals.{then-replaces, else-replaces}

abbrev rows : List Float → ℕ → ℕ → List (List Float)
rows t d l = row_at t d ∷ row_at t l ∷ []

-- one partner, by what it has with the fixed hue
module _ (t : List Float) (hue d l on : ℕ) where
  abbrev partner : ℕ
  partner = (hue + on) % 720

  shared : (own value chroma : Float) → own ≡ value_at (rows t d l) hue → value ≡ value_at (rows t d l) partner → chroma ≡ lesser own value → chroma ≡ common_of t d l (hue ∷ partner ∷ [])
  shared own value chroma e f g = g ∙ rw (e, f) (sym (common_of_two (rows t d l) hue partner))

  better : (so : Best) (chroma : Float) → chroma ≡ common_of t d l (hue ∷ partner ∷ []) → replaces chroma so ≡ true → found chroma d l partner ≡ tried_with t hue d l (partner_at hue on) so
  unfolding tried_with partner_at
  better so chroma e r = rw (← e, r)

  worse : (so : Best) (chroma : Float) → chroma ≡ common_of t d l (hue ∷ partner ∷ []) → replaces chroma so ≡ false → so ≡ tried_with t hue d l (partner_at hue on) so
  unfolding tried_with partner_at
  worse so chroma e r = rw (← e, r)

abbrev turn : List Float → ℕ → ℕ → ℕ → ℕ → Best → Best
turn t hue d l = λ on. tried_with t hue d l (partner_at hue on)

pub returns-then-not-replaces : goal.returns-then-not-replaces
returns-then-not-replaces c =
    let a = c.args in
    let there = c.requires.there in
    let t = a.table.now in
    let so = best_of a.best in
    let little = ap (λ (x : Float). replaces x so) (sym c.value_at-own.ensures) ∙ sym c.replaces.ensures ∙ c.if-not-replaces.true in
    sym (skipped t c.requires.good a.hue a.dark a.light there.hue_in there.dark_in there.light_in so c.requires.reached little)

pub loop-on-init : goal.loop-on-init
unfolding over_partners
loop-on-init c = refl

pub loop-on-preserved : goal.loop-on-preserved
loop-on-preserved c =
    let a = c.args in
    let t = a.table.now in
    let on = c.loop-on.on in
    let so = best_of c.loop-on.best in
    let inside = c.loop-on-test.true in
    let chroma = c.lesser-chroma.result in
    let is = shared t a.hue a.dark a.light on c.value_at-own.result c.value_at.result chroma c.value_at-own.ensures c.value_at.ensures c.lesser-chroma.ensures in
    let next : best_of c.if-replaces.best ≡ turn t a.hue a.dark a.light on so = elim c.if-replaces.branch [
      | then-replaces w ↦ ap best_of w.best-is ∙ better t a.hue a.dark a.light on so chroma is (sym c.replaces-in-loop-on.ensures ∙ w.if-replaces.true)
      | else-replaces w ↦ ap best_of w.best-is ∙ worse t a.hue a.dark a.light on so chroma is (sym c.replaces-in-loop-on.ensures ∙ w.if-replaces.false)
    ] in
    one_taken (turn t a.hue a.dark a.light) 420 on so (best_of c.if-replaces.best) (over_partners t a.hue a.dark a.light (best_of a.best)) (omega arith) next c.loop-on.invariant

pub returns : goal.returns
returns c =
    let a = c.args in
    let end = c.loop-on-test.false in
    all_taken (turn a.table.now a.hue a.dark a.light) 420 c.loop-on.on (best_of c.loop-on.best) (over_partners a.table.now a.hue a.dark a.light (best_of a.best)) (omega arith) c.loop-on.invariant
