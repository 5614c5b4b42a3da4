-- Number 2 of a start, Req 05: a gap that document 01 takes is not below 40 exactly where it is at least 40 (`from_40`), so `gap_starts` says just that (`start_gap`).
-- The pairs of levels that are far apart by such a gap lie at least 82 indices apart (`new_pairs`), so a new job has a choice only over 83 levels or more (`fewest_levels`).
-- Assumes nothing.
use mathlib.Core.Path.{◌≡◌, sym, ap, ◌∙◌, subst}
use mathlib.Core.Logic.{◌↔◌, inl, inr}
use mathlib.Core.Bool.{true, false, not}
use mathlib.Core.List.{List}
use Prim.Native.Nat.{ℕ, ◌+◌, ◌*◌, ◌≤◌, ◌<◌}
use native.Mathlib.Nat.{le_of_mul-le-mul_right}
use native.Mathlib.Omega.{arith}
use lib.Dec.{T, leb, ltb, leb→le}
use lib.Ieee.{Float, binary32, round, add, lt, le, of_int}
use lib.Ieee.Back.{round_whole}
use lib.Ieee.Exact.{HasValue}
use lib.Ieee.Order.{round_mono}
use borrow.Author.Tests.{leb-true, lt-ltb, le-ltb, le-leb, lt-leb}
use Rattle.limits.specs.Taken.{f32_of, gap_taken}
use Rattle.limits.proofs.HueCount.{both}
use Rattle.limits.proofs.Tests.{joined}
use Rattle.limits.proofs.Numbers.{below_or_not}
use Rattle.halving.proofs.Midway.{revalue, add_values}
use Rattle.halving.proofs.Plain.{compared}
use Rattle.halving.proofs.Range.{taken_up_to}
use Rattle.gamut.specs.Table.{levels_in}
use Rattle.search_rules.specs.declared.Settings.{Settings}
use Rattle.search_rules.specs.Job.{gap_starts, gap_held}
use Rattle.search_rules.specs.Runs.{FarApart, Choice}
use Rattle.search_rules.specs.Accepted.{FromForty, FromZero}
use Rattle.search_rules.proofs.Apart.{own, total_value}

turned : (p q : ℕ) → not (ltb p q) ≡ leb q p
turned p q = elim (below_or_not p q) [ inl h ↦ ap not (lt-ltb p q h) ∙ sym (lt-leb q p h) | inr h ↦ ap not (le-ltb p q h) ∙ sym (le-leb q p h) ]

-- ---- 40 is taken, and nothing below it
-- a whole number is the fraction of it and 1
whole : (n : ℕ) → n ≤ 16777216 → HasValue (f32_of n) false n 1
unfolding of_int
whole n h = round_whole binary32 false n h

module _ (gap : Float) where
  -- the fraction that a gap is
  value_of : gap_taken gap ≡ true → (a : ℕ) × ((c : ℕ) × ((0 < c) × HasValue gap false a c))
  unfolding gap_taken
  value_of h = own gap 84 (taken_up_to 84 gap (omega arith) h)

  pub from_40 : gap_taken gap ≡ true → not (lt gap (f32_of 40)) ≡ le (f32_of 40) gap
  from_40 h =
      let v = value_of h in
      let a = v.0 in
      let c = v.1.0 in
      ap not (compared gap (f32_of 40) a c 40 1 v.1.1.0 (omega arith) v.1.1.1 (whole 40 (omega arith))).0
      ∙ turned (a * 1) (40 * c)
      ∙ sym (compared (f32_of 40) gap 40 1 a c (omega arith) v.1.1.0 (whole 40 (omega arith)) v.1.1.1).1

  pub start_gap : (gap_starts gap ≡ true) ↔ FromForty gap
  unfolding gap_starts
  start_gap = (
    λ h. let t = both (gap_taken gap) (not (lt gap (f32_of 40))) h in (t.0, sym (from_40 t.0) ∙ t.1),
    λ (h : FromForty gap). joined (gap_taken gap) (not (lt gap (f32_of 40))) h.0 (from_40 h.0 ∙ h.1),
  )

  -- document 01's start, and a record
  pub held_gap : (gap_held gap ≡ true) ↔ FromZero gap
  held_gap = (λ (h : gap_held gap ≡ true). h, λ (h : FromZero gap). h)

  -- ---- the pairs of a new job
  pub new_pairs : FromForty gap → (d l : ℕ) → FarApart gap d l → d + 82 ≤ l
  new_pairs h d l far =
      let v = value_of h.0 in
      let a = v.0 in
      let c = v.1.0 in
      let C = v.1.1.0 in
      let from : 40 * c ≤ a * 1 = leb-true (40 * c) (a * 1) (sym (compared (f32_of 40) gap 40 1 a c (omega arith) C (whole 40 (omega arith)) v.1.1.1).1 ∙ h.1) in
      let one : HasValue (f32_of 1) false c c = revalue (f32_of 1) 1 1 c c (omega arith) (omega arith) (whole 1 (omega arith)) in
      let w = total_value gap h.0 0 0 (omega arith) (omega arith) in
      let a' = w.0 in
      let c' = w.1.0 in
      let up = subst (λ (x : Float). T (le (round binary32 false 41 1) x)) (sym (add_values gap (f32_of 1) a c c C v.1.1.1 one)) (round_mono binary32 41 1 (a + c) c (omega arith) C (omega arith)) in
      let more : 41 * c' ≤ a' * 1 = leb→le (41 * c') (a' * 1) (subst T (compared (round binary32 false 41 1) (add binary32 gap (f32_of 1)) 41 1 a' c' (omega arith) w.1.1.0 (round_whole binary32 false 41 (omega arith)) w.1.1.1).1 up) in
      let apart : (24 + d) * c' + a' * 2 ≤ (24 + l) * c' = far a' c' w.1.1.0 w.1.1.1 in
      let lower : (106 + d) * c' ≤ (24 + l) * c' = omega arith in
      let all : 106 + d ≤ 24 + l = le_of_mul-le-mul_right lower w.1.1.0 in
      omega arith

-- so there is something to choose for one only over 83 levels or more
pub fewest_levels : (t : List Float) (s : Settings) (n : ℕ) → FromForty s.gap → Choice t s n → 83 ≤ levels_in t
fewest_levels t s n h x =
    let p = new_pairs s.gap h x.dark x.light x.far in
    let q = x.light_in in
    omega arith
