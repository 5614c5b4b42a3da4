-- What one round of a halving leaves (`at_low`, `up`, `down`), what is kept from round to round, and what the best is at each end. Assumes nothing.
use mathlib.Core.Path.{◌≡◌, refl, sym, ap, ◌∙◌}
use mathlib.Core.Bool.{Bool, true, false, cond}
use mathlib.Core.List.{List}
use Prim.Native.Nat.{ℕ, suc, ◌+◌, ◌-◌, ◌≤◌, ◌<◌}
use native.Mathlib.Omega.{arith}
use Rattle.std.specs.Prelude.{Option, Some, None, Result, Ok, Err}
use Rattle.std.specs.Result.{IsOk}
use Rattle.std.proofs.Common.{rules}
use lib.Ieee.{Float, binary32, to_bits, lt}
use lib.ListN.{length}
use Rattle.limits.specs.Answers.{value, pass}
use Rattle.limits.specs.declared.Refusal.{Refusal}
use Rattle.limits.specs.Taken.{chroma_taken}
use Rattle.limits.specs.Each.{F32}
use Rattle.limits.proofs.Checks.{same_value, said_twice}
use Rattle.halving.specs.Midpoint.{midpoint, halved, halve}
use Rattle.halving.proofs.Halve.{halve_up, halve_down, stays_low, stays_high}
use Rattle.halving.proofs.Meeting.{Met, midpoint_met, same_pattern}
use Rattle.halving.proofs.Range.{taken_up_to, up_to_taken}
use Rattle.placement_rules.specs.declared.Placement.{Placement}
use Rattle.placement_rules.specs.Ring.{Places, nowhere, placed}
use Rattle.placement_rules.specs.Placing.{sixteen, checked, placement_says, tightest_beside, places_of, gap_of, Gives}
use Rattle.placement_rules.proofs.Checking.{row_passes, accepted_says, at_chroma}
use Rattle.pair_rules.specs.Rows.{largest}
use Rattle.pair_rules.specs.Pair.{none, found, placed_at, some, placeable, best_over}
use Rattle.pair_rules.proofs.Rows.{largest_up_to}
use Rattle.pair.specs.declared.Bracket.{Bracket}
use Rattle.pair.specs.Inner.{Ready, There, Tried, Stands, Moved, Turned, IsBest}

-- ---- what is placed at a chroma at which placement takes the row
module _ (k step : ℕ) (row : List Float) (room : ℕ) (c : Float) (fine : checked k step c row room pass ≡ pass) where
  accepted : placement_says k step c row room ≡ value (sixteen (placed_at k step row c))
  unfolding placed_at
  accepted = accepted_says k step c row room fine

  -- by what is handed back, which is no refusal
  pub tried : (r : Option Placement) → Gives (length row) k (Ok r) (placement_says k step c row room) → Tried k step row c r
  unfolding placeable
  tried r g = go r (placed_at k step row c) refl (g.says ∙ accepted) g.tightest_is
    where
      go : (r : Option Placement) (p : Places) → placed_at k step row c ≡ p → value (places_of r) ≡ value (sixteen p) → gap_of r ≡ tightest_beside (length row) k (placement_says k step c row room) → Tried k step row c r
      go (Some q) (placed is) e v t =
          let beside = ap sixteen e ∙ same_value (sixteen (placed is)) (placed q.hues) (sym v) in
          record { passes = ap some e; beside = beside; tightest_is = t ∙ ap (tightest_beside (length row) k) (accepted ∙ ap value beside) }
      go (Some q) nowhere e v t = cc
      go None (placed is) e v t = cc
      go None nowhere e v t = ap some e

  pub not_refused : (r : Result (Option Placement) Refusal) → Gives (length row) k r (placement_says k step c row room) → IsOk r
  not_refused (Ok r) g = search rules
  not_refused (Err w) g = absurd (said_twice accepted (sym g.says))

-- ---- one round
module _ {k step : ℕ} {row : List Float} {room : ℕ} {at : Bracket} (s : Stands k step row room at) {mid : Float} (is : mid ≡ midpoint at.lo at.hi) where
  pub mid_met : Met mid
  mid_met = rw is (midpoint_met s.low s.high)

  -- placement takes the row there too
  pub mid_fine : checked k step mid row room pass ≡ pass
  unfolding chroma_taken
  mid_fine = at_chroma k step at.lo row room mid (up_to_taken 200 mid (omega arith) mid_met.up_to_lem) s.fine

  -- the midpoint is the lower end
  pub at_low : to_bits binary32 mid ≡ to_bits binary32 at.lo → Turned k step row at None
  at_low b n = stays_low (placeable k step row) n at.lo at.hi (sym is ∙ same_pattern mid_met s.low b) s.there.passes

  -- hues are placed at the midpoint
  pub up : (q : Placement) → There k step row mid q → Moved k step row at (record at { lo = mid; placed = q })
  up q t = record { there = t; low = mid_met; high = s.high; onward = λ (n : ℕ). rw is (halve_up (placeable k step row) n at.lo at.hi (ap (placeable k step row) (sym is) ∙ t.passes)) }

  -- none are, and the midpoint is the upper end
  pub at_high : placeable k step row mid ≡ false → to_bits binary32 mid ≡ to_bits binary32 at.hi → Turned k step row at None
  at_high f b n = let m = same_pattern mid_met s.high b in stays_high (placeable k step row) n at.lo at.hi (sym is ∙ m) (ap (placeable k step row) (sym m) ∙ f)

  -- none are
  pub down : placeable k step row mid ≡ false → Moved k step row at (record at { hi = mid })
  down f = record { there = s.there; low = s.low; high = mid_met; onward = λ (n : ℕ). rw is (halve_down (placeable k step row) n at.lo at.hi (ap (placeable k step row) (sym is) ∙ f)) }

-- ---- after i rounds
pub record Climbed (k step : ℕ) (row : List Float) (room : ℕ) (floor most : Float) (at : Bracket) (i : ℕ) : Type 0 where
  pub stands : Stands k step row room at
  pub rest : halve (placeable k step row) (30 - i) at.lo at.hi ≡ halve (placeable k step row) 30 floor most

module _ {k step : ℕ} {row : List Float} {room : ℕ} {floor most : Float} (ready : Ready k step floor most row room) where
  -- the ends at the beginning
  pub floor_met : F32 floor → Met floor
  unfolding chroma_taken
  floor_met u = record { up_to_lem = taken_up_to 200 floor (omega arith) (row_passes k step floor row room ready.fine).1; f32 = u }

  pub most_met : F32 most → Met most
  most_met u = record { up_to_lem = rw ready.top (largest_up_to row (row_passes k step floor row room ready.fine).4); f32 = u }

  pub begin : (p : Placement) → Met floor → Met most → There k step row floor p → Climbed k step row room floor most (record { lo = floor; hi = most; placed = p }) 0
  begin p l h t = record { stands = record { fine = ready.fine; there = t; low = l; high = h }; rest = refl }

  module _ {at : Bracket} {i : ℕ} (s : Climbed k step row room floor most at i) where
    -- one round on
    pub onward : (next : Bracket) → i < 30 → Moved k step row at next → Climbed k step row room floor most next (i + 1)
    unfolding chroma_taken
    onward next h t = record {
      stands = record {
        fine = at_chroma k step at.lo row room next.lo (up_to_taken 200 next.lo (omega arith) t.low.up_to_lem) s.stands.fine;
        there = t.there;
        low = t.low;
        high = t.high;
      };
      rest = let e : 30 - i ≡ suc (30 - (i + 1)) = omega arith in sym (t.onward (30 - (i + 1))) ∙ ap (λ (n : ℕ). halve (placeable k step row) n at.lo at.hi) (sym e) ∙ s.rest;
    }

    -- the best is reached where the rounds that are left end at the lower end
    reached : placeable k step row floor ≡ true → halve (placeable k step row) (30 - i) at.lo at.hi ≡ at.lo → best_over k step floor row ≡ found at.lo at.placed.hues
    unfolding best_over
    reached started e =
        let a : lt (largest row) floor ≡ false = ap (λ (x : Float). lt x floor) (sym ready.top) ∙ ready.above in
        let c : halve (placeable k step row) 30 floor (largest row) ≡ at.lo = ap (halve (placeable k step row) 30 floor) (sym ready.top) ∙ sym s.rest ∙ e in
        rw (a, started, c, s.stands.there.beside)

    -- those that are left change nothing, or none are left
    pub settled : placeable k step row floor ≡ true → Turned k step row at None → best_over k step floor row ≡ found at.lo at.placed.hues
    settled started same = reached started (same (30 - i))

    pub at_last : placeable k step row floor ≡ true → 30 ≤ i → best_over k step floor row ≡ found at.lo at.placed.hues
    unfolding halve halved
    at_last started h = let z : 30 - i ≡ 0 = omega arith in reached started (ap (λ (n : ℕ). halve (placeable k step row) n at.lo at.hi) z)

-- ---- nothing is placed at the floor, or the floor is above every value
module _ (k step : ℕ) (floor : Float) (row : List Float) where
  none_best : best_over k step floor row ≡ none → IsBest k step floor row None
  none_best e = record { says = sym (ap value e); tightest_is = rw e refl }

  either_way : (b : Bool) → cond b none none ≡ none
  either_way true = refl
  either_way false = refl

  pub none_there : placeable k step row floor ≡ false → IsBest k step floor row None
  unfolding best_over
  none_there f = none_best (rw f (either_way (lt (largest row) floor)))

  pub too_high : lt (largest row) floor ≡ true → IsBest k step floor row None
  unfolding best_over
  too_high t = none_best (rw t)
