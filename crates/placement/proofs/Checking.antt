-- What a call says by what the check of its arguments found: all pass, or the first that fails. Assumes nothing.
use mathlib.Core.Path.{◌≡◌, sym, ap, ◌∙◌, subst}
use mathlib.Core.List.{List}
use Prim.Native.Nat.{ℕ, ◌≤◌}
use lib.Dec.{leb}
use lib.Ieee.{Float}
use lib.ListN.{length}
use borrow.Author.Tests.{leb-true}
use Rattle.limits.specs.Answers.{value, refused, pass, Untouched}
use Rattle.limits.specs.Refusals.{number, said}
use Rattle.limits.specs.declared.Refusal.{Refusal}
use Rattle.std.specs.Prelude.{Option, Result, Ok, Err}
use Rattle.limits.proofs.Checks.{wrong, said_twice}
use Rattle.placement_rules.specs.declared.Placement.{Placement}
use Rattle.limits.proofs.HueCount.{both, hue_count}
use Rattle.placement_rules.specs.Ring.{placement}
use Rattle.placement_rules.specs.Placing.{allowed_at, sixteen, work_needed, checked, placement_says, Hands, Gives}
use Rattle.placement_rules.proofs.Checking.{row_checks, row_passes, accepted_says}
use Rattle.placement.specs.Inner.{Asked}
use Rattle.placement.proofs.Placing.{given}

module _ (k step : ℕ) (c : Float) (row : List Float) (room : ℕ) where
  pub passed : (r : Result (Unit {0}) Refusal) → r ≡ Ok tt → said r ≡ checked k step c row room pass → checked k step c row room pass ≡ pass
  passed r f h = sym h ∙ ap said f

  pub asked : checked k step c row room pass ≡ pass → Asked row k step × (work_needed (length row) ≤ room)
  asked h =
      let t = row_passes k step c row room h in
      let a = hue_count k t.0 in
      let n = both (leb 1 (length row)) (leb (length row) 720) t.2 in
      let s = both (leb 1 step) (leb step (length row)) t.3 in
      (record { some_hue = a.0; few_hues = a.1; some_step = leb-true 1 step s.0; within = leb-true step (length row) s.1; short = leb-true (length row) 720 n.1 }, leb-true (work_needed (length row)) room t.5)

  -- a call whose check is passed, and one whose check is failed
  pub placing : (r : Result (Unit {0}) Refusal) → r ≡ Ok tt → said r ≡ checked k step c row room pass → placement_says k step c row room ≡ value (sixteen (placement (allowed_at row c) (length row) k step))
  placing r f h = accepted_says k step c row room (passed r f h)

  pub refusing : (r : Result (Unit {0}) Refusal) (w : Refusal) → r ≡ Err w → said r ≡ checked k step c row room pass → placement_says k step c row room ≡ refused (number w)
  unfolding placement_says checked
  refusing r w f h = wrong (row_checks k step c row room) r h (value (sixteen (placement (allowed_at row c) (length row) k step))) w f

  -- what is handed back behind a check that is passed, and that of the work buffer nothing is said then
  pub handing : (r : Result (Unit {0}) Refusal) → r ≡ Ok tt → said r ≡ checked k step c row room pass → {found : Option Placement} → Hands (length row) k found (sixteen (placement (allowed_at row c) (length row) k step))
      → Gives (length row) k (Ok found) (placement_says k step c row room)
  handing r f h {found} g = subst (Gives (length row) k (Ok found)) (sym (placing r f h)) (given g)

  pub leaving : (r : Result (Unit {0}) Refusal) → r ≡ Ok tt → said r ≡ checked k step c row room pass → {before after : List ℕ} → Untouched (placement_says k step c row room) before after
  leaving r f h w again = said_twice (placing r f h) again
