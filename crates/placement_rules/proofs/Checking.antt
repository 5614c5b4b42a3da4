-- What the checks of a placement's arguments say of them where they pass: for a ring, by what 4 and 7 find, and over one row. Assumes nothing.
use mathlib.Core.Path.{◌≡◌}
use mathlib.Core.Bool.{Bool, true, ◌&&◌}
use mathlib.Core.List.{List, [], ◌∷◌}
use Prim.Native.Nat.{ℕ}
use lib.Dec.{leb}
use lib.Ieee.{Float}
use lib.ListN.{length}
use Rattle.limits.specs.Answers.{value, pass}
use Rattle.limits.specs.Taken.{hue_count_taken, chroma_taken, entry_taken, every}
use Rattle.limits.proofs.Checks.{Check, check, all_pass, said}
use Rattle.placement_rules.specs.Ring.{placement}
use Rattle.placement_rules.specs.Placing.{allowed_at, sixteen, work_needed, checked_ring, checked, placement_says}

-- ---- for a ring, by what 4 and 7 find
module _ (k step : ℕ) (c : Float) (n : ℕ) (lengths entries : Bool) (room : ℕ) where
  -- its checks in the order of their numbers
  abbrev pub checks : List Check
  checks = check (hue_count_taken k) 1 ∷ check (chroma_taken c) 3 ∷ check lengths 4 ∷ check (leb 1 step && leb step n) 5 ∷ check entries 7 ∷ check (leb (work_needed n) room) 8 ∷ []

  pub ring_passes : checked_ring k step c n lengths entries room pass ≡ pass → (hue_count_taken k ≡ true) × (chroma_taken c ≡ true) × (lengths ≡ true) × ((leb 1 step && leb step n) ≡ true) × (entries ≡ true) × (leb (work_needed n) room ≡ true)
  ring_passes h = let t = (all_pass checks pass tt h).0 in (t.0, t.1.0, t.1.1.0, t.1.1.1.0, t.1.1.1.1.0, t.1.1.1.1.1.0)

  -- at another chroma that is taken
  pub ring_at_chroma : (d : Float) → chroma_taken d ≡ true → checked_ring k step c n lengths entries room pass ≡ pass → checked_ring k step d n lengths entries room pass ≡ pass
  ring_at_chroma d u h = let t = ring_passes h in rw (t.0, u, t.2, t.3, t.4, t.5)

-- ---- over one row
module _ (k step : ℕ) (c : Float) (row : List Float) (room : ℕ) where
  abbrev short : Bool
  short = leb 1 (length row) && leb (length row) 720

  abbrev pub row_checks : List Check
  row_checks = checks k step c (length row) short (every entry_taken row) room

  pub row_passes : checked k step c row room pass ≡ pass → (hue_count_taken k ≡ true) × (chroma_taken c ≡ true) × (short ≡ true) × ((leb 1 step && leb step (length row)) ≡ true) × (every entry_taken row ≡ true) × (leb (work_needed (length row)) room ≡ true)
  unfolding checked
  row_passes h = ring_passes k step c (length row) short (every entry_taken row) room h

  pub at_chroma : (d : Float) → chroma_taken d ≡ true → checked k step c row room pass ≡ pass → checked k step d row room pass ≡ pass
  unfolding checked
  at_chroma d u h = ring_at_chroma k step c (length row) short (every entry_taken row) room d u h

  pub accepted_says : checked k step c row room pass ≡ pass → placement_says k step c row room ≡ value (sixteen (placement (allowed_at row c) (length row) k step))
  unfolding placement_says checked
  accepted_says h = said row_checks (value (sixteen (placement (allowed_at row c) (length row) k step))) (all_pass row_checks pass tt h).0
