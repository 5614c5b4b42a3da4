-- Document 01, "One pair", as a call: "If the largest is below the floor, or placement fails at the floor, the answer is none. Otherwise lo = floor, hi = largest, then
-- 30 halvings: mid = 0.5 × (lo + hi), each operation rounded once; placement at mid moves lo, else hi. The answer is the last chroma placed, with its hues."
-- The last chroma placed is where lo stands at the end. Definitions only.
use Rattle.std.specs.Prelude.{◌≡◌, ℕ, Bool, true, false, ◌&&◌, cond, List, [], ◌∷◌, leb, eqb, Float, length, take, replicate, Option, Some, None, Result, Ok, Err}
use Rattle.std.specs.Float.Ieee.{lt}
use Rattle.limits.specs.Answers.{Said, value, refused}
use Rattle.limits.specs.Refusals.{number}
use Rattle.limits.specs.declared.Refusal.{Refusal}
use Rattle.limits.specs.Taken.{entry_taken, every}
use Rattle.halving.specs.Midpoint.{halve}
use Rattle.placement_rules.specs.Ring.{Places, nowhere, placed, placement}
use Rattle.placement_rules.specs.Gaps.{tightest}
use Rattle.placement_rules.specs.Placing.{allowed_at, sixteen, checked_ring}
use Rattle.pair_rules.specs.declared.Chosen.{Chosen}
use Rattle.pair_rules.specs.Rows.{ring_length, least_row, largest}

-- none, or a chroma with sixteen hues
pub data Best : Type 0 where
  none : Best
  found : Float → List ℕ → Best

-- what is placed on a row at a chroma, and whether anything is
unfoldable pub placed_at : ℕ → ℕ → List Float → Float → Places
placed_at k step row c = placement (allowed_at row c) (length row) k step

abbrev pub some : Places → Bool
some nowhere = false
some (placed is) = true

unfoldable pub placeable : ℕ → ℕ → List Float → Float → Bool
placeable k step row c = some (placed_at k step row c)

-- a chroma with the hues that are placed at it
abbrev pub with_hues : Float → Places → Best
with_hues c nowhere = none
with_hues c (placed is) = found c is

-- the best over a row of values, from a floor
unfoldable pub best_over : ℕ → ℕ → Float → List Float → Best
best_over k step floor row =
    let c = halve (placeable k step row) 30 floor (largest row) in
    let best = with_hues c (sixteen (placed_at k step row c)) in
    cond (lt (largest row) floor) none (cond (placeable k step row floor) best none)

-- number 4: rows of unequal length, or a ring length not 1 to 720
unfoldable pub alike : ℕ → List (List Float) → Bool
alike n [] = true
alike n (row ∷ rows) = eqb (length row) n && alike n rows

unfoldable pub lengths_taken : List (List Float) → Bool
lengths_taken rows = alike (ring_length rows) rows && (leb 1 (ring_length rows) && leb (ring_length rows) 720)

-- number 7: each entry of each row
unfoldable pub entries_taken : List (List Float) → Bool
entries_taken [] = true
entries_taken (row ∷ rows) = every entry_taken row && entries_taken rows

-- "Placement checks 1, 3, 4, 5, 7, 8 and reads every entry; a pair the same with its floor as the chroma"
unfoldable pub rows_checked : {A : Type 0} → ℕ → ℕ → Float → List (List Float) → ℕ → Said A → Said A
rows_checked k step floor rows room good = checked_ring k step floor (ring_length rows) (lengths_taken rows) (entries_taken rows) room good

-- what the best over some rows is said to be
unfoldable pub rows_say : ℕ → ℕ → Float → List (List Float) → ℕ → Said Best
rows_say k step floor rows room = rows_checked k step floor rows room (value (best_over k step floor (least_row rows)))

-- a pair: two rows
abbrev pub pair_says : ℕ → ℕ → Float → List Float → List Float → ℕ → Said Best
pair_says k step floor a b room = rows_say k step floor (a ∷ b ∷ []) room

-- the sixteen hues beside an answer: all zero where it is none or a refusal
abbrev pub hues_beside : Said Best → List ℕ
hues_beside (value none) = replicate 16 0
hues_beside (value (found c hues)) = hues
hues_beside (refused n) = replicate 16 0

-- Req 07: the smallest gap of the k hues beside the last chroma placed, on a ring of n; 0 where it is none or a refusal
abbrev pub tightest_beside : ℕ → ℕ → Said Best → ℕ
tightest_beside n k (value none) = 0
tightest_beside n k (value (found c hues)) = tightest n (take k hues)
tightest_beside n k (refused w) = 0

-- what a call hands back: a chroma with its hues, or none, or the number of a refusal
abbrev pub chosen_said : Result (Option Chosen) Refusal → Said Best
chosen_said (Ok (Some c)) = value (found c.chroma c.hues)
chosen_said (Ok None) = value none
chosen_said (Err w) = refused (number w)

-- the smallest gap that it hands back; 0 where it has no hues
abbrev pub tightest_of : Result (Option Chosen) Refusal → ℕ
tightest_of (Ok (Some c)) = c.tightest
tightest_of (Ok None) = 0
tightest_of (Err w) = 0

-- what a call hands back says this, with the smallest gap of k hues on a ring of n
pub record Gives (n k : ℕ) (r : Result (Option Chosen) Refusal) (said : Said Best) : Type 0 where
  pub says : chosen_said r ≡ said
  pub tightest_is : tightest_of r ≡ tightest_beside n k said
