-- Document 01's marked cases: R1 to R8, P1, P2 and S1 to S4, as rows of one list. Definitions only.
use Rattle.std.specs.Prelude.{◌≡◌, List, [], ◌∷◌, ◌++◌, map, false, ℕ, ◌-◌, ◌^◌, Float, length, replicate}
use Rattle.std.specs.Float.{binary32}
use Rattle.std.specs.Float.Ieee.{round, add}
use Rattle.limits.specs.Answers.{value}
use Rattle.limits.specs.Taken.{f32_of}
use Rattle.placement_rules.specs.Ring.{Places, nowhere, placed}
use Rattle.placement_rules.specs.Placing.{placement_says, step_says, work_needed}
use Rattle.pair_rules.specs.Pair.{found, pair_says}

-- a ring with its entries, k, step and chroma, and what is placed; or the one entry of both rows, k, step and floor, and the chroma found; or a k and its step
pub data Marked : Type 0 where
  ring : List ℕ → ℕ → ℕ → ℕ → Places → Marked
  pair : Float → ℕ → ℕ → ℕ → ℕ → Marked
  step : ℕ → ℕ → Marked

-- "Hues come back as 16 indices, zeros after the first k."
abbrev pub padded : Places → Places
padded nowhere = nowhere
padded (placed is) = placed (is ++ replicate (16 - length is) 0)

-- what the calls say is what the row says, with a work buffer that is just long enough
abbrev pub Agrees : Marked → Type 0
Agrees (ring entries k s c is) = placement_says k s (f32_of c) (map f32_of entries) (work_needed (length entries)) ≡ value (padded is)
Agrees (pair x k s floor c) = (hues : List ℕ) × (pair_says k s (f32_of floor) (replicate 720 x) (replicate 720 x) (work_needed 720) ≡ value (found (f32_of c) hues))
Agrees (step k s) = step_says k ≡ value s

-- "Marked cases, ring of 8, entries .."
abbrev eight : List ℕ
eight = 50 ∷ 10 ∷ 45 ∷ 20 ∷ 60 ∷ 30 ∷ 41 ∷ 12 ∷ []

-- P1 "both rows 720 entries of 50 ..: 50", P2 "the same with 50 + 2^-18: 50, one f32 step short"
abbrev pub P1 : Marked
P1 = pair (f32_of 50) 2 301 35 50

abbrev pub P2 : Marked
P2 = pair (add binary32 (f32_of 50) (round binary32 false 1 (2 ^ 18))) 2 301 35 50

-- R1 to R8, then P1 and P2, then S1 to S4
abbrev pub marked : List Marked
marked =
    ring eight 2 3 40 (placed (0 ∷ 4 ∷ []))
    ∷ ring eight 2 3 50 (placed (0 ∷ 4 ∷ []))
    ∷ ring eight 2 3 51 nowhere
    ∷ ring eight 1 8 40 (placed (0 ∷ []))
    ∷ ring eight 2 5 40 nowhere
    ∷ ring eight 4 2 40 (placed (0 ∷ 2 ∷ 4 ∷ 6 ∷ []))
    ∷ ring eight 3 2 40 (placed (0 ∷ 2 ∷ 4 ∷ []))
    ∷ ring (50 ∷ 50 ∷ 0 ∷ 0 ∷ 0 ∷ 50 ∷ 0 ∷ 0 ∷ []) 2 4 40 (placed (1 ∷ 5 ∷ []))
    ∷ P1
    ∷ P2
    ∷ step 1 601
    ∷ step 2 301
    ∷ step 7 87
    ∷ step 16 39
    ∷ []

-- each row of a list agrees
abbrev pub All : List Marked → Type 0
All [] = Unit
All (m ∷ ms) = Agrees m × All ms
