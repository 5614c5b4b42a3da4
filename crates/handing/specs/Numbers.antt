-- What a call on rows and rings hands to a caller in another language: one number, and what is written. Definitions only.
use Rattle.std.specs.Prelude.{ℕ, List, [], ◌∷◌, Float}
use Rattle.limits.specs.Answers.{Said, value, refused}
use Rattle.placement_rules.specs.Ring.{Places, nowhere, placed}
use Rattle.placement_rules.specs.Placing.{hues_beside}
use Rattle.pair_rules.specs.Pair as pair
use Rattle.pair_rules.specs.Pair.{Best, none, found}

-- 0 where the call is accepted, else document 01's number of the refusal
abbrev pub number_of : {A : Type 0} → Said A → ℕ
number_of (value v) = 0
number_of (refused n) = n

-- 0 where hues are placed, 255 where there is no placement, else document 01's number of the refusal
abbrev pub place_number : Said Places → ℕ
place_number (value (placed is)) = 0
place_number (value nowhere) = 255
place_number (refused n) = n

-- the sixteen hues after a call that found these: written where it is accepted
abbrev pub hues_after : Said Places → List ℕ → List ℕ
hues_after (value p) hues = hues_beside (value p)
hues_after (refused n) hues = hues

-- the one number after a call that says this and has this smallest gap: written where it is accepted
abbrev pub gap_after : {A : Type 0} → Said A → ℕ → List ℕ → List ℕ
gap_after (value v) t old = t ∷ []
gap_after (refused n) t old = old

-- 0 where a chroma is found, 255 where there is none, else the number of the refusal
abbrev pub best_number : Said Best → ℕ
best_number (value (found c hues)) = 0
best_number (value none) = 255
best_number (refused n) = n

-- the sixteen hues after a call that found this: written where it is accepted
abbrev pub best_hues : Said Best → List ℕ → List ℕ
best_hues (value best) hues = pair.hues_beside (value best)
best_hues (refused n) hues = hues

-- the one chroma after it: written where it is found
abbrev pub best_chroma : Said Best → List Float → List Float
best_chroma (value (found c hues)) chroma = c ∷ []
best_chroma (value none) chroma = chroma
best_chroma (refused n) chroma = chroma
