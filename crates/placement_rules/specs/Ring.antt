-- Document 01, "Hue ring": "From each allowed start, lowest first, take the earliest allowed index at least `step` further on, k-1 times, staying below
-- start + length. The closing gap back to the start must be ≥ step too. The first start that succeeds is handed out, indices reduced by the length, in that
-- order." Indices go on round the ring and are reduced at the end. Definitions only, over any test `ok` of an index.
use Rattle.std.specs.Prelude.{ℕ, zero, suc, ◌+◌, ◌-◌, ◌*◌, ◌%◌, Bool, cond, List, [], ◌∷◌, map, leb, ltb}

-- none, or the indices in the order in which they are taken
pub data Places : Type 0 where
  nowhere : Places
  placed : List ℕ → Places

-- i, and then what comes after it
abbrev pub before : ℕ → Places → Places
before i nowhere = nowhere
before i (placed is) = placed (i ∷ is)

-- the earliest allowed of the `far` indices from i on, and i + far if none is allowed
unfoldable pub earliest : (ℕ → Bool) → ℕ → ℕ → ℕ
earliest ok zero i = i
earliest ok (suc far) i =
    let later = earliest ok far (suc i) in
    cond (ok i) i later

-- `more` further indices after cur, each the earliest allowed at least step on, staying below stop; at the end the gap to stop is at least step
unfoldable pub onward : (ℕ → Bool) → ℕ → ℕ → ℕ → ℕ → Places
onward ok step stop zero cur = cond (leb step (stop - cur)) (placed []) nowhere
onward ok step stop (suc more) cur =
    let j = earliest ok (stop - (cur + step)) (cur + step) in
    let rest = onward ok step stop more j in
    cond (ltb j stop) (before j rest) nowhere

-- k indices from the start s on a ring of n, if s is allowed
unfoldable pub from_start : (ℕ → Bool) → ℕ → ℕ → ℕ → ℕ → Places
from_start ok n k step s =
    let rest = onward ok step (s + n) (k - 1) s in
    cond (ok s) (before s rest) nowhere

-- what the first start gives, or else the later ones
abbrev pub or_else : Places → Places → Places
or_else nowhere later = later
or_else (placed is) later = placed is

-- the first of the m starts from s on that succeeds
unfoldable pub first_from : (ℕ → Places) → ℕ → ℕ → Places
first_from try zero s = nowhere
first_from try (suc m) s =
    let later = first_from try m (suc s) in
    or_else (try s) later

-- each index reduced by the length
abbrev pub reduced : ℕ → Places → Places
reduced n nowhere = nowhere
reduced n (placed is) = placed (map (λ i. i % n) is)

-- k indices on a ring of n, any start
unfoldable pub placement : (ℕ → Bool) → ℕ → ℕ → ℕ → Places
placement ok n k step = reduced n (first_from (from_start ok n k step) n 0)
