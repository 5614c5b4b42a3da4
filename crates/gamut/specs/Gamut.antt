-- Document 01, "The job", table constants, and "Colour and the table": levels, `max_chroma`, and filling one row. Definitions only.
use Rattle.std.specs.Prelude.{ℕ, zero, suc, false, ◌&&◌, cond, List, [], ◌∷◌, leb, eqb, Float, length, get_or}
use Rattle.std.specs.Float.{nan, binary32}
use Rattle.std.specs.Float.Ieee.{round, add, mul}
use Rattle.limits.specs.Answers.{Said, value, refused}
use Rattle.limits.specs.Taken.{f32_of, directions_taken}
use Rattle.halving.specs.Midpoint.{halve}
use Rattle.color.specs.Color.{lch_in_gamut}

-- level i is 12 + 0.5 × i
unfoldable pub level_of : ℕ → Float
level_of i = add binary32 (f32_of 12) (mul binary32 (f32_of i) (round binary32 false 1 2))

-- `max_chroma`: 200 if in gamut there, else 40 halvings from 0 to 200
unfoldable pub max_chroma : Float → Float → Float → Float
max_chroma l cos sin =
    let found = halve (lch_in_gamut l cos sin) 40 (f32_of 0) (f32_of 200) in
    cond (lch_in_gamut l cos sin (f32_of 200)) (f32_of 200) found

-- the entries of n hues from j on, at lightness l
unfoldable pub entries_from : Float → List Float → List Float → ℕ → ℕ → List Float
entries_from l cs ss zero j = []
entries_from l cs ss (suc n) j = max_chroma l (get_or cs j nan) (get_or ss j nan) ∷ entries_from l cs ss n (suc j)

-- the row at lightness l: what `max_chroma` gives in each of the 720 directions
unfoldable pub row_of : Float → List Float → List Float → List Float
row_of l cs ss = entries_from l cs ss 720 0

-- refusals 9, 10, 11, the lowest that applies
unfoldable pub fill_says : ℕ → List Float → List Float → List Float → Said (Unit {0})
fill_says level cs ss row =
    cond (directions_taken cs ss) (cond (eqb (length row) 720) (cond (leb level 168) (value tt) (refused 11)) (refused 10)) (refused 9)

-- the row after the call: filled where it is accepted, as it was where it is refused
unfoldable pub row_after : ℕ → List Float → List Float → List Float → List Float
row_after level cs ss row = cond (directions_taken cs ss && (eqb (length row) 720 && leb level 168)) (row_of (level_of level) cs ss) row
