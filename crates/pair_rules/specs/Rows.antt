-- Document 01, "One pair": "Each hue's value is the lesser of the two rows.", over a list of rows, of which a pair is the case of two; the largest value of a row;
-- and the least of the rows' entries at some hues. Definitions only.
use Rattle.std.specs.Prelude.{ℕ, zero, suc, cond, List, [], ◌∷◌, map, Float, false, length, get_or}
use Rattle.std.specs.Float.{nan, inf}
use Rattle.std.specs.Float.Ieee.{lt}
use Rattle.limits.specs.Taken.{f32_of}

-- the lesser of two numbers, and the greater
unfoldable pub lesser : Float → Float → Float
lesser x y = cond (lt y x) y x

unfoldable pub greater : Float → Float → Float
greater x y = cond (lt x y) y x

-- the least of some numbers; of none, plus infinity
unfoldable pub least : List Float → Float
least [] = inf false
least (x ∷ xs) = lesser x (least xs)

-- the value of hue i: the least of the rows' entries there
unfoldable pub value_at : List (List Float) → ℕ → Float
value_at rows i = least (map (λ row. get_or row i nan) rows)

-- f at the n numbers from i on
unfoldable pub each : (ℕ → Float) → ℕ → ℕ → List Float
each f zero i = []
each f (suc n) i = f i ∷ each f n (suc i)

-- the length of the ring: that of the first row
abbrev pub ring_length : List (List Float) → ℕ
ring_length [] = 0
ring_length (row ∷ rows) = length row

-- the row of least values
unfoldable pub least_row : List (List Float) → List Float
least_row rows = each (value_at rows) (ring_length rows) 0

-- the largest of `so` and the values after it, in their order
unfoldable pub largest_from : Float → List Float → Float
largest_from so [] = so
largest_from so (x ∷ xs) = largest_from (greater so x) xs

-- "the largest" of values none of which is below 0
unfoldable pub largest : List Float → Float
largest xs = largest_from (f32_of 0) xs

-- the common chroma of some hues: the least of the rows' entries at them
unfoldable pub common : List (List Float) → List ℕ → Float
common rows hues = least (map (value_at rows) hues)
