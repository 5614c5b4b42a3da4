-- The constants of document 01, "Colour": each is the f32 nearest to its digits. CIE's are nearest to their fractions. Definitions only.
use Rattle.std.specs.Prelude.{ℕ, ◌^◌, true, false, List, [], ◌∷◌, Float, get_or}
use Rattle.std.specs.Float.{binary32}
use Rattle.std.specs.Float.Ieee.{round}
use Rattle.limits.specs.Taken.{f32_of}

-- matrix rows, XYZ from linear
unfoldable pub to_xyz : List (List Float)
to_xyz =
    (round binary32 false 4124564 (10 ^ 7) ∷ round binary32 false 3575761 (10 ^ 7) ∷ round binary32 false 1804375 (10 ^ 7) ∷ [])
    ∷ (round binary32 false 2126729 (10 ^ 7) ∷ round binary32 false 7151522 (10 ^ 7) ∷ round binary32 false 721750 (10 ^ 7) ∷ [])
    ∷ (round binary32 false 193339 (10 ^ 7) ∷ round binary32 false 119192 (10 ^ 6) ∷ round binary32 false 9503041 (10 ^ 7) ∷ [])
    ∷ []

-- and back
unfoldable pub from_xyz : List (List Float)
from_xyz =
    (round binary32 false 32404542 (10 ^ 7) ∷ round binary32 true 15371385 (10 ^ 7) ∷ round binary32 true 4985314 (10 ^ 7) ∷ [])
    ∷ (round binary32 true 969266 (10 ^ 6) ∷ round binary32 false 18760108 (10 ^ 7) ∷ round binary32 false 415560 (10 ^ 7) ∷ [])
    ∷ (round binary32 false 556434 (10 ^ 7) ∷ round binary32 true 2040259 (10 ^ 7) ∷ round binary32 false 10572252 (10 ^ 7) ∷ [])
    ∷ []

-- the row i of a matrix
abbrev pub row : List (List Float) → ℕ → List Float
row m i = get_or m i []

-- the white point
unfoldable pub white : List Float
white = round binary32 false 95047 (10 ^ 5) ∷ f32_of 1 ∷ round binary32 false 108883 (10 ^ 5) ∷ []

-- CIE 15: (6/29) ^ 3
unfoldable pub delta_cubed : Float
delta_cubed = round binary32 false 216 24389

-- 841/108
unfoldable pub slope : Float
slope = round binary32 false 841 108

-- 4/29
unfoldable pub offset : Float
offset = round binary32 false 4 29

-- 6/29
unfoldable pub delta : Float
delta = round binary32 false 6 29
