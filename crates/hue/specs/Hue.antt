-- Document 01's stand-in for `atan2`: x(j) = cos(j) × b - sin(j) × a; the first j with x(j) ≥ 0 and x(j+1) < 0, 720 counting as 0;
-- with y = -x(j+1) the hue is 0.5 × (j + x / (x + y)); no such j gives 0. Definitions only.
use Rattle.std.specs.Prelude.{ℕ, zero, suc, ◌+◌, ◌%◌, Bool, false, ◌&&◌, cond, List, [], ◌∷◌, leb, Float, get_or}
use Rattle.std.specs.Float.{nan, binary32}
use Rattle.std.specs.Float.Ieee.{round, add, sub, mul, div, neg, lt, le}
use Rattle.limits.specs.Answers.{Said, value, refused}
use Rattle.limits.specs.Taken.{f32_of, directions_taken, hue_operand_taken}
use Rattle.srgb.specs.declared.Srgb8.{Srgb8}
use Rattle.color.specs.Color.{srgb8_to_lab}

-- x(j)
unfoldable pub side_at : List Float → List Float → Float → Float → ℕ → Float
side_at cs ss a b j = sub binary32 (mul binary32 (get_or cs j nan) b) (mul binary32 (get_or ss j nan) a)

-- the direction after j, 720 counting as 0
abbrev pub after_of : ℕ → ℕ
after_of j = (j + 1) % 720

-- x(j) ≥ 0 and x(j+1) < 0
unfoldable pub changes : Float → Float → Bool
changes x next = le (f32_of 0) x && lt next (f32_of 0)

-- so at direction j
unfoldable pub crosses : List Float → List Float → Float → Float → ℕ → Bool
crosses cs ss a b j = changes (side_at cs ss a b j) (side_at cs ss a b (after_of j))

-- 0.5 × (j + x / (x + y))
unfoldable pub hue_at : List Float → List Float → Float → Float → ℕ → Float
hue_at cs ss a b j =
    let x = side_at cs ss a b j in
    let y = neg (side_at cs ss a b (after_of j)) in
    mul binary32 (round binary32 false 1 2) (add binary32 (f32_of j) (div binary32 x (add binary32 x y)))

-- the hue at the first such j of the n from j on, and 0 if there is none
unfoldable pub hue_from : List Float → List Float → Float → Float → ℕ → ℕ → Float
hue_from cs ss a b zero j = f32_of 0
hue_from cs ss a b (suc n) j =
    let later = hue_from cs ss a b n (suc j) in
    cond (crosses cs ss a b j) (hue_at cs ss a b j) later

-- among all 720
unfoldable pub hue_of : List Float → List Float → Float → Float → Float
hue_of cs ss a b = hue_from cs ss a b 720 0

-- refusals 9, then 16
unfoldable pub hue_says : List Float → List Float → Float → Float → Said Float
hue_says cs ss a b = cond (directions_taken cs ss) (cond (hue_operand_taken a && hue_operand_taken b) (value (hue_of cs ss a b)) (refused 16)) (refused 9)

-- ---- the hues of 8-bit colours
-- "So every colour has a hue."
unfoldable pub color_hue : List Float → List Float → Srgb8 → Float
color_hue cs ss c = hue_of cs ss (srgb8_to_lab c).a (srgb8_to_lab c).b

-- those of the first n colours, and 0 for the others
unfoldable pub color_hues : List Float → List Float → ℕ → List Srgb8 → List Float
color_hues cs ss n [] = []
color_hues cs ss zero (c ∷ colors) = f32_of 0 ∷ color_hues cs ss zero colors
color_hues cs ss (suc n) (c ∷ colors) = color_hue cs ss c ∷ color_hues cs ss n colors

-- refusals 9, and 13 for a number beside 32 colours that is above 32; never 16
unfoldable pub hues_says : List Float → List Float → ℕ → List Srgb8 → Said (List Float)
hues_says cs ss n colors = cond (directions_taken cs ss) (cond (leb n 32) (value (color_hues cs ss n colors)) (refused 13)) (refused 9)
