-- Document 01, "Palette": derivation. Definitions only.
use Rattle.std.specs.Prelude.{ℕ, ◌+◌, ◌-◌, List, [], ◌∷◌, ◌++◌, Float, get_or, take, replicate}
use Rattle.std.specs.Float.{nan}
use Rattle.limits.specs.Answers.{Said, value}
use Rattle.srgb.specs.declared.Srgb8.{Srgb8}
use Rattle.clipping.specs.Clip.{clipped_of}
use Rattle.gamut.specs.Gamut.{level_of}
use Rattle.palette_checks.specs.declared.Design.{Design}
use Rattle.palette_checks.specs.Designs.{design_checked}

-- ---- colours
abbrev pub black : Srgb8
black = record { r = 0; g = 0; b = 0 }

-- one colour: `lch_to_srgb8_gamut_clipped`, 24 halvings, in direction j
unfoldable pub shown : Float → Float → List Float → List Float → ℕ → Srgb8
shown l c cs ss j = (clipped_of l c (get_or cs j nan) (get_or ss j nan)).color

-- the colours of one level, in the order of its hues
unfoldable pub level_colors : Float → Float → List Float → List Float → List ℕ → List Srgb8
level_colors l c cs ss [] = []
level_colors l c cs ss (j ∷ js) = shown l c cs ss j ∷ level_colors l c cs ss js

-- "for dark hues then light hues; 2k colours, zeros up to 32"
unfoldable pub colors_of : Design → Float → List Float → List Float → List Srgb8
colors_of d c cs ss =
    level_colors (level_of d.dark) c cs ss (take d.k d.hues)
    ++ (level_colors (level_of d.light) c cs ss (take d.k d.hues) ++ replicate (32 - (d.k + d.k)) black)

unfoldable pub derivation_says : Design → Float → List Float → List Float → Said (List Srgb8)
derivation_says d c cs ss = design_checked d c cs ss (value (colors_of d c cs ss))
