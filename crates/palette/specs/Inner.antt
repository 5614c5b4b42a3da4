-- What the private functions of this crate ask and promise among themselves. Nothing here is a promise to a caller. Definitions only.
use Rattle.std.specs.Prelude.{◌≡◌, true, List, ℕ, ◌+◌, ◌≤◌, ◌<◌, Float, length, get_or}
use Rattle.std.specs.Float.{nan}
use Rattle.limits.specs.Taken.{hue_count_taken}
use Rattle.srgb.specs.declared.Srgb8.{Srgb8}
use Rattle.palette_checks.specs.declared.Design.{Design}
use Rattle.palette_checks.specs.Designs.{levels_taken, hues_taken}
use Rattle.palette.specs.Derivation.{black, colors_of}

-- a design that is taken, whose array of hues has sixteen places
pub record Ready (d : Design) : Type 0 where
  pub hue_count : hue_count_taken d.k ≡ true
  pub levels : levels_taken d ≡ true
  pub hues : hues_taken d.k d.hues ≡ true
  pub sixteen : length d.hues ≡ 16

-- the first n numbers are what f gives of the first n colours
abbrev pub Filled : (Srgb8 → Float) → ℕ → List Srgb8 → List Float → Type 0
Filled f n colors values = (p : ℕ) → p < n → get_or values p nan ≡ f (get_or colors p black)

-- and there are as many of either
pub record Measured (f : Srgb8 → Float) (n : ℕ) (colors : List Srgb8) (values : List Float) : Type 0 where
  pub filled : Filled f n colors values
  pub long : n ≤ length values
  pub wide : n ≤ length colors

-- how the place of a colour among the 2k is given
abbrev pub Placed : Design → ℕ → Type 0
Placed d i = i < d.k + d.k

-- the colour in place i
abbrev pub color_at : Design → Float → List Float → List Float → ℕ → Srgb8
color_at d c cs ss i = get_or (colors_of d c cs ss) i black
