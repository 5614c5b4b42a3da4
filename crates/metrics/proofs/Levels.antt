-- The last two metrics of one hue; and each metric of 2k colours, by the numbers of their two levels. Assumes nothing.
use mathlib.Core.Path.{◌≡◌, refl, ◌∙◌}
use mathlib.Core.Bool.{false}
use mathlib.Core.List.{List, map}
use Prim.Native.Nat.{ℕ, ◌≤◌}
use lib.Ieee.{Float, inf, binary32, sub}
use borrow.Author.Tests.{le-leb}
use Rattle.srgb.specs.declared.Srgb8.{Srgb8}
use Rattle.hue.specs.Hue.{color_hue}
use Rattle.pair_rules.specs.Rows.{greater}
use Rattle.metrics.specs.declared.Metrics.{Metrics}
use Rattle.metrics.specs.Metrics.{highest, lowest, greatest, least, lightness_of, chroma_in, darks, lights, gap_of, spread_in, spread_of, least_apart, separation_of, least_chroma, metrics_of}

-- "For k = 1 the last two metrics are plus infinity"
pub one_separation : (colors : List Srgb8) (cs ss : List Float) → separation_of 1 colors cs ss ≡ inf false
unfolding separation_of
one_separation colors cs ss = refl

pub one_chroma : (colors : List Srgb8) → least_chroma 1 colors ≡ inf false
unfolding least_chroma
one_chroma colors = refl

module _ (k : ℕ) (colors : List Srgb8) (dark light : List Float) where
  gap_is : dark ≡ map lightness_of (darks k colors) → light ≡ map lightness_of (lights k colors) → sub binary32 (least highest light) (greatest lowest dark) ≡ gap_of k colors
  unfolding gap_of
  gap_is d l = rw (d, l)

  spread_is : dark ≡ map lightness_of (darks k colors) → light ≡ map lightness_of (lights k colors) → greater (spread_in dark) (spread_in light) ≡ spread_of k colors
  unfolding spread_of
  spread_is d l = rw (d, l)

  -- all four, the last two as they are defined
  pub metrics_are : (cs ss : List Float) (gap spread separation chroma : Float) → dark ≡ map lightness_of (darks k colors) → light ≡ map lightness_of (lights k colors)
      → gap ≡ sub binary32 (least highest light) (greatest lowest dark) → spread ≡ greater (spread_in dark) (spread_in light) → separation ≡ separation_of k colors cs ss → chroma ≡ least_chroma k colors
      → ◌≡◌ {A = Metrics} (record { gap = gap; spread = spread; separation = separation; chroma = chroma }) (metrics_of k colors cs ss)
  unfolding metrics_of
  metrics_are cs ss gap spread separation chroma d l e f g h = rw (e ∙ gap_is d l, f ∙ spread_is d l, g, h)

  pub separation_is : (cs ss : List Float) → dark ≡ map (color_hue cs ss) (darks k colors) → light ≡ map (color_hue cs ss) (lights k colors) → 2 ≤ k → least_apart (least_apart (inf false) dark) light ≡ separation_of k colors cs ss
  unfolding separation_of
  separation_is cs ss d l h = rw (d, l, le-leb 2 k h)

  pub chroma_is : dark ≡ map chroma_in (darks k colors) → light ≡ map chroma_in (lights k colors) → 2 ≤ k → least (least (inf false) dark) light ≡ least_chroma k colors
  unfolding least_chroma
  chroma_is d l h = rw (d, l, le-leb 2 k h)
