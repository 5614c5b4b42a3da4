-- Document 01, "Palette": the four metrics of `validate`. "`f32::min` folds" are "plain comparisons", in the order of the Rust. Definitions only.
use Rattle.std.specs.Prelude.{ℕ, ◌*◌, ◌^◌, false, true, cond, List, [], ◌∷◌, map, leb, Float, take, drop}
use Rattle.std.specs.Float.{inf, binary32}
use Rattle.std.specs.Float.Ieee.{round, sub, neg, lt}
use Rattle.limits.specs.Taken.{f32_of}
use Rattle.srgb.specs.declared.Srgb8.{Srgb8}
use Rattle.color.specs.Color.{srgb8_to_lab, chroma_of}
use Rattle.hue.specs.Hue.{color_hue}
use Rattle.pair_rules.specs.Rows.{lesser, greater}
use Rattle.metrics.specs.declared.Metrics.{Metrics}

-- ---- folds
-- the greatest and the least finite f32, from which the Rust folds
unfoldable pub highest : Float
highest = round binary32 false (16777215 * 2 ^ 104) 1

unfoldable pub lowest : Float
lowest = round binary32 true (16777215 * 2 ^ 104) 1

-- plain comparisons, one after the other
unfoldable pub folded : (Float → Float → Float) → Float → List Float → Float
folded f so [] = so
folded f so (x ∷ xs) = folded f (f so x) xs

-- the greatest of `hi` and some numbers, and the least of `lo` and some numbers
abbrev pub greatest : Float → List Float → Float
greatest hi xs = folded greater hi xs

abbrev pub least : Float → List Float → Float
least lo xs = folded lesser lo xs

-- ---- what is measured of a colour
abbrev pub lightness_of : Srgb8 → Float
lightness_of c = (srgb8_to_lab c).l

abbrev pub chroma_in : Srgb8 → Float
chroma_in c = chroma_of (srgb8_to_lab c)

-- ---- the metrics
-- the colours of the dark and of the light level
abbrev pub darks : ℕ → List Srgb8 → List Srgb8
darks k colors = take k colors

abbrev pub lights : ℕ → List Srgb8 → List Srgb8
lights k colors = take k (drop k colors)

-- the least lightness of the light level less the greatest of the dark one
unfoldable pub gap_of : ℕ → List Srgb8 → Float
gap_of k colors = sub binary32 (least highest (map lightness_of (lights k colors))) (greatest lowest (map lightness_of (darks k colors)))

-- how far the lightness of one level ranges
unfoldable pub spread_in : List Float → Float
spread_in ls = sub binary32 (greatest lowest ls) (least highest ls)

-- the greater of both levels'
unfoldable pub spread_of : ℕ → List Srgb8 → Float
spread_of k colors = greater (spread_in (map lightness_of (darks k colors))) (spread_in (map lightness_of (lights k colors)))

-- without its sign
unfoldable pub absolute : Float → Float
absolute x = cond (lt x (f32_of 0)) (neg x) x

-- how far apart two hues are, round the shorter way
unfoldable pub apart : Float → Float → Float
apart a b = lesser (absolute (sub binary32 a b)) (sub binary32 (f32_of 360) (absolute (sub binary32 a b)))

-- the least of `lo` and the distances from one hue to others
abbrev pub least_from : Float → Float → List Float → Float
least_from lo h hs = folded (λ (so g : Float). lesser so (apart h g)) lo hs

-- the least between any two of one level
unfoldable pub least_apart : Float → List Float → Float
least_apart lo [] = lo
least_apart lo (h ∷ hs) = least_apart (least_from lo h hs) hs

-- "For k = 1 the last two metrics are plus infinity"
unfoldable pub separation_of : ℕ → List Srgb8 → List Float → List Float → Float
separation_of k colors cs ss =
    cond (leb 2 k) (least_apart (least_apart (inf false) (map (color_hue cs ss) (darks k colors))) (map (color_hue cs ss) (lights k colors))) (inf false)

unfoldable pub least_chroma : ℕ → List Srgb8 → Float
least_chroma k colors = cond (leb 2 k) (least (least (inf false) (map chroma_in (darks k colors))) (map chroma_in (lights k colors))) (inf false)

unfoldable pub metrics_of : ℕ → List Srgb8 → List Float → List Float → Metrics
metrics_of k colors cs ss = record {
  gap = gap_of k colors;
  spread = spread_of k colors;
  separation = separation_of k colors cs ss;
  chroma = least_chroma k colors;
}
