-- `lch_to_srgb8_gamut_clipped` with cosine and sine in place of the angle: the colour itself where it is in gamut, else clamped at the chroma
-- that 24 halvings from 0 to c end at. Definitions only.
use Rattle.std.specs.Prelude.{ℕ, cond, Float}
use Rattle.limits.specs.Taken.{f32_of}
use Rattle.halving.specs.Midpoint.{halve}
use Rattle.clipping.specs.declared.Clipped.{Clipped}
use Rattle.color.specs.Color.{lab_to_linear, lch_to_lab, lch_in_gamut}
use Rattle.srgb.specs.Channels.{linear_to_srgb8, clamped_of}

-- the chroma after n halvings
unfoldable pub lowered : ℕ → Float → Float → Float → Float → Float
lowered n l c cos sin = halve (lch_in_gamut l cos sin) n (f32_of 0) c

-- the colour, and the chroma it ended at
unfoldable pub clipped_of : Float → Float → Float → Float → Clipped
clipped_of l c cos sin =
    let low = lowered 24 l c cos sin in
    cond (lch_in_gamut l cos sin c)
    (record { color = linear_to_srgb8 (lab_to_linear (lch_to_lab l c cos sin)); chroma = c })
    (record { color = linear_to_srgb8 (clamped_of (lab_to_linear (lch_to_lab l low cos sin))); chroma = low })
