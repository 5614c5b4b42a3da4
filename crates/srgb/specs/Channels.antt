-- Document 01, "Colour": 8-bit colours and linear light, channel by channel, over every f32, NaN, infinities and minus zero included. `lt` and `le` are false where a NaN
-- stands. Definitions only.
use Rattle.std.specs.Prelude.{◌^◌, Bool, true, false, ◌&&◌, cond, Float}
use Rattle.std.specs.Float.{binary32}
use Rattle.std.specs.Float.Ieee.{round, add, lt, le}
use Rattle.limits.specs.Taken.{f32_of}
use Rattle.transfer.specs.Transfer.{decode_of, encode_of}
use Rattle.srgb.specs.declared.Srgb8.{Srgb8}
use Rattle.srgb.specs.declared.Linear.{Linear}

-- ---- constants: each is the f32 nearest to its digits
-- in gamut is from -1e-4
unfoldable pub gamut_low : Float
gamut_low = round binary32 true 1 (10 ^ 4)

-- to 1 + 1e-4, one f32 sum
unfoldable pub gamut_high : Float
gamut_high = add binary32 (f32_of 1) (round binary32 false 1 (10 ^ 4))

-- ---- one channel

-- brought to 0 to 1: minus zero and NaN stay, as with Rust's `clamp`
unfoldable pub clamp_to : Float → Float
clamp_to v = cond (lt v (f32_of 0)) (f32_of 0) (cond (lt (f32_of 1) v) (f32_of 1) v)

-- in gamut: from -1e-4 to 1 + 1e-4 inclusive; NaN fails
unfoldable pub gamut_channel : Float → Bool
gamut_channel v = le gamut_low v && le v gamut_high

-- `Linear::clamped`: each channel brought to 0 to 1
unfoldable pub clamped_of : Linear → Linear
clamped_of c = record { r = clamp_to c.r; g = clamp_to c.g; b = clamp_to c.b }

-- "In gamut: each channel .."; `Linear::in_gamut`
unfoldable pub in_gamut : Linear → Bool
in_gamut c = gamut_channel c.r && (gamut_channel c.g && gamut_channel c.b)

-- ---- sRGB and linear light

-- each channel by its decode constant
unfoldable pub srgb8_to_linear : Srgb8 → Linear
srgb8_to_linear c = record { r = decode_of c.r; g = decode_of c.g; b = decode_of c.b }

-- each channel by how many encode constants are at most it
unfoldable pub linear_to_srgb8 : Linear → Srgb8
linear_to_srgb8 c = record { r = encode_of c.r; g = encode_of c.g; b = encode_of c.b }
