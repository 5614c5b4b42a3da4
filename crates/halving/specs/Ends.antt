-- Where a halving ends. Definitions only.
use Rattle.std.specs.Prelude.{◌≡◌, ◌⊎◌, ℕ, ◌+◌, ◌≤◌, Float}
use Rattle.std.specs.Float.{binary32}
use Rattle.std.specs.Float.Ieee.{to_bits}
use Rattle.halving.specs.Patterns.{worth, next}

-- "lo and hi equal or neighbouring floats"
abbrev pub Closed : Float × Float → Type 0
Closed ends = (ends.1 ≡ ends.0) ⊎ (ends.1 ≡ next ends.0)

-- hi is at most w units of 2 ^ -149 above lo, for f32 that are not negative
abbrev pub Within : ℕ → Float × Float → Type 0
Within w ends = worth (to_bits binary32 ends.1) ≤ worth (to_bits binary32 ends.0) + w
