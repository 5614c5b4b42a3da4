-- A number of six hexadecimal digits comes back from its colour. Assumes nothing.
use mathlib.Core.Path.{◌≡◌}
use Prim.Native.Nat.{ℕ, ◌<◌}
use native.Mathlib.Omega.{arith}
use Rattle.srgb.specs.Parts.{from_hex, to_hex}

pub hex_back : (hex : ℕ) → hex < 16777216 → to_hex (from_hex hex) ≡ hex
hex_back hex h = omega arith
