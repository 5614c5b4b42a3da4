-- A colour of three 8-bit channels as one number, 0xRRGGBB. Definitions only.
use Rattle.std.specs.Prelude.{ℕ, ◌+◌, ◌*◌, ◌/◌, ◌%◌}
use Rattle.srgb.specs.declared.Srgb8.{Srgb8}

-- the three lowest bytes, red highest; what stands above is dropped
abbrev pub from_hex : ℕ → Srgb8
from_hex hex = record { r = hex / 65536 % 256; g = hex / 256 % 256; b = hex % 256 }

-- 0xRRGGBB
abbrev pub to_hex : Srgb8 → ℕ
to_hex c = c.r * 65536 + c.g * 256 + c.b
