-- Document 02, Req 06: "Chroma is given in whole hundredths H with its exact remainder R: with N = chroma times 2^18, 100 × N = H × 2^18 + R and R lies from 0 to 2^18 - 1." Definitions only.
use Rattle.std.specs.Prelude.{◌≡◌, false, ℕ, ◌+◌, ◌*◌, ◌/◌, ◌%◌, ◌^◌, ◌<◌, Float}
use Rattle.std.specs.Float.{nan, inf, fin}
use Rattle.std.specs.Float.Ieee.{up, down}
use Rattle.std.specs.Float.Ieee.Exact.{HasValue}

-- N, cut to a whole number, which cuts nothing off an f32 from 35 to 200
unfoldable pub units_of : Float → ℕ
units_of nan = 0
units_of (inf s) = 0
units_of (fin s m e) = m * up e * 2 ^ 18 / down e

-- H
unfoldable pub hundredths : Float → ℕ
hundredths c = 100 * units_of c / 2 ^ 18

-- R
unfoldable pub remainder : Float → ℕ
remainder c = 100 * units_of c % 2 ^ 18

-- H and R are those of a chroma, in the request's words
pub record Exactly (c : Float) (h r : ℕ) : Type 0 where
  -- N
  pub n : ℕ
  -- "N = chroma times 2^18"
  pub times : HasValue c false n (2 ^ 18)
  -- "100 × N = H × 2^18 + R"
  pub parts : 100 * n ≡ h * 2 ^ 18 + r
  -- "R lies from 0 to 2^18 - 1"
  pub within : r < 2 ^ 18
