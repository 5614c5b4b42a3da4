-- Document 01, "Palette": the findings, and validation as a call. Definitions only.
use Rattle.std.specs.Prelude.{ℕ, ◌+◌, Bool, ◌&&◌, cond, List, [], ◌∷◌, leb, eqb, Float, Option, None, Some, Result, Ok, Err}
use Rattle.std.specs.Float.{binary32}
use Rattle.std.specs.Float.Ieee.{div, lt}
use Rattle.limits.specs.Answers.{Said, value, refused}
use Rattle.limits.specs.Refusals.{number}
use Rattle.limits.specs.declared.Refusal.{Refusal}
use Rattle.limits.specs.Taken.{f32_of, hue_count_taken, directions_taken}
use Rattle.srgb.specs.declared.Srgb8.{Srgb8}
use Rattle.metrics.specs.declared.Metrics.{Metrics}
use Rattle.palette.specs.declared.Finding.{Finding}
use Rattle.palette.specs.declared.Finding.TheVariants.{Gap, Spread, Separation, Chroma}
use Rattle.palette.specs.declared.Validation.{Validation}
use Rattle.metrics.specs.Metrics.{metrics_of}

-- ---- findings
-- no finding, or one by its number
pub data Judgement : Type 0 where
  passed : Judgement
  finding : ℕ → Judgement

-- a finding's number, and whether it is there
pub record Test : Type 0 where
  pub number : ℕ
  pub there : Bool

-- "1 gap below 40, 2 spread above 12, 3 hue separation below 300 / k, 4 chroma below 35", in the order tested. "For k = 1 .. findings 3 and 4 never arise."
unfoldable pub findings : ℕ → Metrics → List Test
findings k m =
    record { number = 1; there = lt m.gap (f32_of 40) }
    ∷ record { number = 2; there = lt (f32_of 12) m.spread }
    ∷ record { number = 3; there = leb 2 k && lt m.separation (div binary32 (f32_of 300) (f32_of k)) }
    ∷ record { number = 4; there = leb 2 k && lt m.chroma (f32_of 35) }
    ∷ []

-- the first finding
unfoldable pub first_of : List Test → Judgement
first_of [] = passed
first_of (t ∷ ts) = cond t.there (finding t.number) (first_of ts)

-- ---- the call
-- the four metrics and the first finding
pub record Judged : Type 0 where
  pub metrics : Metrics
  pub judgement : Judgement

unfoldable pub judged : ℕ → List Srgb8 → List Float → List Float → Judged
judged k colors cs ss = record { metrics = metrics_of k colors cs ss; judgement = first_of (findings k (metrics_of k colors cs ss)) }

-- "validation 1, 9, 13", the lowest
unfoldable pub validation_says : ℕ → List Srgb8 → ℕ → List Float → List Float → Said Judged
validation_says k colors count cs ss =
    cond (hue_count_taken k)
    (cond (directions_taken cs ss)
    (cond (eqb count (k + k)) (value (judged k colors cs ss)) (refused 13)) (refused 9)) (refused 1)

-- ---- what is handed back
-- document 01's number of a finding
abbrev pub finding_number : Finding → ℕ
finding_number Gap = 1
finding_number Spread = 2
finding_number Separation = 3
finding_number Chroma = 4

-- the first finding, or none
abbrev pub verdict_said : Option Finding → Judgement
verdict_said None = passed
verdict_said (Some f) = finding (finding_number f)

abbrev pub validation_said : Result Validation Refusal → Said Judged
validation_said (Ok v) = value (record { metrics = v.metrics; judgement = verdict_said v.finding })
validation_said (Err w) = refused (number w)
