-- Document 01, "Palette": "`back_off` lowers chroma by 0.05 while it is ≥ 35; it returns the first chroma with no finding and its colours, else the last finding, or 0 if
-- none was tried, with all colours zero." Definitions only.
use Rattle.std.specs.Prelude.{ℕ, zero, suc, ◌^◌, Bool, true, false, List, Float, Result, Ok, Err, replicate}
use Rattle.std.specs.Float.{binary32}
use Rattle.std.specs.Float.Ieee.{to_bits, round, sub, le}
use Rattle.limits.specs.Answers.{Said, value, refused}
use Rattle.limits.specs.Refusals.{number}
use Rattle.limits.specs.declared.Refusal.{Refusal}
use Rattle.limits.specs.Taken.{f32_of}
use Rattle.srgb.specs.declared.Srgb8.{Srgb8}
use Rattle.palette_checks.specs.declared.Design.{Design}
use Rattle.palette.specs.declared.BackOff.{BackOff}
use Rattle.palette.specs.declared.BackOff.TheVariants.{Passed, Found, Untried}
use Rattle.palette_checks.specs.Designs.{design_checked}
use Rattle.palette.specs.Derivation.{black, colors_of}
use Rattle.palette.specs.Validation.{Judgement, passed, finding, judged, finding_number}

-- ---- chromas tried
-- lowered by 0.05, one f32 subtraction
unfoldable pub lower : Float → Float
lower c = sub binary32 c (round binary32 false 5 (10 ^ 2))

-- tried while it is ≥ 35
unfoldable pub tried : Float → Bool
tried c = le (f32_of 35) c

-- the first chroma with no finding, or the last finding's number, 0 where none was tried
pub data Ending : Type 0 where
  passes : Float → Ending
  lastly : ℕ → Ending

-- From a chroma c on, by whether it is tried and by what is found of it; n bounds how many are tried.
unfoldable pub end_from : (Float → Judgement) → ℕ → Bool → Judgement → Float → ℕ → Ending
end_from judge zero b j c last = lastly last
end_from judge (suc n) false j c last = lastly last
end_from judge (suc n) true passed c last = passes c
end_from judge (suc n) true (finding f) c last = end_from judge n (tried (lower c)) (judge (lower c)) (lower c) f

-- The bound is the bit pattern, which falls with each f32 subtraction. It is never met: `untried`, `passing` and `lowering` of proofs/Lowering say where it ends with
-- no bound at all.
unfoldable pub end_after : (Float → Judgement) → Float → ℕ → Ending
end_after judge c last = end_from judge (to_bits binary32 c) (tried c) (judge c) c last

unfoldable pub end_of : (Float → Judgement) → Float → Ending
end_of judge c = end_after judge c 0

-- ---- the call
-- what validation finds of the colours derived at a chroma
unfoldable pub judge_at : Design → List Float → List Float → Float → Judgement
judge_at d cs ss c = (judged d.k (colors_of d c cs ss) cs ss).judgement

unfoldable pub back_off_says : Design → Float → List Float → List Float → Said Ending
back_off_says d c cs ss = design_checked d c cs ss (value (end_of (judge_at d cs ss) c))

-- ---- what is handed back
-- where back-off ends
abbrev pub ending_of : BackOff → Ending
ending_of (Passed c colors) = passes c
ending_of (Found f) = lastly (finding_number f)
ending_of Untried = lastly 0

abbrev pub back_off_said : Result BackOff Refusal → Said Ending
back_off_said (Ok b) = value (ending_of b)
back_off_said (Err w) = refused (number w)

-- the colours it has, and all zero for those that it has not
abbrev pub colors_in : BackOff → List Srgb8
colors_in (Passed c colors) = colors
colors_in (Found f) = replicate 32 black
colors_in Untried = replicate 32 black

abbrev pub colors_said : Result BackOff Refusal → List Srgb8
colors_said (Ok b) = colors_in b
colors_said (Err w) = replicate 32 black

-- the colours that a call ends with: those of the chroma that passes, else all zero
abbrev pub colors_after : Design → List Float → List Float → Said Ending → List Srgb8
colors_after d cs ss (value (passes c)) = colors_of d c cs ss
colors_after d cs ss (value (lastly n)) = replicate 32 black
colors_after d cs ss (refused n) = replicate 32 black
