-- When a call is accepted, by document 01's conditions written out, for number 8 by Req 04's, and for number 2 of a start by Req 05's: for a start numbers 1, 2, 6, 7, for
-- a step numbers 15, 14, 6, 8, 7. Beside it stands document 01's start, which took smaller gaps.
-- Definitions only.
use Rattle.std.specs.Prelude.{◌≡◌, true, List, [], ◌∷◌, ℕ, ◌+◌, ◌*◌, ◌/◌, ◌%◌, ◌≤◌, ◌<◌, Float, length, get_or}
use Rattle.std.specs.Float.Ieee.{le}
use Rattle.limits.specs.Answers.{Said, value, refused}
use Rattle.limits.specs.Taken.{f32_of, gap_taken, entry_taken}
use Rattle.limits.specs.Each.{Each}
use Rattle.gamut.specs.Table.{levels_in, row_at}
use Rattle.search_rules.specs.declared.Settings.{Settings}
use Rattle.search_rules.specs.declared.Best.{Best}
use Rattle.search_rules.specs.declared.Best.TheVariants.{None, Found}
use Rattle.search_rules.specs.declared.Job.{Job}
use Rattle.search_rules.specs.Job.{step_says, job_after}
use Rattle.search_rules.specs.Runs.{Call, given, run, FarApart, steps}

-- "A call is accepted when it gives no refusal number."
abbrev pub Accepted : Said Job → Type 0
Accepted said = (j : Job) × (said ≡ value j)

-- from low to high
abbrev pub Between : ℕ → ℕ → ℕ → Type 0
Between low high n = (low ≤ n) × (n ≤ high)

-- each entry is one that number 7 takes
abbrev pub EachTaken : List Float → Type 0
EachTaken xs = Each (λ x. entry_taken x ≡ true) xs

-- ---- a start
-- over what is asked of the gap
pub record TakenWith (Gap : Float → Type 0) (s : Settings) (t : List Float) : Type 0 where
  pub hue_count : Between 1 16 s.k
  pub gap : Gap s.gap
  pub whole_levels : length t ≡ levels_in t * 720
  pub levels : Between 1 169 (levels_in t)
  pub entries : EachTaken t

-- by a start: it is one that document 01's number 2 takes, and at least 40
abbrev pub FromForty : Float → Type 0
FromForty gap = (gap_taken gap ≡ true) × (le (f32_of 40) gap ≡ true)

abbrev pub StartTaken : Settings → List Float → Type 0
StartTaken s t = TakenWith FromForty s t

-- by document 01's start: it is one that number 2 takes
abbrev pub FromZero : Float → Type 0
FromZero gap = gap_taken gap ≡ true

abbrev pub BeganTaken : Settings → List Float → Type 0
BeganTaken s t = TakenWith FromZero s t

-- ---- a record that is not broken
-- a chroma from 35 to 200, and level indices below levels
abbrev pub BestWithin : ℕ → Best → Type 0
BestWithin levels None = Unit
BestWithin levels (Found c d l) = (le (f32_of 35) c ≡ true) × ((le c (f32_of 200) ≡ true) × ((d < levels) × (l < levels)))

-- the hue in place p: at most 719 among the first k, where there is a best so far, and else zero
abbrev pub HueWithin : ℕ → Best → ℕ → ℕ → Type 0
HueWithin k None p h = h ≡ 0
HueWithin k (Found c d l) p h = (p < k → h ≤ 719) × (k ≤ p → h ≡ 0)

-- the smallest gap: 0 where there is none so far, else from 1 to 720
abbrev pub TightestWithin : Best → ℕ → Type 0
TightestWithin None t = t ≡ 0
TightestWithin (Found c d l) t = Between 1 720 t

pub record Unbroken (j : Job) : Type 0 where
  pub hue_count : Between 1 16 j.settings.k
  pub gap : gap_taken j.settings.gap ≡ true
  pub levels : Between 1 169 j.levels
  pub position : j.position ≤ j.levels * j.levels
  pub best : BestWithin j.levels j.best
  pub hues : (p : ℕ) → p < length j.hues → HueWithin j.settings.k j.best p (get_or j.hues p 0)
  pub tightest : TightestWithin j.best j.tightest

-- ---- a step
-- two rows that are read are taken; none is read where the gap is too small
pub record StepTaken (j : Job) (t : List Float) (room : ℕ) : Type 0 where
  pub unbroken : Unbroken j
  pub unfinished : j.position < j.levels * j.levels
  pub whole_levels : length t ≡ j.levels * 720
  pub room_enough : 720 ≤ room
  pub entries : FarApart j.settings.gap (j.position / j.levels) (j.position % j.levels) → EachTaken (row_at t (j.position / j.levels)) × EachTaken (row_at t (j.position % j.levels))

-- ---- a list of calls
-- each of them is accepted
abbrev pub AllAccepted : List Call → Job → Type 0
AllAccepted [] j = Unit
AllAccepted (c ∷ calls) j = Accepted (given c j) × AllAccepted calls (job_after j (given c j))

-- "run to their end": the steps that are left are all accepted, they leave the job finished with its settings, and one more is refused by 14
pub record RunsToEnd (j : Job) (t : List Float) (work : List ℕ) : Type 0 where
  pub left : ℕ
  pub as_many : j.position + left ≡ j.levels * j.levels
  pub all_taken : AllAccepted (steps left t work) j
  pub at_the_end : (run (steps left t work) j).position ≡ j.levels * j.levels
  pub same_settings : (run (steps left t work) j).settings ≡ j.settings
  pub finished_then : step_says (run (steps left t work) j) t (length work) ≡ refused 14
