-- Demand 3: "For every list of start and step calls over one table, refused ones included, from any job record and whatever the work buffers held, the following holds after
-- it, once a start in it was accepted." Req 05: "What is promised about the best chroma covers both kinds of job: for a kept one, the start that document 01 gave it counts as
-- accepted and opens its list." The last record, `Promise`, is what holds; the theorem is `whole_runs` of proofs/Runs. Definitions only.
use Rattle.std.specs.Prelude.{◌≡◌, false, true, List, [], ◌∷◌, ℕ, suc, ◌+◌, ◌*◌, ◌≤◌, ◌<◌, Float, length, take, replicate}
use Rattle.std.specs.Float.{binary32}
use Rattle.std.specs.Float.Ieee.{add, le}
use Rattle.std.specs.Float.Ieee.Exact.{HasValue}
use Rattle.limits.specs.Answers.{Said, value, refused}
use Rattle.limits.specs.Taken.{f32_of}
use Rattle.halving.specs.Patterns.{next}
use Rattle.gamut.specs.Table.{levels_in, row_at}
use Rattle.placement_rules.specs.Placing.{step_for}
use Rattle.placement_rules.specs.Gaps.{tightest}
use Rattle.pair_rules.specs.Rows.{common}
use Rattle.pair_rules.specs.Limit.{Hues}
use Rattle.search_rules.specs.declared.Settings.{Settings}
use Rattle.search_rules.specs.declared.Best.TheVariants.{None, Found}
use Rattle.search_rules.specs.declared.Job.{Job}
use Rattle.search_rules.specs.Job.{start_says, began_says, step_says, job_after}

-- ---- a list of calls
-- "A start has any arguments, a step any work buffer, short ones too."; and the start that document 01 gave a kept job
pub data Call : Type 0 where
  start : Settings → List Float → Call
  began : Settings → List Float → Call
  step : List Float → List ℕ → Call

-- the table that a call is lent
abbrev pub table_of : Call → List Float
table_of (start s t) = t
table_of (began s t) = t
table_of (step t work) = t

-- what a call says to a job: what the contracts of start and step say, and what document 01's start said
abbrev pub given : Call → Job → Said Job
given (start s t) j = start_says s t
given (began s t) j = began_says s t
given (step t work) j = step_says j t (length work)

-- "Each call gets the job as the call before it left it; an accepted one leaves its new job, a refused one the job it found."
unfoldable pub run : List Call → Job → Job
run [] j = j
run (c ∷ calls) j = run calls (job_after j (given c j))

-- ---- read off the calls and their answers
-- no start accepted yet, or the settings of the last accepted start and how many steps were accepted since
pub data History : Type 0 where
  unstarted : History
  since : Settings → ℕ → History

-- "A call is accepted when it gives no refusal number."
abbrev pub noted : Call → Said Job → History → History
noted c (refused n) h = h
noted (start s t) (value j) h = since s 0
noted (began s t) (value j) h = since s 0
noted (step t work) (value j) unstarted = unstarted
noted (step t work) (value j) (since s n) = since s (suc n)

unfoldable pub history_from : History → List Call → Job → History
history_from h [] j = h
history_from h (c ∷ calls) j = history_from (noted c (given c j) h) calls (job_after j (given c j))

abbrev pub history : List Call → Job → History
history calls j = history_from unstarted calls j

-- "All accepted calls are lent one table with the same entries; a refused one may be lent another."
abbrev pub Lent : List Float → Call → Said Job → Type 0
Lent t c (value j) = table_of c ≡ t
Lent t c (refused n) = Unit

abbrev pub OverOneTable : List Float → List Call → Job → Type 0
OverOneTable t [] j = Unit
OverOneTable t (c ∷ calls) j = Lent t c (given c j) × OverOneTable t calls (job_after j (given c j))

-- ---- a choice
-- "A pair is at least gap plus 1 apart when its light level minus its dark level is not below that f32 sum.": by exact fractions, level i being (24 + i) / 2. Whatever
-- fraction a / c the sum is, (24 + dark) / 2 + a / c is at most (24 + light) / 2; both sides are multiplied by 2 × c.
abbrev pub FarApart : Float → ℕ → ℕ → Type 0
FarApart gap dark light = (a c : ℕ) → 0 < c → HasValue (add binary32 gap (f32_of 1)) false a c → (24 + dark) * c + a * 2 ≤ (24 + light) * c

-- "A choice is one level pair from the pairs gone through since the last accepted start, at least that start's gap plus 1 (one f32 sum) apart, with k hues spaced at least
-- the step all round the circle." The pairs gone through are the first n, in the order of positions.
pub record Choice (t : List Float) (s : Settings) (n : ℕ) : Type 0 where
  pub dark : ℕ
  pub light : ℕ
  pub hues : List ℕ
  pub dark_in : dark < levels_in t
  pub light_in : light < levels_in t
  pub gone_through : dark * levels_in t + light < n
  pub far : FarApart s.gap dark light
  pub spaced : Hues 720 s.k (step_for s.k) hues

-- "The common chroma of a choice is the least of the table's entries at its two levels and k hues."
abbrev pub common_of : (t : List Float) → ℕ → ℕ → List ℕ → Float
common_of t dark light hues = common (row_at t dark ∷ row_at t light ∷ []) hues

-- ---- what holds of the job after the list: n is how many steps were accepted since the last accepted start, whose settings are s
pub record Promise (t : List Float) (s : Settings) (n : ℕ) (job : Job) : Type 0 where
  -- "the position must equal s", s being the accepted steps since the last accepted start
  pub position_is : job.position ≡ n
  pub settings_are : job.settings ≡ s
  pub levels_are : job.levels ≡ levels_in t
  -- "Where the job hands out a chroma, every choice has a common chroma of at most the next f32 after it."
  pub limit : (c : Float) (d l : ℕ) → job.best ≡ Found c d l → (x : Choice t s n) → le (common_of t x.dark x.light x.hues) (next c) ≡ true
  -- "What it hands out with that chroma is one of these choices, and its own common chroma is at least that chroma."
  pub reached : (c : Float) (d l : ℕ) → job.best ≡ Found c d l
      → (x : Choice t s n) × ((x.dark ≡ d) × ((x.light ≡ l) × ((x.hues ≡ take s.k job.hues) × (le c (common_of t d l (take s.k job.hues)) ≡ true))))
  -- "'None so far' is said exactly when no choice has a common chroma of 35 or more."
  pub none_said : job.best ≡ None → (x : Choice t s n) → le (f32_of 35) (common_of t x.dark x.light x.hues) ≡ true → ⊥
  pub none_meant : ((x : Choice t s n) → le (f32_of 35) (common_of t x.dark x.light x.hues) ≡ true → ⊥) → job.best ≡ None
  -- Req 07: "after every list of demand 3 it is that of the hues handed out"; "A job with none so far carries 0"
  pub tightest_is : (c : Float) (d l : ℕ) → job.best ≡ Found c d l → job.tightest ≡ tightest 720 (take s.k job.hues)
  pub tightest_none : job.best ≡ None → job.tightest ≡ 0

-- ---- a whole search as such a list
-- so many steps over a table with one work buffer
abbrev pub steps : ℕ → List Float → List ℕ → List Call
steps n t work = replicate n (step t work)

-- a start and all its steps
abbrev pub whole_search : Settings → List Float → List ℕ → List Call
whole_search s t work = start s t ∷ steps (levels_in t * levels_in t) t work
