-- Document 01, "The job", and Reqs 05 and 07 of document 02: what start and step hand back for every job record, table and work buffer, and what document 01's start did.
-- Definitions only.
use Rattle.std.specs.Prelude.{ℕ, zero, suc, ◌+◌, ◌*◌, ◌/◌, ◌%◌, ◌≡◌, Bool, true, not, ◌&&◌, cond, List, [], ◌∷◌, leb, ltb, eqb, Float, length, take, replicate, Result, Ok, Err}
use Rattle.std.specs.Float.{binary32}
use Rattle.std.specs.Float.Ieee.{add, sub, lt, le}
use Rattle.limits.specs.Answers.{Said, value, refused}
use Rattle.limits.specs.Refusals.{number}
use Rattle.limits.specs.declared.Refusal.{Refusal}
use Rattle.limits.specs.Taken.{f32_of, hue_count_taken, gap_taken, entry_taken, every}
use Rattle.gamut.specs.Gamut.{level_of}
use Rattle.gamut.specs.Table.{levels_in, row_at, table_checked}
use Rattle.placement_rules.specs.Placing.{step_for, work_needed}
use Rattle.placement_rules.specs.Gaps.{tightest}
use Rattle.pair_rules.specs.Rows.{least_row}
use Rattle.pair_rules.specs.Pair as pair
use Rattle.pair_rules.specs.Pair.{best_over, none, found}
use Rattle.search_rules.specs.declared.Settings.{Settings}
use Rattle.search_rules.specs.declared.Best.{Best}
use Rattle.search_rules.specs.declared.Best.TheVariants.{None, Found}
use Rattle.search_rules.specs.declared.Job.{Job}

-- ---- start
-- the gap that a start takes: "number 2 for a gap below 40 as well"
unfoldable pub gap_starts : Float → Bool
gap_starts gap = gap_taken gap && not (lt gap (f32_of 40))

-- the gap that a record may hold, which is what document 01's start took: "Jobs already begun with a smaller gap are kept"
abbrev pub gap_held : Float → Bool
gap_held gap = gap_taken gap

-- "position 0, none", hues all zero, and so is the smallest gap
abbrev pub begun : Settings → ℕ → Job
begun s levels = record { settings = s; levels = levels; position = 0; best = None; hues = replicate 16 0; tightest = 0 }

-- "Start checks 1, 2, 6, 7 over the whole table.", in front of what a good call says, with this test of the gap
unfoldable pub start_checked_by : {A : Type 0} → (Float → Bool) → Settings → List Float → Said A → Said A
start_checked_by gaps s table good =
    cond (hue_count_taken s.k)
    (cond (gaps s.gap) (table_checked table good) (refused 2)) (refused 1)

abbrev pub start_checked : {A : Type 0} → Settings → List Float → Said A → Said A
start_checked s table good = start_checked_by gap_starts s table good

unfoldable pub start_says : Settings → List Float → Said Job
start_says s table = start_checked s table (value (begun s (levels_in table)))

-- what document 01's start said, by which jobs were begun before Req 05
unfoldable pub began_says : Settings → List Float → Said Job
began_says s table = start_checked_by gap_held s table (value (begun s (levels_in table)))

-- ---- number 15
-- "a chroma from 35 to 200 with two level indices", below levels
abbrev pub best_held : ℕ → Best → Bool
best_held levels None = true
best_held levels (Found c d l) = le (f32_of 35) c && (le c (f32_of 200) && (ltb d levels && ltb l levels))

-- how many hues stand for something: k, and none where there is none so far
abbrev pub handed : ℕ → Best → ℕ
handed k None = 0
handed k (Found c d l) = k

-- "hues at most 719, zeros after the first k and everywhere where there is none so far"
unfoldable pub hues_held : ℕ → List ℕ → Bool
hues_held n [] = true
hues_held zero (h ∷ hs) = eqb h 0 && hues_held zero hs
hues_held (suc n) (h ∷ hs) = leb h 719 && hues_held n hs

-- Req 07: "A job with none so far carries 0, any other 1 to 720, else it is broken"
abbrev pub tightest_held : Best → ℕ → Bool
tightest_held None t = eqb t 0
tightest_held (Found c d l) t = leb 1 t && leb t 720

-- every field is in its range, and the position is not above levels²
unfoldable pub unbroken : Job → Bool
unbroken j =
    hue_count_taken j.settings.k
    && (gap_held j.settings.gap
    && (leb 1 j.levels
    && (leb j.levels 169
    && (leb j.position (j.levels * j.levels)
    && (best_held j.levels j.best
    && (hues_held (handed j.settings.k j.best) j.hues && tightest_held j.best j.tightest))))))

-- ---- step
-- "Step p takes dark index p / levels and light index p mod levels."
abbrev pub dark_at : ℕ → ℕ → ℕ
dark_at levels p = p / levels

abbrev pub light_at : ℕ → ℕ → ℕ
light_at levels p = p % levels

-- whether two levels are far enough apart: not so where "the light level minus the dark level (levels, not indices) is below gap + 1 (one f32 sum)"
unfoldable pub far_enough : Float → ℕ → ℕ → Bool
far_enough gap d l = not (lt (sub binary32 (level_of l) (level_of d)) (add binary32 gap (f32_of 1)))

-- the pairs that are searched; for any other "only the position moves on"
unfoldable pub qualifies : Settings → ℕ → ℕ → Bool
qualifies s d l = far_enough s.gap d l

-- "floor 35 or the best chroma"
abbrev pub floor_of : Best → Float
floor_of None = f32_of 35
floor_of (Found c d l) = c

-- "a strictly greater chroma replaces it, and anything replaces none"
abbrev pub beats : Float → Best → Bool
beats c None = true
beats c (Found b d l) = lt b c

-- only the position moves on
abbrev pub moved_on : Job → Job
moved_on j = record { settings = j.settings; levels = j.levels; position = j.position + 1; best = j.best; hues = j.hues; tightest = j.tightest }

-- the position moves on, and the best is replaced, with its hues and their smallest gap
abbrev pub replaced : Job → Float → ℕ → ℕ → List ℕ → ℕ → Job
replaced j c d l hues t = record { settings = j.settings; levels = j.levels; position = j.position + 1; best = Found c d l; hues = hues; tightest = t }

-- the job after a pair whose best is this
abbrev pub after_pair : Job → ℕ → ℕ → pair.Best → Job
after_pair j d l none = moved_on j
after_pair j d l (found c hues) = cond (beats c j.best) (replaced j c d l hues (tightest 720 (take j.settings.k hues))) (moved_on j)

-- the best of the pair of levels d and l, from the job's floor
unfoldable pub pair_best : Job → List Float → ℕ → ℕ → pair.Best
pair_best j table d l = best_over j.settings.k (step_for j.settings.k) (floor_of j.best) (least_row (row_at table d ∷ row_at table l ∷ []))

-- the pair at d and l: "A step checks 7 only on the two rows it reads, and reads none where the gap is too small."
unfoldable pub searched : Job → List Float → ℕ → ℕ → Said Job
searched j table d l =
    cond (qualifies j.settings d l)
    (cond (every entry_taken (row_at table d) && every entry_taken (row_at table l)) (value (after_pair j d l (pair_best j table d l))) (refused 7))
    (value (moved_on j))

-- "a step checks 15, 14, 6, 8, 7 in that order": the first four, in front of what a good call says, for a table and a work buffer of these lengths
unfoldable pub step_checked : {A : Type 0} → Job → ℕ → ℕ → Said A → Said A
step_checked j size room good =
    cond (unbroken j)
    (cond (ltb j.position (j.levels * j.levels))
    (cond (eqb size (j.levels * 720))
    (cond (leb (work_needed 720) room) good (refused 8)) (refused 6)) (refused 14)) (refused 15)

unfoldable pub step_says : Job → List Float → ℕ → Said Job
step_says j table room = step_checked j (length table) room (searched j table (dark_at j.levels j.position) (light_at j.levels j.position))

-- ---- what is handed back
-- the job after a call: refused, as it was
abbrev pub job_after : Job → Said Job → Job
job_after j (value new) = new
job_after j (refused n) = j

-- what a result says, with the job that the call leaves
abbrev pub answers : Result (Unit {0}) Refusal → Job → Said Job
answers (Ok done) j = value j
answers (Err w) j = refused (number w)

-- a result with the job that the call leaves, given for a job that was lent, says this
pub record Gives (r : Result (Unit {0}) Refusal) (before after : Job) (said : Said Job) : Type 0 where
  pub says : answers r after ≡ said
  pub job_is : after ≡ job_after before said

-- ---- a whole search
-- so many steps, each on the job that the one before it left
unfoldable pub steps_from : ℕ → Job → List Float → ℕ → Job
steps_from zero j table room = j
steps_from (suc n) j table room = steps_from n (job_after j (step_says j table room)) table room

-- start and then all levels² steps; refusals 1, 2, 6, 7, 8
unfoldable pub search_says : Settings → List Float → ℕ → Said Job
search_says s table room =
    start_checked s table
    (cond (leb (work_needed 720) room) (value (steps_from (levels_in table * levels_in table) (begun s (levels_in table)) table room)) (refused 8))
