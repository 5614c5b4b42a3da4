-- Document 01, "Hue ring", as a call: which arguments are refused by which number, what is handed out as sixteen indices, and the step for k. Definitions only.
use Rattle.std.specs.Prelude.{◌≡◌, ℕ, suc, ◌+◌, ◌-◌, ◌/◌, ◌%◌, Bool, true, false, ◌&&◌, cond, List, [], ◌∷◌, leb, Float, length, get_or, set, take, replicate, Option, Some, None, Result, Ok, Err}
use Rattle.std.specs.Float.{nan}
use Rattle.std.specs.Float.Ieee.{le}
use Rattle.limits.specs.Answers.{Said, value, refused}
use Rattle.limits.specs.Refusals.{number}
use Rattle.limits.specs.Taken.{hue_count_taken, chroma_taken, entry_taken, every}
use Rattle.placement_rules.specs.declared.Placement.{Placement}
use Rattle.limits.specs.declared.Refusal.{Refusal}
use Rattle.placement_rules.specs.Ring.{Places, nowhere, placed, placement}
use Rattle.placement_rules.specs.Gaps.{tightest}

-- "Index i is allowed at chroma c when its entry is ≥ c.", i reduced by the length
unfoldable pub allowed_at : List Float → Float → ℕ → Bool
allowed_at row c i = le c (get_or row (i % length row) nan)

-- "The step is ceil(600 / k) + 1"
unfoldable pub step_for : ℕ → ℕ
step_for k = (600 + (k - 1)) / k + 1

-- number 8, Req 04: "The work buffer may now hold one entry for each ring position"
unfoldable pub work_needed : ℕ → ℕ
work_needed n = n

-- indices stored one after the other from place t on
unfoldable pub stores : List ℕ → ℕ → List ℕ → List ℕ
stores hues t [] = hues
stores hues t (i ∷ is) = stores (set hues t i) (suc t) is

-- "Hues come back as 16 indices, zeros after the first k."
abbrev pub sixteen : Places → Places
sixteen nowhere = nowhere
sixteen (placed is) = placed (stores (replicate 16 0) 0 is)

-- Refusals 1, 3, 4, 5, 7, 8, the lowest that applies, in front of what a good call says: for a ring of n hues, by whether 4 takes the lengths of its rows
-- and 7 their entries.
abbrev pub checked_ring : {A : Type 0} → ℕ → ℕ → Float → ℕ → Bool → Bool → ℕ → Said A → Said A
checked_ring k step c n lengths entries room good =
    cond (hue_count_taken k)
    (cond (chroma_taken c)
    (cond lengths
    (cond (leb 1 step && leb step n)
    (cond entries
    (cond (leb (work_needed n) room) good (refused 8)) (refused 7)) (refused 5)) (refused 4)) (refused 3)) (refused 1)

-- a call with these arguments, over one row
unfoldable pub checked : {A : Type 0} → ℕ → ℕ → Float → List Float → ℕ → Said A → Said A
checked k step c row room good = checked_ring k step c (length row) (leb 1 (length row) && leb (length row) 720) (every entry_taken row) room good

-- what placement says
unfoldable pub placement_says : ℕ → ℕ → Float → List Float → ℕ → Said Places
placement_says k step c row room = checked k step c row room (value (sixteen (placement (allowed_at row c) (length row) k step)))

-- the sixteen indices beside an answer: all zero where it is none or a refusal
abbrev pub hues_beside : Said Places → List ℕ
hues_beside (value nowhere) = replicate 16 0
hues_beside (value (placed is)) = is
hues_beside (refused n) = replicate 16 0

-- Req 07: the smallest gap of the k hues placed, on a ring of n; 0 where it is none or a refusal
abbrev pub tightest_beside : ℕ → ℕ → Said Places → ℕ
tightest_beside n k (value nowhere) = 0
tightest_beside n k (value (placed is)) = tightest n (take k is)
tightest_beside n k (refused w) = 0

-- what is handed out: the hues placed, with their smallest gap, or none of it
abbrev pub places_of : Option Placement → Places
places_of None = nowhere
places_of (Some p) = placed p.hues

abbrev pub gap_of : Option Placement → ℕ
gap_of None = 0
gap_of (Some p) = p.tightest

-- what is handed out is these places: the hues, and the smallest gap of k of them on a ring of n
pub record Hands (n k : ℕ) (found : Option Placement) (places : Places) : Type 0 where
  pub places_are : places_of found ≡ places
  pub tightest_is : gap_of found ≡ tightest_beside n k (value places)

-- what a call hands back
abbrev pub placement_said : Result (Option Placement) Refusal → Said Places
placement_said (Ok found) = value (places_of found)
placement_said (Err why) = refused (number why)

abbrev pub gap_handed : Result (Option Placement) Refusal → ℕ
gap_handed (Ok found) = gap_of found
gap_handed (Err why) = 0

-- what a call hands back says this: sixteen hues and the smallest gap of k of them on a ring of n, or none, or a refusal
pub record Gives (n k : ℕ) (r : Result (Option Placement) Refusal) (said : Said Places) : Type 0 where
  pub says : placement_said r ≡ said
  pub tightest_is : gap_handed r ≡ tightest_beside n k said

-- what the step for k says: k outside 1 to 16 is refused by 1
unfoldable pub step_says : ℕ → Said ℕ
step_says k = cond (hue_count_taken k) (value (step_for k)) (refused 1)
