-- Document 02, Req 03: "One hue must do at all its levels. Port `best_for_level_set` for 1 to 8 level indices, with the job's step for k; repeats are allowed and change
-- nothing. The floor is 0, as in the Rust, and none is said exactly when no hue has a value above 0." What the call says for every hue count, table, list of levels and
-- length of the work buffer. What that means stands in specs/Meant. Definitions only.
use Rattle.std.specs.Prelude.{Bool, true, ◌&&◌, cond, List, [], ◌∷◌, map, ℕ, leb, ltb, Float, length}
use Rattle.std.specs.Float.Ieee.{lt}
use Rattle.limits.specs.Answers.{Said, value, refused}
use Rattle.limits.specs.Taken.{f32_of, hue_count_taken}
use Rattle.gamut.specs.Table.{levels_in, row_at, table_taken}
use Rattle.placement_rules.specs.Placing.{step_for, work_needed}
use Rattle.pair_rules.specs.Rows.{least_row, largest}
use Rattle.pair_rules.specs.Pair.{Best, none, best_over, entries_taken}

-- the rows of the levels that are named, in the order in which they are named
abbrev pub rows_at : List Float → List ℕ → List (List Float)
rows_at t levels = map (row_at t) levels

-- the best over the row of least values: none where no value is above 0, and else the best from a floor of 0, "with the job's step for k"
unfoldable pub set_over : ℕ → List Float → Best
set_over k row = cond (lt (f32_of 0) (largest row)) (best_over k (step_for k) (f32_of 0) row) none

-- number 18: "an empty list or more than 8 levels"
unfoldable pub list_taken : List ℕ → Bool
list_taken levels = leb 1 (length levels) && leb (length levels) 8

-- number 11: "an index not below the table's number of levels", of which there are n
unfoldable pub indices_taken : ℕ → List ℕ → Bool
indices_taken n [] = true
indices_taken n (l ∷ levels) = ltb l n && indices_taken n levels

-- "The call checks 1, 6 and 8, then the new 18 for an empty list or more than 8 levels, then 11 for an index not below the table's number of levels, then 7 on the rows
-- named.", in front of what a good call says. First those after 1:
unfoldable pub named_checked : {A : Type 0} → List Float → List ℕ → ℕ → Said A → Said A
named_checked t levels room good =
    cond (table_taken t)
    (cond (leb (work_needed 720) room)
    (cond (list_taken levels)
    (cond (indices_taken (levels_in t) levels)
    (cond (entries_taken (rows_at t levels)) good (refused 7)) (refused 11)) (refused 18)) (refused 8)) (refused 6)

unfoldable pub set_checked : {A : Type 0} → ℕ → List Float → List ℕ → ℕ → Said A → Said A
set_checked k t levels room good = cond (hue_count_taken k) (named_checked t levels room good) (refused 1)

-- what the call says
unfoldable pub set_says : ℕ → List Float → List ℕ → ℕ → Said Best
set_says k t levels room = set_checked k t levels room (value (set_over k (least_row (rows_at t levels))))
