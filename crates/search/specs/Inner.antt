-- What the private functions of this crate ask and promise among themselves. Nothing here is a promise to a caller. Definitions only.
use Rattle.std.specs.Prelude.{◌≡◌, true, ◌&&◌, cond, List, ℕ, ◌*◌, ◌≤◌, ◌<◌, Float, length}
use Rattle.limits.specs.Answers.{Said, value, refused}
use Rattle.limits.specs.Taken.{entry_taken, every}
use Rattle.gamut.specs.Table.{row_at}
use Rattle.placement_rules.specs.Placing.{work_needed}
use Rattle.pair_rules.specs.Pair.{Best}
use Rattle.search_rules.specs.declared.Job.{Job}
use Rattle.search_rules.specs.Job.{unbroken, pair_best}

-- the best of a pair of levels, or 7 for its rows
abbrev pub pair_given : Job → List Float → ℕ → ℕ → Said Best
pair_given j table d l = cond (every entry_taken (row_at table d) && every entry_taken (row_at table l)) (value (pair_best j table d l)) (refused 7)

-- a job that is not broken, over a table of its levels, with room enough, and two of its levels
pub record Stepped (j : Job) (table : List Float) (room dark light : ℕ) : Type 0 where
  pub sound : unbroken j ≡ true
  pub long : length table ≡ j.levels * 720
  pub room_enough : work_needed 720 ≤ room
  pub dark_in : dark < j.levels
  pub light_in : light < j.levels
  pub unfinished : j.position < 28561
