-- What the private functions of this crate ask and promise among themselves. Nothing here is a promise to a caller. Definitions only.
use Rattle.std.specs.Prelude.{◌≡◌, true, List, ℕ, ◌*◌, ◌≤◌, ◌<◌, Float, length, get_or}
use Rattle.std.specs.Float.{nan}
use Rattle.limits.specs.Taken.{entry_taken, every}
use Rattle.limits.specs.Each.{Each, F32}
use Rattle.gamut.specs.Table.{levels_in, row_at}
use Rattle.pair_rules.specs.Rows.{largest}
use Rattle.search_rules.specs.declared.Job.{Job}
use Rattle.ceiling_rules.proofs.Accepted.{Looked}

-- a row whose entries are taken
pub record Row (row : List Float) : Type 0 where
  pub long : length row ≡ 720
  pub entries : every entry_taken row ≡ true
  pub f32 : Each F32 row

-- a table whose entries are taken
pub record Rows (t : List Float) : Type 0 where
  pub few : levels_in t ≤ 169
  pub long : length t ≡ levels_in t * 720
  pub entries : every entry_taken t ≡ true
  pub f32 : Each F32 t

-- the largest entries of its rows
pub record Tops (t : List Float) (tops : List Float) : Type 0 where
  pub long : length tops ≡ 169
  pub filled : (i : ℕ) → i < levels_in t → get_or tops i nan ≡ largest (row_at t i)

-- a job and a table that a look ahead takes
pub record Passed (j : Job) (t : List Float) : Type 0 where
  pub looked : Looked j t
  pub f32 : Each F32 t
