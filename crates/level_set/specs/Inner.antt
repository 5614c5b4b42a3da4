-- What the private functions of this crate ask and promise among themselves. Nothing here is a promise to a caller. Definitions only.
use Rattle.std.specs.Prelude.{◌≡◌, List, ℕ, ◌*◌, ◌≤◌, ◌<◌, false, Float, length, get_or, replicate}
use Rattle.std.specs.Float.{nan, inf}
use Rattle.limits.specs.Each.{Each}
use Rattle.gamut.specs.Table.{levels_in}
use Rattle.pair_rules.specs.Rows.{lesser}

-- a level of a table
pub record LevelOf (t : List Float) (level : ℕ) : Type 0 where
  pub long : length t ≡ levels_in t * 720
  pub few_levels : levels_in t ≤ 169
  pub within : level < levels_in t

-- some levels of a table
pub record Named (t : List Float) (levels : List ℕ) : Type 0 where
  pub long : length t ≡ levels_in t * 720
  pub few_levels : levels_in t ≤ 169
  pub some_level : 1 ≤ length levels
  pub within : Each (λ l. l < levels_in t) levels

-- a row as long as another
abbrev pub Long : List Float → List Float → Type 0
Long by row = length by ≡ length row

-- 720 numbers of plus infinity
abbrev pub Endless : List Float → Type 0
Endless row = row ≡ replicate 720 (inf false)

-- each number is the lesser of an entry and what stood there
pub record Lowered (by row next : List Float) : Type 0 where
  pub long : length next ≡ length row
  pub at : (i : ℕ) → i < length row → get_or next i nan ≡ lesser (get_or by i nan) (get_or row i nan)
