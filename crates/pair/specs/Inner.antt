-- What the private functions of this crate ask and promise among themselves. Nothing here is a promise to a caller. Definitions only.
use Rattle.std.specs.Prelude.{◌≡◌, true, false, List, ℕ, suc, Float, length, take, Option, Some, None, Ok}
use Rattle.std.specs.Float.Ieee.{lt}
use Rattle.limits.specs.Answers.{value, pass}
use Rattle.halving.specs.Midpoint.{halve}
use Rattle.halving.proofs.Meeting.{Met}
use Rattle.placement_rules.specs.Ring.{placed}
use Rattle.placement_rules.specs.Gaps.{tightest}
use Rattle.placement_rules.specs.declared.Placement.{Placement}
use Rattle.placement_rules.specs.Placing.{sixteen, checked}
use Rattle.pair_rules.specs.declared.Chosen.{Chosen}
use Rattle.pair_rules.specs.Rows.{largest}
use Rattle.pair_rules.specs.Pair.{placed_at, placeable, best_over, rows_checked, Gives}
use Rattle.pair.specs.declared.Bracket.{Bracket}

-- rows and arguments that are taken
abbrev pub Taken : ℕ → ℕ → Float → List (List Float) → ℕ → Type 0
Taken k step floor rows room = rows_checked k step floor rows room pass ≡ pass

-- a row that placement takes at the floor, with its largest value, which is not below the floor
pub record Ready (k step : ℕ) (floor most : Float) (row : List Float) (room : ℕ) : Type 0 where
  pub fine : checked k step floor row room pass ≡ pass
  pub top : most ≡ largest row
  pub above : lt most floor ≡ false

-- these hues are placed at c, and this is their smallest gap
pub record There (k step : ℕ) (row : List Float) (c : Float) (p : Placement) : Type 0 where
  pub passes : placeable k step row c ≡ true
  pub beside : sixteen (placed_at k step row c) ≡ placed p.hues
  pub tightest_is : p.tightest ≡ tightest (length row) (take k p.hues)

-- hues are placed at c, or none are
abbrev pub Tried : ℕ → ℕ → List Float → Float → Option Placement → Type 0
Tried k step row c (Some p) = There k step row c p
Tried k step row c None = placeable k step row c ≡ false

-- where a halving stands: ends that it meets, with the hues that are placed at the lower one, over a row that placement takes there
pub record Stands (k step : ℕ) (row : List Float) (room : ℕ) (at : Bracket) : Type 0 where
  pub fine : checked k step at.lo row room pass ≡ pass
  pub there : There k step row at.lo at.placed
  pub low : Met at.lo
  pub high : Met at.hi

-- one round on: the rounds that are left end where they did
pub record Moved (k step : ℕ) (row : List Float) (at next : Bracket) : Type 0 where
  pub there : There k step row next.lo next.placed
  pub low : Met next.lo
  pub high : Met next.hi
  pub onward : (n : ℕ) → halve (placeable k step row) (suc n) at.lo at.hi ≡ halve (placeable k step row) n next.lo next.hi

-- the same, or the rounds that are left change nothing and end at the lower end
abbrev pub Turned : ℕ → ℕ → List Float → Bracket → Option Bracket → Type 0
Turned k step row at (Some next) = Moved k step row at next
Turned k step row at None = (n : ℕ) → halve (placeable k step row) n at.lo at.hi ≡ at.lo

-- what is handed back is the best over a row that is taken
abbrev pub IsBest : ℕ → ℕ → Float → List Float → Option Chosen → Type 0
IsBest k step floor row best = Gives (length row) k (Ok best) (value (best_over k step floor row))
