-- `level_set::lower` meets its contract. The invariant: the numbers below i are lowered, and those from i on are as they were. Assumes nothing.
use mathlib.Core.Path.{◌≡◌}
use Prim.Native.Nat.{ℕ, ◌≤◌, ◌<◌}
use lib.Ieee.{nan}
use lib.ListN.{get_or}
use Rattle.pair_rules.specs.Rows.{lesser}
use Rattle.level_set.proofs.lower.Given as goal

abbrev pub invariant-loop-i : goal.invariant-loop-i
invariant-loop-i l = ((h : ℕ) → h < l.i → get_or l.row h nan ≡ lesser (get_or l.by h nan) (get_or l.fn.row h nan)) × ((h : ℕ) → l.i ≤ h → get_or l.row h nan ≡ get_or l.fn.row h nan)
