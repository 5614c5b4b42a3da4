-- `pair::lesser_row` meets its contract. The invariant: the entries below i are written, and the largest of the values from i on and the largest so far is the
-- largest of all. Assumes nothing.
use mathlib.Core.Path.{◌≡◌}
use mathlib.Core.List.{[], ◌∷◌}
use Prim.Native.Nat.{ℕ, ◌<◌}
use lib.Ieee.{nan}
use lib.ListN.{get_or, drop}
use Rattle.pair_rules.specs.Rows.{value_at, least_row, largest_from, largest}
use Rattle.pair.proofs.lesser_row.Given as goal

abbrev pub invariant-loop-i : goal.invariant-loop-i
invariant-loop-i l =
    ((k : ℕ) → k < l.i → get_or l.row k nan ≡ value_at (l.a ∷ l.b ∷ []) k)
    × (largest_from l.most (drop l.i (least_row (l.a ∷ l.b ∷ []))) ≡ largest (least_row (l.a ∷ l.b ∷ [])))
