-- `pair::largest` meets its contract. The invariant: the largest of the values that are left and the largest so far is the largest of all. Assumes nothing.
use mathlib.Core.Path.{◌≡◌}
use lib.ListN.{drop}
use Rattle.pair_rules.specs.Rows.{largest_from, largest}
use Rattle.pair.proofs.largest.Given as goal

abbrev pub invariant-loop-value : goal.invariant-loop-value
invariant-loop-value l = largest_from l.most (drop l.value-index l.row) ≡ largest l.row
