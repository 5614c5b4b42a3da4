-- `ceiling::largest_of` meets its contract. The invariant: the largest of the values that are left and of the number whose pattern is held is the largest of all. Assumes nothing.
use mathlib.Core.Path.{◌≡◌}
use Prim.Native.Nat.{◌<◌}
use lib.Ieee.{binary32, of_bits}
use lib.ListN.{drop}
use Rattle.pair_rules.specs.Rows.{largest_from, largest}
use Rattle.ceiling.proofs.largest_of.Given as goal

abbrev pub invariant-loop-x : goal.invariant-loop-x
invariant-loop-x l = (l.most < 2139095040) × (largest_from (of_bits binary32 l.most) (drop l.x-index l.row) ≡ largest l.row)
