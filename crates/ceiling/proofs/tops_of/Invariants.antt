-- `ceiling::tops_of` meets its contract: so many rows are behind, and the places of their levels hold their largest entries. Assumes nothing.
use mathlib.Core.Path.{◌≡◌}
use lib.ListN.{length}
use Rattle.ceiling.proofs.Filling.{Behind}
use Rattle.ceiling.proofs.tops_of.Given as goal

abbrev pub invariant-loop-i : goal.invariant-loop-i
invariant-loop-i l = (length l.tops ≡ 169) × Behind l.table l.i-iterator l.tops
