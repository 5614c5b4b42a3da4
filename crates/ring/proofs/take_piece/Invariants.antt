-- `ring::take_piece` ends: each turn takes some of the bytes that are left. Assumes nothing.
use Rattle.std.proofs.Common.{length}
use Rattle.ring.proofs.take_piece.Given as goal

abbrev pub decreases-loop-rest : goal.decreases-loop-rest
decreases-loop-rest g l = length l.rest
