-- `ring_lines::answer_piece` meets its contract. The invariant: what is held and what is written are those of the bytes that are taken. Assumes nothing.
use Rattle.ring_lines.proofs.Taking.{AsFar}
use Rattle.ring_lines.proofs.answer_piece.Given as goal

abbrev pub invariant-loop-taken : goal.invariant-loop-taken
invariant-loop-taken l = AsFar l.initial.buffer l.held l.piece l.initial.out l.buffer l.count l.out l.written l.taken
