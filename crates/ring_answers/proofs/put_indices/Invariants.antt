-- `ring_answers::put_indices` meets its contract. The invariant: the indices so far are put. Assumes nothing.
use lib.ListN.{take}
use Rattle.text.specs.Put.{PutIn}
use Rattle.ring_answers.specs.Answers.{parted}
use Rattle.ring_answers.proofs.put_indices.Given as goal

abbrev pub invariant-loop-i : goal.invariant-loop-i
invariant-loop-i l = PutIn l.initial.text 0 (parted (take l.i l.hue-items)) l.text l.to
