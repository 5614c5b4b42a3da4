-- `ring_answers::put_indices` meets its contract. The invariant: the indices so far are put. Assumes nothing.
use Rattle.ring_answers.proofs.Parted.{indices_none, indices_next}
use Rattle.ring_answers.proofs.put_indices.Goals as goal

pub loop-i-init : goal.loop-i-init
loop-i-init c = indices_none _

pub loop-i-preserved : goal.loop-i-preserved
loop-i-preserved c = indices_next _ _ c.loop-i-test.true c.loop-i.invariant c.put_index-to.ensures
