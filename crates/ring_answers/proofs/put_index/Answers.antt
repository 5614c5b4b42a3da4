-- `ring_answers::put_index` meets its contract. Assumes nothing.
use Rattle.ring_answers.proofs.Parted.{puts_first_index, puts_later_index}
use Rattle.ring_answers.proofs.put_index.Goals as goal

pub returns-then-i-eq0 : goal.returns-then-i-eq0
returns-then-i-eq0 c = puts_first_index _ _ c.if-i-eq0.true c.put_number.ensures

pub returns : goal.returns
returns c = puts_later_index _ _ c.if-i-eq0.false c.put_byte-next.ensures c.put_number-2.ensures
