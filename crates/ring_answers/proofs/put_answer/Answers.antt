-- `ring_answers::put_answer` meets its contract. Assumes nothing.
use Rattle.ring_answers.proofs.Writing.{puts_answer}
use Rattle.ring_answers.proofs.put_answer.Goals as goal

pub returns : goal.returns
returns c = puts_answer _ _ c.put_text-end.ensures c.put_byte.ensures
