-- `ring_answers::answer_line` meets its contract. Assumes nothing.
use borrow.Author.Rules.{rules}
use Rattle.ring_answers.proofs.Answering.{answer_said}
use Rattle.ring_answers.proofs.answer_line.Goals as goal

pub returns : goal.returns
returns c = answer_said c.said_to-k.ensures (search rules) c.put_answer.ensures
