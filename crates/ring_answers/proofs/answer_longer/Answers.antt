-- `ring_answers::answer_longer` meets its contract. Assumes nothing.
use borrow.Author.Rules.{rules}
use Rattle.ring_answers.proofs.Answering.{malformed_said}
use Rattle.ring_answers.proofs.answer_longer.Goals as goal

pub returns : goal.returns
returns c = malformed_said (search rules) c.put_answer.ensures
