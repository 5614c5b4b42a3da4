-- `ring_answers::put_refused` meets its contract. Assumes nothing.
use mathlib.Core.Path.{◌∙◌}
use Rattle.ring_answers.proofs.Writing.{puts_refused}
use Rattle.ring_answers.proofs.put_refused.Goals as goal

pub returns : goal.returns
returns c = puts_refused _ _ (c.from.ensures ∙ c.number.ensures) c.put_bytes-at.ensures c.put_number.ensures
