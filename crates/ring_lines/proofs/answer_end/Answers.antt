-- `ring_lines::answer_end` meets its contract. Assumes nothing.
use Rattle.ring_lines.proofs.Taking.{end_none, end_some}
use Rattle.ring_lines.proofs.answer_end.Goals as goal

pub returns-then-ends_empty : goal.returns-then-ends_empty
returns-then-ends_empty c = end_none _ _ c.ends_empty.ensures c.if-ends_empty.true

pub returns : goal.returns
returns c = end_some _ _ c.ends_empty.ensures c.if-ends_empty.false c.answer_kept.ensures
