-- `ring_lines::put_answer` meets its contract. Assumes nothing.
use mathlib.Core.Path.{sym}
use lib.Seq.{length-take-le}
use Rattle.text.proofs.Put.{laid_front, laid_within}
use Rattle.ring_lines.proofs.put_answer.Goals as goal

pub slice_bounds-text-end : goal.slice_bounds-text-end
slice_bounds-text-end c = laid_within c.answer_kept-n.ensures

pub slice_bounds-put_bytes-end : goal.slice_bounds-put_bytes-end
slice_bounds-put_bytes-end c = sym (length-take-le _ _ (laid_within c.answer_kept-n.ensures))

pub returns : goal.returns
returns c = rw (laid_front c.answer_kept-n.ensures) at c.put_bytes.ensures
