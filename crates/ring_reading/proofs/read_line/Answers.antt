-- `ring_reading::read_line` meets its contract: its length, its four numbers and its entries. Assumes nothing.
use Rattle.ring_reading.proofs.Shape.{too_long, no_head, by_entries}
use Rattle.ring_reading.proofs.read_line.Goals as goal

pub returns-then-line-gt4096 : goal.returns-then-line-gt4096
returns-then-line-gt4096 c = too_long _ c.if-line-gt4096.true

pub returns-in_err-head_of : goal.returns-in_err-head_of
returns-in_err-head_of c = rw c.from_residual.ensures (no_head _ c.if-line-gt4096.false c.in_err-head_of.ensures)

pub returns : goal.returns
returns c = by_entries _ c.if-line-gt4096.false _ c.in_ok-head_of.ensures c.read_entries.ensures
