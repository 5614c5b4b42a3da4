-- `lamp_input::read_ask` meets its contract: a line that begins otherwise, and the numbers of one that begins with `ask` and a space. Assumes nothing.
use Rattle.lamp_input.proofs.Steps.{no_ask, is_line}
use Rattle.lamp_input.proofs.read_ask.Goals as goal

pub returns-in_err-text : goal.returns-in_err-text
returns-in_err-text c = rw c.from_residual.ensures (no_ask _ c.type_inv.line c.in_err-text.ensures.cases)

pub loop-byte-init : goal.loop-byte-init
loop-byte-init c = let h = c.in_ok-text.ensures.cases in (tt, is_line _ _ h.0 h.1)
