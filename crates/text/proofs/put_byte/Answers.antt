-- `text::put_byte` meets its contract: there is room for the byte, or none. Assumes nothing.
use Rattle.text.proofs.Put.{puts_one, puts_past}
use Rattle.text.proofs.put_byte.Goals as goal

pub returns-then-at-text : goal.returns-then-at-text
returns-then-at-text c = puts_one _ _ _ c.if-at-text.true

pub returns : goal.returns
returns c = puts_past _ _ _ c.if-at-text.false
