-- `hue::changes_side` meets its contract, by its two tests. Assumes nothing.
use lib.Ieee.{of_bits, of_int}
use Rattle.hue.specs.Hue.{changes}
use Rattle.hue.proofs.changes_side.Goals as goal

pub returns-then-x : goal.returns-then-x
unfolding changes of_bits of_int
returns-then-x c = rw c.if-x.true

pub returns-else-x : goal.returns-else-x
unfolding changes of_bits of_int
returns-else-x c = rw c.if-x.false
