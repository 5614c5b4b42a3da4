-- `metrics::absolute` meets its contract. Assumes nothing.
use lib.Ieee.{of_bits, of_int}
use Rattle.metrics.specs.Metrics.{absolute}
use Rattle.metrics.proofs.absolute.Goals as goal

pub returns-then-x : goal.returns-then-x
unfolding absolute of_bits of_int
returns-then-x c = rw c.if-x.true

pub returns-else-x : goal.returns-else-x
unfolding absolute of_bits of_int
returns-else-x c = rw c.if-x.false
