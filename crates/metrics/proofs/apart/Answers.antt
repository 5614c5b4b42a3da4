-- `metrics::apart` meets its contract. Assumes nothing.
use lib.Ieee.{of_bits, of_int}
use Rattle.metrics.specs.Metrics.{apart}
use Rattle.metrics.proofs.apart.Goals as goal

pub returns : goal.returns
unfolding apart of_bits of_int
returns c = rw (c.lesser.ensures, c.absolute-d.ensures)
