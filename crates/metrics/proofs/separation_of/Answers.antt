-- `metrics::separation_of` meets its contract. Assumes nothing.
use lib.Ieee.{of_bits}
use Rattle.metrics.proofs.separation_of.Goals as goal

pub returns : goal.returns
unfolding of_bits
returns c =
    let p = c.both_levels.ensures in
    rw (c.least_apart-2.ensures, c.least_apart.ensures, p.light, p.dark)
