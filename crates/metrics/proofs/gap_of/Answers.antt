-- `metrics::gap_of` meets its contract. Assumes nothing.
use lib.Ieee.{of_bits, round}
use Rattle.pair_rules.specs.Rows.{lesser, greater}
use Rattle.metrics.specs.Metrics.{highest, lowest}
use Rattle.metrics.proofs.Folds.{folded_is}
use Rattle.metrics.proofs.gap_of.Goals as goal

pub returns : goal.returns
unfolding highest lowest of_bits round
returns c =
    let p = c.both_levels.ensures in
    rw (c.least.ensures, c.greatest.ensures, p.light, p.dark, folded_is greater _ _, folded_is lesser _ _)
