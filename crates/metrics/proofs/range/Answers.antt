-- `metrics::range` meets its contract. Assumes nothing.
use lib.Ieee.{of_bits, round}
use Rattle.pair_rules.specs.Rows.{lesser, greater}
use Rattle.metrics.specs.Metrics.{highest, lowest, spread_in}
use Rattle.metrics.proofs.Folds.{folded_is}
use Rattle.metrics.proofs.range.Goals as goal

pub returns : goal.returns
unfolding spread_in highest lowest round of_bits
returns c = rw (c.greatest.ensures, c.least.ensures, folded_is greater _ c.args.values.now, folded_is lesser _ c.args.values.now)
