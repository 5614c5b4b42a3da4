-- `metrics::chroma_of` meets its contract. Assumes nothing.
use lib.Ieee.{of_bits}
use Rattle.metrics.proofs.Folds.{folded_is}
use Rattle.metrics.proofs.chroma_of.Goals as goal

pub returns : goal.returns
unfolding of_bits
returns c =
    let p = c.both_levels.ensures in
    rw (c.least-2.ensures, c.least.ensures, p.light, p.dark) (simp folded_is)
