-- `orientation::replaces` meets its contract: the code's 35 by its pattern is the specification's. Assumes nothing.
use mathlib.Core.Path.{ap, sym}
use lib.Ieee.{of_bits, of_int, neg}
use Rattle.orientation_rules.specs.Orientation.{replaces}
use Rattle.orientation.specs.Inner.{best_of}
use Rattle.orientation.proofs.replaces.Goals as goal

pub returns-in-None : goal.returns-in-None
unfolding of_bits of_int neg
returns-in-None c = sym (ap (λ k. replaces c.args.chroma (best_of k)) c.in-None.is)
