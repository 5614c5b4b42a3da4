-- `search::floor_of` meets its contract: the code's 35 by its pattern is the specification's. Assumes nothing.
use mathlib.Core.Path.{sym, ap}
use lib.Ieee.{of_bits, of_int, neg}
use Rattle.search_rules.specs.Job.{floor_of}
use Rattle.search.proofs.floor_of.Goals as goal

pub returns-in-None : goal.returns-in-None
unfolding of_bits of_int neg
returns-in-None c = sym (ap floor_of c.in-None.is)
