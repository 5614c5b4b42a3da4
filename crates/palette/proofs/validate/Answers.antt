-- `palette::validate`: a hue count that is taken is at most 16. Assumes nothing.
use mathlib.Core.Path.{sym, ◌∙◌}
use native.Mathlib.Omega.{arith}
use Rattle.limits.proofs.HueCount.{hue_count}
use Rattle.palette.proofs.validate.Goals as goal

pub overflow_mul-k : goal.overflow_mul-k
overflow_mul-k c = let few = (hue_count c.args.k (sym c.takes_hue_count.ensures ∙ c.if-not-takes_hue_count.false)).1 in omega arith

pub first_finding-finding-requires : goal.first_finding-finding-requires
first_finding-finding-requires c = (hue_count c.args.k (sym c.takes_hue_count.ensures ∙ c.if-not-takes_hue_count.false)).1
