-- `ceiling::check` multiplies a number of levels that is at most 169, since the record is not broken. Assumes nothing.
use mathlib.Core.Path.{sym, ◌∙◌}
use native.Mathlib.Omega.{arith}
use Rattle.search_rules.proofs.Unbroken.{sound}
use Rattle.ceiling.proofs.check.Goals as goal

pub overflow_mul-job : goal.overflow_mul-job
overflow_mul-job c =
    let few = (sound c.args.job (sym c.is_unbroken.ensures ∙ c.if-not-is_unbroken.false)).few_levels in
    omega arith
