-- The squares that `search_checks::check_step` computes do not overflow: a record that is not broken has few levels. Assumes nothing.
use mathlib.Core.Path.{sym, ◌∙◌}
use native.Mathlib.Omega.{arith}
use Rattle.search_rules.proofs.Unbroken.{sound, square}
use Rattle.search_checks.proofs.check_step.Goals as goal

pub overflow_mul-job : goal.overflow_mul-job
overflow_mul-job c =
    let j = c.args.job in
    let s = square j.levels (sound j (sym c.is_unbroken.ensures ∙ c.if-not-is_unbroken.false)).few_levels in
    omega arith

pub overflow_mul-job-2 : goal.overflow_mul-job-2
overflow_mul-job-2 c =
    let few = (sound c.args.job (sym c.is_unbroken.ensures ∙ c.if-not-is_unbroken.false)).few_levels in
    omega arith
