-- `pair::best_for_row` meets its contract: the check says what is refused, and `Climb::best` the rest. Assumes nothing.
use mathlib.Core.Path.{refl, sym}
use lib.ListN.{length}
use Rattle.std.proofs.lemmas.Result.{err_from_is_err_and}
use Rattle.limits.proofs.Checks.{said_twice}
use Rattle.pair_rules.proofs.Gaps.{gives_same, gives_refused}
use Rattle.pair.proofs.Checking.{one_refusing, one_passing}
use Rattle.pair.proofs.best_for_row.Goals as goal

pub returns-in_err-check-clause-gives : goal.returns-in_err-check-clause-gives
returns-in_err-check-clause-gives c =
    let a = c.args in
    let p = err_from_is_err_and c.from_residual.result c.from_residual.ensures.1 in
    rw (p.1, p.2) (gives_refused (one_refusing a.k a.step a.floor a.row.now (length a.work.now) _ (sym c.in_err-check.ensures)))

pub returns-clause-gives : goal.returns-clause-gives
returns-clause-gives c =
    let a = c.args in
    gives_same refl (sym (one_passing a.k a.step a.floor a.row.now (length a.work.now) (sym c.in_ok-check.ensures))) c.best.ensures

pub returns-clause-untouched : goal.returns-clause-untouched
returns-clause-untouched c =
    let a = c.args in
    λ w again. said_twice (one_passing a.k a.step a.floor a.row.now (length a.work.now) (sym c.in_ok-check.ensures)) again
