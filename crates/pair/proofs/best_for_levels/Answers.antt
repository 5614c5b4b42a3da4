-- `pair::best_for_levels` meets its contract: the check says what is refused, and `best` the rest. Assumes nothing.
use mathlib.Core.Path.{sym}
use mathlib.Core.List.{[], ◌∷◌}
use lib.ListN.{length}
use Rattle.std.proofs.lemmas.Result.{err_from_is_err_and}
use Rattle.limits.proofs.Checks.{said_twice}
use Rattle.pair_rules.proofs.Gaps.{gives_same, gives_refused}
use Rattle.pair_rules.proofs.Rows.{least_long}
use Rattle.pair.proofs.Checking.{passing, refusing}
use Rattle.pair.proofs.best_for_levels.Goals as goal

pub best-requires : goal.best-requires
best-requires c = sym c.in_ok-check.ensures

pub returns-in_err-check-clause-gives : goal.returns-in_err-check-clause-gives
returns-in_err-check-clause-gives c =
    let a = c.args in
    let p = err_from_is_err_and c.from_residual.result c.from_residual.ensures.1 in
    rw (p.1, p.2) (gives_refused (refusing a.k a.step a.floor (a.a.now ∷ a.b.now ∷ []) (length a.work.now) _ (sym c.in_err-check.ensures)))

pub returns-clause-gives : goal.returns-clause-gives
returns-clause-gives c =
    let a = c.args in
    let rows = a.a.now ∷ a.b.now ∷ [] in
    gives_same (least_long rows) (sym (passing a.k a.step a.floor rows (length a.work.now) (sym c.in_ok-check.ensures))) c.best.ensures

pub returns-clause-untouched : goal.returns-clause-untouched
returns-clause-untouched c =
    let a = c.args in
    λ w again. said_twice (passing a.k a.step a.floor (a.a.now ∷ a.b.now ∷ []) (length a.work.now) (sym c.in_ok-check.ensures)) again
