-- `pair::check` meets its contract: unequal rows are refused as a row without entries is, and equal ones by what the second or else the first is. Assumes nothing.
use mathlib.Core.Path.{sym, ◌∙◌}
use Rattle.std.proofs.lemmas.Result.{err_from_is_err_and}
use Rattle.pair.proofs.Checking.{unequal, second_refused, first_says}
use Rattle.pair.proofs.check.Goals as goal

pub returns-then-a-b : goal.returns-then-a-b
returns-then-a-b c = let a = c.args in c.check.ensures ∙ unequal a.k a.step a.floor a.a.now a.b.now a.room c.if-a-b.true

pub returns-in_err-check : goal.returns-in_err-check
returns-in_err-check c =
    let a = c.args in
    let p = err_from_is_err_and c.from_residual.result c.from_residual.ensures.1 in
    rw (p.1, p.2) (sym (second_refused a.k a.step a.floor a.a.now a.b.now a.room c.if-a-b.false _ (sym c.in_err-check.ensures)))

pub returns : goal.returns
returns c = let a = c.args in c.check-3.ensures ∙ first_says a.k a.step a.floor a.a.now a.b.now a.room c.if-a-b.false (sym c.in_ok-check.ensures)
