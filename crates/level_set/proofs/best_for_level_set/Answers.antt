-- `level_set::best_for_level_set` meets its contract: the step and the check say what is refused; else the row is that of least values, and what is said depends on whether its largest
-- is above 0. Assumes nothing.
use mathlib.Core.Path.{refl, sym, ◌∙◌, subst}
use mathlib.Core.List.{List}
use Prim.Native.Nat.{ℕ}
use lib.Ieee.{Float, of_bits, of_int}
use lib.ListN.{length}
use Rattle.std.proofs.lemmas.Result.{err_from_is_err_and}
use Rattle.limits.proofs.Checks.{said_twice}
use Rattle.pair_rules.specs.Pair.{Gives}
use Rattle.pair_rules.proofs.Gaps.{gives_refused}
use Rattle.level_set_rules.specs.Meant.{SetTaken}
use Rattle.level_set.specs.Inner.{Named}
use Rattle.level_set.proofs.Choosing.{declined, has_step, refusing, passing, taken, given_round, something, nothing}
use Rattle.level_set.proofs.best_for_level_set.Goals as goal

pub returns-in_err-step-clause-gives : goal.returns-in_err-step-clause-gives
returns-in_err-step-clause-gives c =
    let a = c.args in
    let p = err_from_is_err_and c.from_residual.result c.from_residual.ensures.1 in
    rw (p.1, p.2) (gives_refused (declined a.k a.table.now a.levels.now (length a.work.now) _ c.in_err-step.ensures))

pub returns-in_err-check-clause-gives : goal.returns-in_err-check-clause-gives
returns-in_err-check-clause-gives c =
    let a = c.args in
    let p = err_from_is_err_and c.from_residual-in_err-check.result c.from_residual-in_err-check.ensures.1 in
    rw (p.1, p.2) (gives_refused (refusing a.k a.table.now a.levels.now (length a.work.now) c.in_ok-step.step c.in_ok-step.ensures _ c.in_err-check.ensures))

named : {k room : ℕ} {t : List Float} {levels : List ℕ} → SetTaken k t levels room → Named t levels
named h = record { long = h.whole_levels; few_levels = h.levels_in_range.1; some_level = h.listed.0; within = h.within }

pub lower_all-requires : goal.lower_all-requires
unfolding of_bits
lower_all-requires c =
    let a = c.args in
    (named (taken a.k a.table.now a.levels.now (length a.work.now) c.in_ok-step.step c.in_ok-step.ensures c.in_ok-check.ensures), refl)

pub returns-then-largest-clause-gives : goal.returns-then-largest-clause-gives
unfolding of_bits of_int
returns-then-largest-clause-gives c =
    let a = c.args in
    let room = length a.work.now in
    let step = c.in_ok-step.step in
    let is = c.in_ok-step.ensures in
    let h = taken a.k a.table.now a.levels.now room step is c.in_ok-check.ensures in
    let for = (has_step a.k a.table.now a.levels.now room step is).1 in
    let says = something a.k step a.table.now a.levels.now room h _ c.lower_all.ensures for c.largest.result c.largest.ensures c.if-largest.true in
    given_round a.k step a.table.now a.levels.now room h _ c.lower_all.ensures (says ∙ sym (passing a.k a.table.now a.levels.now room step is c.in_ok-check.ensures)) c.best_for_row.ensures.gives

pub returns-then-largest-clause-untouched : goal.returns-then-largest-clause-untouched
returns-then-largest-clause-untouched c =
    let a = c.args in
    λ w again. said_twice (passing a.k a.table.now a.levels.now (length a.work.now) c.in_ok-step.step c.in_ok-step.ensures c.in_ok-check.ensures) again

pub returns-clause-gives : goal.returns-clause-gives
unfolding of_bits of_int
returns-clause-gives c =
    let a = c.args in
    let room = length a.work.now in
    let step = c.in_ok-step.step in
    let is = c.in_ok-step.ensures in
    let h = taken a.k a.table.now a.levels.now room step is c.in_ok-check.ensures in
    let says = nothing a.k step a.table.now a.levels.now room h _ c.lower_all.ensures c.largest.result c.largest.ensures c.if-largest.false in
    subst (Gives 720 a.k _) (says ∙ sym (passing a.k a.table.now a.levels.now room step is c.in_ok-check.ensures)) (record { says = refl; tightest_is = refl })
