-- `search::best_of` meets its contract: its hue count has a step, the rows that it lends are those of the two levels, and of what `pair` checks only their entries are left. Assumes nothing.
use mathlib.Core.Path.{sym, ◌∙◌}
use lib.ListN.{length}
use Rattle.limits.proofs.Checks.{said_twice, same_value}
use Rattle.placement_rules.specs.Placing.{step_for}
use Rattle.search.proofs.Going.{own_step, pair_says_lem, given_round}
use Rattle.search.proofs.best_of.Goals as goal

pub returns-in_err-step-clause-gives : goal.returns-in_err-step-clause-gives
returns-in_err-step-clause-gives c = said_twice (own_step c.args.job.now c.requires.sound) (sym c.in_err-step.ensures)

pub returns : goal.returns
returns c =
    let a = c.args in
    let j = a.job.now in
    let room = length a.work.now in
    let step = same_value c.in_ok-step.step (step_for j.settings.k) (c.in_ok-step.ensures ∙ own_step j c.requires.sound) in
    let e = pair_says_lem j a.table.now room a.dark a.light c.in_ok-step.step c.floor_of.result c.requires step c.floor_of.ensures in
    let given = c.best_for_levels.ensures in
    record { gives = given_round j a.table.now room a.dark a.light c.requires e given.gives; untouched = λ w again. given.untouched w (e ∙ again) }
