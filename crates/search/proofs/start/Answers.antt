-- `search::start` meets its contract: the check says what is refused, and the rest is the job at the beginning. Assumes nothing.
use mathlib.Core.Path.{ap, sym, ◌∙◌}
use Rattle.limits.specs.Answers.{value}
use Rattle.gamut.specs.Table.{levels_in}
use Rattle.search_rules.specs.Job.{begun, start_says}
use Rattle.search.proofs.Checking.{start_fine, start_wrong}
use Rattle.search.proofs.Giving.{accepting, passing_on}
use Rattle.search.proofs.start.Goals as goal

pub returns-in_err-check_start : goal.returns-in_err-check_start
unfolding start_says
returns-in_err-check_start c =
    let a = c.args in
    let w = c.in_err-check_start.field-0.0 in
    passing_on a.job.now c.from_residual.result w c.from_residual.ensures.1 (start_wrong a.settings a.table.now (value (begun a.settings (levels_in a.table.now))) w c.in_err-check_start.ensures)

pub returns : goal.returns
unfolding start_says levels_in
returns c =
    let a = c.args in
    accepting a.job.now (start_fine a.settings a.table.now (value (begun a.settings (levels_in a.table.now))) c.in_ok-check_start.ensures ∙ ap value (sym c.begin.ensures))
