-- `search::search` meets its contract: the check of a start says what is refused first, then the room, and the rest is all the steps. Assumes nothing.
use mathlib.Core.Path.{◌≡◌, sym, ap, ◌∙◌}
use mathlib.Core.Bool.{cond}
use mathlib.Core.List.{List}
use Prim.Native.Nat.{ℕ, ◌*◌, ◌/◌, ◌≤◌, ◌<◌}
use native.Mathlib.Omega.{arith}
use lib.Dec.{leb}
use lib.Ieee.{Float}
use lib.ListN.{length}
use borrow.Author.Tests.{le-leb, lt-leb}
use Rattle.limits.specs.Answers.{Said, value, refused}
use Rattle.limits.specs.declared.Refusal.TheVariants.{WorkBuffer}
use Rattle.limits.proofs.Checks.{said_twice}
use Rattle.gamut.specs.Table.{levels_in}
use Rattle.placement_rules.specs.Placing.{work_needed}
use Rattle.search_rules.specs.declared.Settings.{Settings}
use Rattle.search_rules.specs.declared.Job.{Job}
use Rattle.search_rules.specs.Job.{begun, steps_from, search_says}
use Rattle.search_rules.proofs.Unbroken.{square}
use Rattle.search.proofs.Checking.{start_fine, start_wrong, start_levels}
use Rattle.search.proofs.Giving.{accepting, refusing, passing_on}
use Rattle.search.proofs.search.Goals as goal

-- what follows the checks of a start: the work buffer, and then all the steps
module _ (s : Settings) (table : List Float) (room : ℕ) where
  abbrev checked_room : Said Job
  checked_room = cond (leb (work_needed 720) room) (value (steps_from (levels_in table * levels_in table) (begun s (levels_in table)) table room)) (refused 8)

  too_little : room < work_needed 720 → checked_room ≡ refused 8
  too_little h = rw (lt-leb (work_needed 720) room h)

  enough : work_needed 720 ≤ room → checked_room ≡ value (steps_from (levels_in table * levels_in table) (begun s (levels_in table)) table room)
  enough h = rw (le-leb (work_needed 720) room h)

pub returns-in_err-check_start-clause-gives : goal.returns-in_err-check_start-clause-gives
unfolding search_says
returns-in_err-check_start-clause-gives c =
    let a = c.args in
    let w = c.in_err-check_start.field-0.0 in
    passing_on a.job.now c.from_residual.result w c.from_residual.ensures.1 (start_wrong a.settings a.table.now (checked_room a.settings a.table.now (length a.work.now)) w c.in_err-check_start.ensures)

pub returns-then-work-lt-HUES-clause-gives : goal.returns-then-work-lt-HUES-clause-gives
unfolding search_says work_needed
returns-then-work-lt-HUES-clause-gives c =
    let a = c.args in
    let room = length a.work.now in
    refusing a.job.now WorkBuffer (start_fine a.settings a.table.now (checked_room a.settings a.table.now room) c.in_ok-check_start.ensures ∙ too_little a.settings a.table.now room c.if-work-lt-HUES.true)

pub overflow_mul-levels : goal.overflow_mul-levels
unfolding levels_in
overflow_mul-levels c =
    let a = c.args in
    let few = (start_levels a.settings a.table.now c.in_ok-check_start.ensures).few_levels in
    let most = square (length a.table.now / 720) few in
    omega arith

pub returns : goal.returns
unfolding search_says levels_in work_needed
returns c =
    let a = c.args in
    let table = a.table.now in
    let room = length a.work.now in
    let n = levels_in table in
    let e = start_fine a.settings table (checked_room a.settings table room) c.in_ok-check_start.ensures ∙ enough a.settings table room c.if-work-lt-HUES.false in
    let last = c.take_steps.ensures ∙ ap (λ (j : Job). steps_from (n * n) j table room) c.begin.ensures in
    record { gives = accepting a.job.now (e ∙ ap value (sym last)); untouched = λ w again. said_twice e again }
