-- `search::step` meets its contract: the check says what is refused, and the pair of levels at the position the rest. Assumes nothing.
use mathlib.Core.Path.{sym, ◌∙◌, subst}
use Prim.Native.Nat.{◌/◌, ◌%◌}
use native.Mathlib.Nat.{div-lt_iff_lt-mul, mod-lt}
use native.Mathlib.Omega.{arith}
use lib.ListN.{length}
use Rattle.search_rules.specs.Job.{searched, step_says, Gives}
use Rattle.search_rules.proofs.Unbroken.{sound, square}
use Rattle.search.proofs.Checking.{step_fine, step_wrong, step_known}
use Rattle.search.proofs.Giving.{passing_on}
use Rattle.search.proofs.step.Goals as goal

pub nonzero_div-dark : goal.nonzero_div-dark
nonzero_div-dark c = (sound c.args.job.now (step_known c.args.job.now (length c.args.table.now) (length c.args.work.now) c.in_ok-check_step.ensures).sound).some_level

pub nonzero_rem-light : goal.nonzero_rem-light
nonzero_rem-light c = (sound c.args.job.now (step_known c.args.job.now (length c.args.table.now) (length c.args.work.now) c.in_ok-check_step.ensures).sound).some_level

pub go_through-requires : goal.go_through-requires
go_through-requires c =
    let j = c.args.job.now in
    let known = step_known j (length c.args.table.now) (length c.args.work.now) c.in_ok-check_step.ensures in
    let s = sound j known.sound in
    let inside = known.unfinished in
    let most = square j.levels s.few_levels in
    record { sound = known.sound; long = known.whole; room_enough = known.room_enough; dark_in = (div-lt_iff_lt-mul {k = j.levels} {x = j.position} {y = j.levels} s.some_level).1 inside; light_in = mod-lt j.position s.some_level; unfinished = omega arith }

pub returns-in_err-check_step-clause-gives : goal.returns-in_err-check_step-clause-gives
unfolding step_says
returns-in_err-check_step-clause-gives c =
    let j = c.args.job.now in
    let t = c.args.table.now in
    let w = c.in_err-check_step.field-0.0 in
    passing_on j c.from_residual.result w c.from_residual.ensures.1 (step_wrong j (length t) (length c.args.work.now) (searched j t (j.position / j.levels) (j.position % j.levels)) w c.in_err-check_step.ensures)

pub returns : goal.returns
unfolding step_says
returns c =
    let j = c.args.job.now in
    let t = c.args.table.now in
    let e = step_fine j (length t) (length c.args.work.now) (searched j t (j.position / j.levels) (j.position % j.levels)) c.in_ok-check_step.ensures in
    let given = c.go_through.ensures in
    record { gives = subst (Gives c.go_through.result j c.go_through.new.job) (sym e) given.gives; untouched = λ w again. given.untouched w (sym e ∙ again) }
