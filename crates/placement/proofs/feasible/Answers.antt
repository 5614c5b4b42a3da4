-- `placement::feasible` meets its contract: the check says what is refused, and `place` the rest. Assumes nothing.
use mathlib.Core.Path.{refl}
use native.Mathlib.Omega.{arith}
use lib.ListN.{length}
use Rattle.std.proofs.lemmas.Result.{err_from_is_err_and}
use Rattle.placement_rules.specs.Placing.{work_needed}
use Rattle.placement.proofs.Checking.{asked, passed, refusing}
use Rattle.placement.proofs.feasible.Goals as goal

pub returns-in_err-check-clause-gives : goal.returns-in_err-check-clause-gives
returns-in_err-check-clause-gives c =
    let a = c.args in
    let p = err_from_is_err_and c.from_residual.result c.from_residual.ensures.1 in
    let e = refusing a.k a.step a.c a.m.now (length a.work.now) c.check.result _ (c.in_err-check.was) c.check.ensures in
    rw (p.1, p.2, e) (record { says = refl; tightest_is = refl })

pub invariant_of-ring : goal.invariant_of-ring
invariant_of-ring c =
    let a = c.args in
    record { asked = (asked a.k a.step a.c a.m.now (length a.work.now) (passed a.k a.step a.c a.m.now (length a.work.now) c.check.result c.in_ok-check.was c.check.ensures)).0 }

pub place-found-requires : goal.place-found-requires
unfolding work_needed
place-found-requires c =
    let a = c.args in
    let room = (asked a.k a.step a.c a.m.now (length a.work.now) (passed a.k a.step a.c a.m.now (length a.work.now) c.check.result c.in_ok-check.was c.check.ensures)).1 in
    omega (arith, room)
