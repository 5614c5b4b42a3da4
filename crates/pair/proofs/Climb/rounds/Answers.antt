-- `Climb::rounds` meets its contract. The invariant: what is left of the 30 rounds ends where all of them do. Assumes nothing.
use mathlib.Core.Path.{◌≡◌, sym, ap, subst}
use Prim.Native.Nat.{ℕ}
use lib.Dec.{T}
use Rattle.limits.specs.Answers.{value}
use Rattle.pair_rules.specs.Pair.{best_over, found}
use Rattle.pair.specs.Inner.{Stands}
use Rattle.pair.proofs.Climbing.{floor_met, most_met, begin, onward, settled, at_last}
use Rattle.pair.proofs.Climb.rounds.Goals as goal
use Rattle.pair.proofs.Climb.rounds.Goals.{else-loop-test, then-loop-test+in_default}

pub loop-init : goal.loop-init
loop-init c =
    let ready = c.requires.ready in
    let floats = c.well_formed.0.1.1.1.1.1 in
    begin ready c.args.first (floor_met ready (subst T (sym floats.0.1) tt)) (most_met ready (subst T (sym floats.1.0.1) tt)) c.requires.there

pub turn-requires : goal.turn-requires
turn-requires c = subst (λ (n : ℕ). Stands c.args.self.k c.args.self.step c.args.self.row.now n c.loop.at) (sym c.loop.auto.work) c.loop.invariant.stands

pub loop-preserved : goal.loop-preserved
loop-preserved c = onward c.requires.ready c.loop.invariant c.in-Some.next c.loop-test.true c.in-Some.ensures

pub returns : goal.returns
returns c =
    let a = c.args.self in
    let started = c.requires.there.passes in
    let is : best_over a.k a.step a.floor a.row.now ≡ found c.loop.at.lo c.loop.at.placed.hues = elim c.loop-test.branch [
      | else-loop-test w ↦ at_last c.requires.ready c.loop.invariant started w.loop-test.false
      | then-loop-test+in_default w ↦ settled c.requires.ready c.loop.invariant started w.in_default.ensures
    ] in
    record { says = sym (ap value is); tightest_is = rw is c.loop.invariant.stands.there.tightest_is }
