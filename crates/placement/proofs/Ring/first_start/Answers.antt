-- `Ring::first_start` meets its contract. The invariant: the first start that succeeds is the first from s on. Assumes nothing.
use mathlib.Core.Path.{sym, ap, ◌∙◌}
use native.Mathlib.Omega.{arith}
use lib.ListN.{length}
use Rattle.placement_rules.specs.Ring.{from_start}
use Rattle.placement_rules.specs.Placing.{allowed_at, sixteen}
use Rattle.placement.proofs.Placing.{hands_same, hands_none}
use Rattle.placement.proofs.First.{placed_there, not_placed_there, found, onward, none}
use Rattle.placement.proofs.Ring.first_start.Goals as goal

pub returns-then-is_some : goal.returns-then-is_some
returns-then-is_some c =
    let a = c.args.self.now in
    let row = a.m.now in
    let f = c.place_from-found in
    let some = c.loop-s-test.true in
    let end = c.saturating_sub-s-end.ensures in
    let yes = placed_there f.result (length row) (from_start (allowed_at row a.c) (length row) a.k a.step c.loop-s.s) (sym c.is_some.ensures ∙ c.if-is_some.true) f.ensures.places_are in
    hands_same (ap sixteen (found row a.c a.k a.step a.asked c.loop-s.s c.loop-s.invariant (omega arith) yes)) f.ensures

pub loop-s-preserved : goal.loop-s-preserved
loop-s-preserved c =
    let a = c.args.self.now in
    let row = a.m.now in
    let f = c.place_from-found in
    let some = c.loop-s-test.true in
    let end = c.saturating_sub-s-end.ensures in
    let no = not_placed_there f.result (length row) (from_start (allowed_at row a.c) (length row) a.k a.step c.loop-s.s) (sym c.is_some.ensures ∙ c.if-is_some.false) f.ensures.places_are in
    onward row a.c a.k a.step a.asked c.loop-s.s c.loop-s.invariant (omega arith) no

pub returns : goal.returns
returns c =
    let a = c.args.self.now in
    let h = c.loop-s-test.false in
    let end = c.saturating_sub-s-end.ensures in
    hands_none _ _ (ap sixteen (none a.m.now a.c a.k a.step a.asked c.loop-s.s c.loop-s.invariant (omega arith)))
