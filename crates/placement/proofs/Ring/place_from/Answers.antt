-- `Ring::place_from` meets its contract. The invariant is `Turn`: what was asked at entry, and that what is stored so far, with the rest of the definition from cur
-- on, is the whole. Assumes nothing.
use mathlib.Core.Path.{◌∙◌}
use Rattle.placement.proofs.Table.{allowed_there}
use Rattle.placement.proofs.Placing.{hands_same, hands_none}
use Rattle.placement.proofs.Turns.{not_begun, begun, past, none_ahead, turned, gap_short, gap_enough, all_stored}
use Rattle.placement.proofs.Ring.place_from.Goals as goal

pub returns-then-not-self-start : goal.returns-then-not-self-start
returns-then-not-self-start c =
    let a = c.args.self.now in
    hands_none _ _ (not_begun a.m.now a.c a.k a.step c.args.start (allowed_there a.m.now a.c c.args.start c.requires.1 ∙ c.if-not-self-start.true))

pub loop-at-init : goal.loop-at-init
loop-at-init c =
    let a = c.args.self.now in
    begun a.asked c.requires.0 c.requires.1 (allowed_there a.m.now a.c c.args.start c.requires.1 ∙ c.if-not-self-start.false)

pub returns-then-stop-from : goal.returns-then-stop-from
returns-then-stop-from c = hands_none _ _ (past c.loop-at.invariant c.loop-at-test.true c.if-stop-from.true)

pub returns-then-stop-j : goal.returns-then-stop-j
returns-then-stop-j c = hands_none _ _ (none_ahead c.loop-at.invariant c.ahead-j.result c.ahead-j.ensures c.loop-at-test.true c.if-stop-from.false c.if-stop-j.true)

pub loop-at-preserved : goal.loop-at-preserved
loop-at-preserved c = turned c.loop-at.invariant c.ahead-j.result c.ahead-j.ensures c.loop-at-test.true c.if-stop-from.false c.reduce.result c.reduce.ensures c.if-stop-j.false

pub returns-then-stop-cur : goal.returns-then-stop-cur
returns-then-stop-cur c = hands_none _ _ (gap_short c.loop-at.invariant c.loop-at-test.false c.if-stop-cur.true)

pub placed-requires : goal.placed-requires
placed-requires c = all_stored c.loop-at.invariant c.loop-at-test.false c.if-stop-cur.false

pub returns : goal.returns
returns c = hands_same (gap_enough c.loop-at.invariant c.loop-at-test.false c.if-stop-cur.false) c.placed.ensures
