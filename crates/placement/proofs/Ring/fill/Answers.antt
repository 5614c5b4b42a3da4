-- `Ring::fill` meets its contract. The invariant: the table is filled from index i on, and what was last seen is the earliest allowed index from there. Assumes nothing.
use mathlib.Core.Path.{◌≡◌, ◌∙◌}
use Prim.Native.Nat.{suc, ◌-◌, ◌<◌}
use native.Mathlib.Omega.{arith}
use lib.ListN.{length}
use Rattle.placement_rules.specs.Ring.{earliest}
use Rattle.placement_rules.specs.Placing.{allowed_at}
use Rattle.placement.specs.Inner.{Filled}
use Rattle.placement.proofs.Table.{allowed_there, top, here, skip, none_yet, more}
use Rattle.placement.proofs.Ring.fill.Goals as goal
use Rattle.placement.proofs.Ring.fill.Goals.{then-self-i, else-self-i}

pub loop-i-init : goal.loop-i-init
loop-i-init c = let a = c.args.self.now in (none_yet a.m.now a.c c.args.work.now c.requires.long, top a.m.now a.c c.args.first c.args.work.now c.requires)

pub loop-i-preserved : goal.loop-i-preserved
loop-i-preserved c =
    let a = c.args.self.now in
    let row = a.m.now in
    let i = c.loop-i.i in
    let k = c.loop-i-test.true in
    let n = c.loop-i.auto.i in
    let u : i - 1 < length row = omega arith in
    let e : i ≡ suc (i - 1) = omega arith in
    let f : Filled row a.c (suc (i - 1)) c.loop-i.work = rw e at c.loop-i.invariant.0 in
    let w : c.loop-i.seen ≡ earliest (allowed_at row a.c) (length row) (suc (i - 1)) = rw e at c.loop-i.invariant.1 in
    let there = allowed_there row a.c (i - 1) u in
    let is : c.if-self-i.seen ≡ earliest (allowed_at row a.c) (length row) (i - 1) =
    elim c.if-self-i.branch [
      | then-self-i x ↦ x.seen-is ∙ here row a.c c.args.first c.args.work.now c.requires (i - 1) (there ∙ x.if-self-i.true)
      | else-self-i x ↦ x.seen-is ∙ skip row a.c c.args.first c.args.work.now c.requires (i - 1) c.loop-i.seen u (there ∙ x.if-self-i.false) w
    ] in
    (more row a.c (i - 1) c.if-self-i.seen c.loop-i.work u f is, is)
