-- `pair::largest` meets its contract. The invariant: the largest of the values that are left and the largest so far is the largest of all. Assumes nothing.
use mathlib.Core.Path.{◌≡◌, refl, ap, ◌∙◌}
use Prim.Native.Nat.{◌+◌}
use lib.Ieee.{Float, nan, of_bits, of_int}
use lib.ListN.{get_or, drop}
use Rattle.pair_rules.specs.Rows.{greater, largest_from, largest}
use Rattle.pair_rules.proofs.Rows.{largest_next, largest_done}
use Rattle.pair.proofs.largest.Goals as goal
use Rattle.pair.proofs.largest.Goals.{then-most-value, else-most-value}

pub loop-value-init : goal.loop-value-init
unfolding largest of_bits of_int
loop-value-init c = refl

pub loop-value-preserved : goal.loop-value-preserved
unfolding greater
loop-value-preserved c =
    let row = c.args.row.now in
    let l = c.loop-value in
    let so : c.if-most-value.most ≡ greater l.most (get_or row l.value-index nan) = elim c.if-most-value.branch [ then-most-value t ↦ rw (t.most-is, t.if-most-value.true) | else-most-value t ↦ rw (t.most-is, t.if-most-value.false) ] in
    ap (λ (x : Float). largest_from x (drop (l.value-index + 1) row)) so ∙ largest_next row l.most l.value-index l.invariant c.loop-value-test.true

pub returns : goal.returns
returns c = largest_done c.args.row.now c.loop-value.most c.loop-value.value-index c.loop-value.invariant c.loop-value-test.false
