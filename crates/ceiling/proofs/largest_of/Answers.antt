-- `ceiling::largest_of` meets its contract. The invariant: the largest of the values that are left and of the number whose pattern is held is the largest of all. Assumes nothing.
use mathlib.Core.Path.{refl, ap, ◌∙◌}
use mathlib.Core.List.{List}
use Prim.Native.Nat.{ℕ, ◌+◌, ◌<◌}
use native.Mathlib.Omega.{arith}
use lib.Ieee.{Float, binary32, nan, of_bits, to_bits, of_int}
use lib.ListN.{length, get_or, drop}
use Rattle.halving.proofs.Plain.{Plain}
use Rattle.pair_rules.specs.Rows.{largest_from, largest}
use Rattle.pair_rules.proofs.Rows.{largest_next, largest_done}
use Rattle.ceiling_rules.proofs.Tops.{entry_plain}
use Rattle.ceiling.specs.Inner.{Row}
use Rattle.ceiling.proofs.Patterns.{plain_number, no_nan, max_is, greater_max}
use Rattle.ceiling.proofs.largest_of.Goals as goal

pub loop-x-init : goal.loop-x-init
unfolding largest of_bits of_int
loop-x-init c = (omega arith, refl)

-- the entry that is read
plain : (row : List Float) → Row row → (i : ℕ) → i < length row → Plain (get_or row i nan)
plain row h i inside = entry_plain row h.long h.entries h.f32 i (omega arith)

pub float_to_bits-x : goal.float_to_bits-x
float_to_bits-x c = plain_number _ (plain c.args.row.now c.requires c.loop-x.x-index c.loop-x-test.true)

pub loop-x-preserved : goal.loop-x-preserved
loop-x-preserved c =
    let row = c.args.row.now in
    let i = c.loop-x.x-index in
    let most = c.loop-x.most in
    let small = c.loop-x.invariant.0 in
    let X = plain row c.requires i c.loop-x-test.true in
    let is = c.max-most.ensures ∙ max_is most (to_bits binary32 (get_or row i nan)) in
    let so = ap (of_bits binary32) is ∙ greater_max most (get_or row i nan) small X in
    (omega (arith, is, X.under), ap (λ (x : Float). largest_from x (drop (i + 1) row)) so ∙ largest_next row (of_bits binary32 most) i c.loop-x.invariant.1 c.loop-x-test.true)

pub float_from_bits-result : goal.float_from_bits-result
float_from_bits-result c = no_nan _ c.loop-x.invariant.0

pub returns : goal.returns
returns c = largest_done c.args.row.now (of_bits binary32 c.loop-x.most) c.loop-x.x-index c.loop-x.invariant.1 c.loop-x-test.false
