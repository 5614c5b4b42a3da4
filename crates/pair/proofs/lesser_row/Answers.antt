-- `pair::lesser_row` meets its contract. The invariant: the entries below i are written, and the largest of the values from i on and the largest so far is the
-- largest of all. Assumes nothing.
use mathlib.Core.Path.{◌≡◌, refl, sym, ap, ◌∙◌}
use mathlib.Core.List.{[], ◌∷◌}
use Prim.Native.Nat.{ℕ, ◌+◌, ◌<◌}
use native.Mathlib.Nat.{ne_of_lt}
use native.Mathlib.Omega.{arith}
use lib.Ieee.{Float, nan, of_bits, of_int}
use lib.ListN.{length, drop}
use lib.Seq.{get_or-set_same, get_or-set_other}
use borrow.Author.Count.{below_none, below_more}
use Rattle.pair_rules.specs.Rows.{lesser, greater, value_at, least_row, largest_from, largest}
use Rattle.pair_rules.proofs.Rows.{least_long, least_at, least_is, of_two, largest_next, largest_done}
use Rattle.pair.proofs.lesser_row.Goals as goal
use Rattle.pair.proofs.lesser_row.Goals.{then-y-x, else-y-x, then-most-value, else-most-value}

pub loop-i-init : goal.loop-i-init
unfolding largest of_bits of_int
loop-i-init c = (below_none _, refl)

pub loop-i-preserved : goal.loop-i-preserved
unfolding lesser greater
loop-i-preserved c =
    let l = c.loop-i in
    let rows = c.args.a.now ∷ c.args.b.now ∷ [] in
    let v = c.if-y-x.value in
    let here : l.i < length l.row = omega arith in
    let least = least_long rows in
    let value : v ≡ value_at rows l.i = (elim c.if-y-x.branch [ then-y-x t ↦ rw (t.value-is, t.if-y-x.true) | else-y-x t ↦ rw (t.value-is, t.if-y-x.false) ]) ∙ sym (of_two c.args.a.now c.args.b.now l.i) in
    let so : c.if-most-value.most ≡ greater l.most v = elim c.if-most-value.branch [ then-most-value t ↦ rw (t.most-is, t.if-most-value.true) | else-most-value t ↦ rw (t.most-is, t.if-most-value.false) ] in (
      below_more _ l.i (λ (k : ℕ) (g : k < l.i). get_or-set_other l.row l.i k v nan (ne_of_lt g) ∙ l.invariant.0 k g) (get_or-set_same l.row l.i v nan here ∙ value),
      ap (λ (x : Float). largest_from x (drop (l.i + 1) (least_row rows))) (so ∙ ap (greater l.most) (value ∙ sym (least_at rows l.i (omega arith)))) ∙ largest_next (least_row rows) l.most l.i l.invariant.1 (omega arith),
    )

pub returns : goal.returns
returns c =
    let l = c.loop-i in
    let rows = c.args.a.now ∷ c.args.b.now ∷ [] in
    let least = least_long rows in
    let is : l.row ≡ least_row rows = least_is rows l.row (omega arith) (λ (k : ℕ) (g : k < length c.args.a.now). l.invariant.0 k (omega arith)) in
    (is, largest_done (least_row rows) l.most l.i l.invariant.1 (omega arith) ∙ ap largest (sym is))
