-- `level_set::lower` meets its contract. The invariant: the numbers below i are lowered, and those from i on are as they were. Assumes nothing.
use mathlib.Core.Path.{◌≡◌, ap, ◌∙◌}
use Prim.Native.Nat.{ℕ, ◌+◌, ◌≤◌, ◌<◌}
use native.Mathlib.Nat.{ne_of_lt, ne_of_gt}
use native.Mathlib.Omega.{arith}
use lib.Ieee.{nan}
use lib.ListN.{length, get_or}
use lib.Seq.{get_or-set_same, get_or-set_other}
use borrow.Author.Count.{below_more}
use Rattle.pair_rules.specs.Rows.{lesser}
use Rattle.level_set.proofs.lower.Goals as goal
use Rattle.level_set.proofs.lower.Goals.{then-value-entry, else-value-entry}

pub loop-i-preserved : goal.loop-i-preserved
unfolding lesser
loop-i-preserved c =
    let by = c.args.by.now in
    let row = c.loop-i.row in
    let i = c.loop-i.i in
    let v = c.if-value-entry.value in
    let inside : i < length row = omega arith in
    let value : v ≡ lesser (get_or by i nan) (get_or row i nan) = elim c.if-value-entry.branch [ then-value-entry w ↦ rw (w.value-is, w.if-value-entry.true) | else-value-entry w ↦ rw (w.value-is, w.if-value-entry.false) ] in (
      below_more _ i (λ (h : ℕ) (g : h < i). get_or-set_other row i h v nan (ne_of_lt g) ∙ c.loop-i.invariant.0 h g)
          (get_or-set_same row i v nan inside ∙ value ∙ ap (lesser (get_or by i nan)) (c.loop-i.invariant.1 i (omega arith))),
      λ (h : ℕ) (g : i + 1 ≤ h). let z : i < h = omega arith in get_or-set_other row i h v nan (ne_of_gt z) ∙ c.loop-i.invariant.1 h (omega arith),
    )
