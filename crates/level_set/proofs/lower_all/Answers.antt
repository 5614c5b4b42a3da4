-- `level_set::lower_all` meets its contract. The invariant: at each hue stands the value of the levels that are behind, which are the last ones. Assumes nothing.
use mathlib.Core.Path.{sym, ap, ◌∙◌, subst}
use mathlib.Core.List.{List}
use lib.Ieee.{Float}
use lib.ListN.{length}
use lib.Seq.{take_all}
use native.Mathlib.Omega.{arith}
use Rattle.std.specs.Slice.Iter.{iter_rest}
use Rattle.std.specs.Iterator.Adapters.{rev_source}
use Rattle.level_set.specs.Inner.{Lowered}
use Rattle.level_set.proofs.Naming.{none_behind, next_long, next_behind, all_behind}
use Rattle.level_set.proofs.lower_all.Goals as goal

pub loop-level-init : goal.loop-level-init
loop-level-init c = none_behind c.args.table.now c.args.levels.now _ c.args.row.now (ap iter_rest (ap rev_source c.into_iter-level-iterator.ensures.into_iter_gives ∙ c.rev-level-items.ensures.source) ∙ c.iter.ensures.rest ∙ grind (arith, take_all)) c.requires.1

pub lower-requires : goal.lower-requires
lower-requires c =
    ap length c.row_at.ensures
    ∙ next_long c.args.table.now c.args.levels.now _ _ c.loop-level.row c.in-Some.field-0.now c.loop-level.invariant c.in-Some.ensures.steps c.requires.0
    ∙ sym c.loop-level.invariant.long

pub loop-level-preserved : goal.loop-level-preserved
loop-level-preserved c =
    next_behind c.args.table.now c.args.levels.now _ _ c.loop-level.row c.in-Some.field-0.now c.loop-level.invariant c.in-Some.ensures.steps c.lower.new.row (subst (λ (x : List Float). Lowered x c.loop-level.row c.lower.new.row) c.row_at.ensures c.lower.ensures)

pub returns : goal.returns
returns c = all_behind c.args.table.now c.args.levels.now c.requires.0 _ c.loop-level.row c.in-None.ensures.steps.0 c.loop-level.invariant
