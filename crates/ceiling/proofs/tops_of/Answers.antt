-- `ceiling::tops_of` meets its contract: so many rows are behind, and the places of their levels hold their largest entries. Assumes nothing.
use mathlib.Core.Path.{◌∙◌}
use native.Mathlib.Omega.{arith}
use lib.ListN.{length-set}
use Rattle.gamut.proofs.Table.{row_long, row_taken, row_f32}
use Rattle.ceiling.proofs.Filling.{row_is, row_inside, behind_next}
use Rattle.ceiling.proofs.tops_of.Goals as goal

pub largest_of-requires : goal.largest_of-requires
largest_of-requires c =
    let t = c.args.table.now in
    let i = c.in-Some.i in
    let b = c.loop-i.invariant.1 in
    let step = c.in-Some.ensures.steps in
    rw (row_is t c.loop-i.i-iterator c.next.new.self c.loop-i.tops b i c.in-Some.row step)
    record {
      long = row_long t _ i c.requires.long (row_inside t c.loop-i.i-iterator c.next.new.self c.loop-i.tops b i c.in-Some.row step c.requires.long);
      entries = row_taken t i c.requires.entries;
      f32 = row_f32 t i c.requires.f32;
    }

pub loop-i-preserved : goal.loop-i-preserved
loop-i-preserved c =
    let t = c.args.table.now in
    let tops = c.loop-i.tops in
    let long = c.loop-i.invariant.0 in
    let b = c.loop-i.invariant.1 in
    let step = c.in-Some.ensures.steps in
    let inside = row_inside t c.loop-i.i-iterator c.next.new.self tops b c.in-Some.i c.in-Some.row step c.requires.long in
    let few = c.requires.few in
    (length-set tops c.in-Some.i _ ∙ long, behind_next t c.loop-i.i-iterator c.next.new.self tops b c.in-Some.i c.in-Some.row step _ (omega arith) c.largest_of.ensures)
