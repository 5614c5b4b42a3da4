-- `ring_lines::answer_piece` meets its contract. The invariant: what is held and what is written are those of the bytes that are taken. Assumes nothing.
use mathlib.Core.Path.{◌≡◌, refl}
use lib.ListN.{length}
use borrow.Author.Rules.{rules}
use native.Mathlib.Omega.{arith}
use Rattle.text.proofs.Put.{laid_long}
use Rattle.ring_lines.proofs.Taking.{none_taken, newline_taken, other_taken, ends_full, ends_whole}
use Rattle.ring_lines.proofs.answer_piece.Goals as goal
use Rattle.ring_lines.proofs.answer_piece.Goals.{then-byte-eq10, else-byte-eq10}

pub loop-taken-init : goal.loop-taken-init
loop-taken-init c = none_taken _ _ _ _

pub returns-then-written-gt65472 : goal.returns-then-written-gt65472
returns-then-written-gt65472 c = ends_full c.loop-taken.invariant c.if-written-gt65472.true

pub loop-taken-preserved : goal.loop-taken-preserved
loop-taken-preserved c =
    let g = c.if-written-gt65472.false in
    let h = c.loop-taken-test.true in
    let n = c.loop-taken.invariant.writes.counts in
    let m = laid_long c.loop-taken.invariant.writes in
    let o : length c.args.out.now ≡ 65536 = search rules in
    let wide : length c.loop-taken.out ≡ 65536 = omega arith in
    elim c.if-byte-eq10.branch [
      | then-byte-eq10 w ↦
          rw (w.buffer-is, w.count-is, w.out-is, w.written-is) (newline_taken c.loop-taken.invariant _ h refl g (rw w.buffer-is at c.if-byte-eq10.array_long) wide w.if-byte-eq10.true w.put_answer-written.ensures)
      | else-byte-eq10 w ↦ rw (w.buffer-is, w.count-is, w.out-is, w.written-is) (other_taken c.loop-taken.invariant _ h refl g w.if-byte-eq10.false w.keep-count.ensures)
    ]

pub returns : goal.returns
returns c = ends_whole c.loop-taken.invariant c.loop-taken-test.false
