-- `page_lines::numbered` meets its contract. The invariant: the last digits stand. Assumes nothing.
use mathlib.Core.Path.{◌≡◌, refl}
use native.Mathlib.Omega.{arith}
use lib.ListN.{length}
use borrow.Author.Rules.{rules}
use Rattle.page_lines.proofs.Line.{writing_begins, writing_goes, writing_ends, writing_left}
use Rattle.page_lines.proofs.numbered.Goals as goal

long : (c : goal.Start) → length c.args.line ≡ 41
long c = search rules

pub loop-at-init : goal.loop-at-init
loop-at-init c = writing_begins _ _ (long c) (omega arith)

pub loop-at-preserved : goal.loop-at-preserved
loop-at-preserved c = writing_goes _ _ (long c.before.before.before) c.loop-at.invariant _ c.if-rest-eq0.false refl

pub returns-then-rest-eq0 : goal.returns-then-rest-eq0
returns-then-rest-eq0 c = writing_ends _ _ (long c.before.before.before) c.loop-at.invariant _ c.if-rest-eq0.true refl

pub returns-after-loop-at : goal.returns-after-loop-at
returns-after-loop-at c = let t = c.loop-at-test.false in absurd (writing_left _ _ (long c.before.before) c.loop-at.invariant (omega arith))
