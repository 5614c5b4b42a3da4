-- `placement::around` meets its contract: its test is that of the definition. Assumes nothing.
use mathlib.Core.Path.{sym}
use Rattle.placement_rules.proofs.Gaps.{onward_by, round_by}
use Rattle.placement.proofs.around.Goals as goal

pub returns-then-i-j : goal.returns-then-i-j
returns-then-i-j c = let a = c.args in sym (onward_by a.n a.i a.j c.if-i-j.true)

pub returns-else-i-j : goal.returns-else-i-j
returns-else-i-j c = let a = c.args in sym (round_by a.n a.i a.j c.if-i-j.false)
