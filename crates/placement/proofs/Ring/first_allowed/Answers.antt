-- `Ring::first_allowed` meets its contract. The invariant: no index below i is allowed. Assumes nothing.
use mathlib.Core.Path.{◌∙◌}
use Rattle.placement.proofs.Table.{allowed_there, first_here, not_here, none_there}
use Rattle.placement.proofs.Ring.first_allowed.Goals as goal

pub returns-then-self-x : goal.returns-then-self-x
returns-then-self-x c = first_here _ _ _ c.loop-i.invariant c.loop-i-test.true (allowed_there _ _ _ c.loop-i-test.true ∙ c.if-self-x.true)

pub loop-i-preserved : goal.loop-i-preserved
loop-i-preserved c = not_here _ _ _ c.loop-i.invariant c.loop-i-test.true (allowed_there _ _ _ c.loop-i-test.true ∙ c.if-self-x.false)

pub returns : goal.returns
returns c = none_there _ _ _ c.loop-i.invariant c.loop-i-test.false
