-- `gamut::fill` meets its contract: at the end every entry is written. Assumes nothing.
use native.Mathlib.Omega.{arith}
use Rattle.gamut.proofs.Rows.{row_is}
use Rattle.gamut.proofs.fill.Goals as goal

pub returns : goal.returns
returns c = row_is _ _ _ c.loop-j.row (omega arith) (λ k h. c.loop-j.invariant k (omega arith))
