-- `roots::normalise` meets its contract, by the laws of `proofs/Scale.antt`. Assumes nothing.
use Prim.Native.Nat.{◌%◌}
use native.Mathlib.Omega.{arith}
use Rattle.roots.proofs.Scale.{Shift, shift, subnormal, normal}
use Rattle.roots.proofs.normalise.Goals as goal

-- the shift of the fraction bits of a subnormal operand
moved : (c : goal.Then-field-eq0) → Shift (c.args.bits % 8388608)
moved c = shift (c.args.bits % 8388608) (omega arith) (omega arith)

pub overflow_sub-zeros : goal.overflow_sub-zeros
overflow_sub-zeros c = (moved c).enough

pub returns-then-field-eq0 : goal.returns-then-field-eq0
returns-then-field-eq0 c = subnormal c.args.bits c.requires.0 c.if-field-eq0.true

pub returns : goal.returns
returns c = normal c.args.bits c.requires.1 c.if-field-eq0.false
