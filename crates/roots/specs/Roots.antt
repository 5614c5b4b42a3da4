-- Document 01, stand-ins: `sqrt` and `cbrt` are the f32 nearest the exact root, subnormal operands included; called with one number,
-- each refuses by 16 what is not finite or has its sign bit set. One definition over the degree n. Definitions only.
use Rattle.std.specs.Prelude.{ℕ, cond, Float}
use Rattle.std.specs.Float.Ieee.Positive.{num, den}
use Rattle.limits.specs.Answers.{Said, value, refused}
use Rattle.limits.specs.Taken.{root_operand_taken}
use Rattle.halving.specs.Patterns.{nearest_root}

-- the f32 nearest the n-th root of an x that is finite with its sign bit clear: x is the fraction num x / den x
unfoldable pub root_of : ℕ → Float → Float
root_of n x = nearest_root n (num x) (den x)

-- what a call with the one number x hands back
unfoldable pub root_says : ℕ → Float → Said Float
root_says n x = cond (root_operand_taken x) (value (root_of n x)) (refused 16)
