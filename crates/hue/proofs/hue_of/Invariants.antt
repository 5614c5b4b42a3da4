-- `hue::hue_of` meets its contract. The invariant: the hue is that of the first crossing from direction j on. Assumes nothing.
use mathlib.Core.Path.{◌≡◌}
use Prim.Native.Nat.{◌-◌}
use Rattle.hue.specs.Hue.{hue_from, hue_of}
use Rattle.hue.proofs.hue_of.Given as goal

abbrev pub invariant-loop-j : goal.invariant-loop-j
invariant-loop-j l = hue_from l.directions.cos.now l.directions.sin.now l.a l.b (720 - l.j) l.j ≡ hue_of l.directions.cos.now l.directions.sin.now l.a l.b
