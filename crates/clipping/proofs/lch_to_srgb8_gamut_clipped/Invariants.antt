-- `clipping::lch_to_srgb8_gamut_clipped` meets its contract. The invariant: what is left of the 24 halvings, from lo to hi, ends where all of them do. Assumes nothing.
use mathlib.Core.Path.{◌≡◌}
use Prim.Native.Nat.{◌-◌}
use Rattle.halving.specs.Midpoint.{halve}
use Rattle.color.specs.Color.{lch_in_gamut}
use Rattle.clipping.specs.Clip.{lowered}
use Rattle.clipping.proofs.lch_to_srgb8_gamut_clipped.Given as goal

abbrev pub invariant-loop : goal.invariant-loop
invariant-loop l = halve (lch_in_gamut l.l l.cos l.sin) (24 - l.counter) l.lo l.hi ≡ lowered 24 l.l l.c l.cos l.sin
