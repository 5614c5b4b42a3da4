-- `gamut::max_chroma` meets its contract. The invariant: what is left of the 40 halvings, from lo to hi, ends where all of them do, and lo and hi are f32 from 0 to 200. A round
-- whose midpoint is an end and moves nothing leaves the rest unchanged. Assumes nothing.
use mathlib.Core.Path.{◌≡◌}
use Prim.Native.Nat.{◌-◌}
use Rattle.limits.specs.Taken.{f32_of}
use Rattle.halving.specs.Midpoint.{halve}
use Rattle.halving.proofs.Meeting.{Met}
use Rattle.color.specs.Color.{lch_in_gamut}
use Rattle.gamut.proofs.max_chroma.Given as goal

abbrev pub invariant-loop : goal.invariant-loop
invariant-loop l =
    (Met l.lo × Met l.hi) × (halve (lch_in_gamut l.l l.cos l.sin) (40 - l.counter) l.lo l.hi ≡ halve (lch_in_gamut l.l l.cos l.sin) 40 (f32_of 0) (f32_of 200))
