-- `gamut::fill` meets its contract. The invariant: the entries below j are written. Assumes nothing.
use mathlib.Core.Path.{◌≡◌}
use Prim.Native.Nat.{ℕ, ◌<◌}
use lib.Ieee.{nan}
use lib.ListN.{get_or}
use Rattle.gamut.proofs.Rows.{entry}
use Rattle.gamut.proofs.fill.Given as goal

abbrev pub invariant-loop-j : goal.invariant-loop-j
invariant-loop-j l = (k : ℕ) → k < l.j → get_or l.row k nan ≡ entry l.l l.directions.cos.now l.directions.sin.now k
