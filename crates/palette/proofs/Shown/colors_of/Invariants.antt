-- `Shown::colors_of` meets its contract. The invariant: the colours before place i are written, and those from it on are black. Assumes nothing.
use mathlib.Core.Path.{◌≡◌}
use Prim.Native.Nat.{ℕ, ◌≤◌, ◌<◌}
use lib.ListN.{length, get_or}
use Rattle.palette.specs.Derivation.{black}
use Rattle.palette.specs.Inner.{color_at}
use Rattle.palette.proofs.Shown.colors_of.Given as goal

abbrev pub invariant-loop-i : goal.invariant-loop-i
invariant-loop-i l = record {
  long : length l.colors ≡ 32;
  written : (p : ℕ) → p < l.i → get_or l.colors p black ≡ color_at l.self.design l.chroma l.self.directions.cos.now l.self.directions.sin.now p;
  left : (p : ℕ) → l.i ≤ p → get_or l.colors p black ≡ black;
}
