-- `palette::parts_of` meets its contract. The invariant: both arrays are filled below i. Assumes nothing.
use mathlib.Core.Path.{◌≡◌}
use lib.ListN.{length}
use Rattle.metrics.specs.Metrics.{lightness_of, chroma_in}
use Rattle.palette.specs.Inner.{Filled}
use Rattle.palette.proofs.parts_of.Given as goal

abbrev pub invariant-loop-i : goal.invariant-loop-i
invariant-loop-i l = ((length l.l ≡ 32) × (length l.c ≡ 32)) × (Filled lightness_of l.i l.colors l.l × Filled chroma_in l.i l.colors l.c)
