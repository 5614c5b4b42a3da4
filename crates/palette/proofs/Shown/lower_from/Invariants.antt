-- `Shown::lower_from` meets its contract. The invariant: from the chroma at hand, with the last finding, back-off ends where it ends from the first. The measure is the bit
-- pattern of the chroma. Assumes nothing.
use mathlib.Core.Path.{◌≡◌}
use Prim.Native.Nat.{ℕ}
use lib.Ieee.{binary32, to_bits}
use lib.ListN.{replicate}
use Rattle.palette.specs.BackOff.{lastly, end_after, end_of, judge_at, ending_of, colors_in}
use Rattle.palette.specs.Derivation.{black}
use Rattle.palette.proofs.Lowering.{Low}
use Rattle.palette.proofs.Shown.lower_from.Given as goal

abbrev pub invariant-loop-last : goal.invariant-loop-last
invariant-loop-last l =
    Low l.c × ((n : ℕ) × ((ending_of l.last ≡ lastly n) × ((colors_in l.last ≡ replicate 32 black) × (end_after (judge_at l.self.design l.self.directions.cos.now l.self.directions.sin.now) l.c n ≡ end_of (judge_at l.self.design l.self.directions.cos.now l.self.directions.sin.now) l.chroma))))

abbrev pub decreases-loop-last : goal.decreases-loop-last
decreases-loop-last l = to_bits binary32 l.c
