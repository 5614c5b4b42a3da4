-- `palette::color_of` meets its contract: the level is one of the table, and the hue is among the directions. Assumes nothing.
use mathlib.Core.Path.{◌≡◌}
use mathlib.Core.List.{List}
use Prim.Native.Nat.{ℕ}
use lib.Ieee.{Float, nan}
use lib.ListN.{get_or}
use Rattle.clipping.specs.declared.Clipped.{Clipped}
use Rattle.clipping.specs.Clip.{clipped_of}
use Rattle.gamut.specs.Gamut.{level_of}
use Rattle.palette.specs.Derivation.{shown}
use Rattle.palette.proofs.color_of.Goals as goal

-- what the code clips is what is shown
clipped : (n : ℕ) (c : Float) (cs ss : List Float) (j : ℕ) (l : Float) (r : Clipped) → l ≡ level_of n → r ≡ clipped_of l c (get_or cs j nan) (get_or ss j nan) → r.color ≡ shown (level_of n) c cs ss j
unfolding shown
clipped n c cs ss j l r e f = rw (f, e)

pub returns : goal.returns
returns c =
    let a = c.args in
    clipped a.level a.chroma a.directions.now.cos.now a.directions.now.sin.now a.hue _ _ c.l_of-l.ensures c.lch_to_srgb8_gamut_clipped.ensures
