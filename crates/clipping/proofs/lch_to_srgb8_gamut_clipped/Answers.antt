-- `clipping::lch_to_srgb8_gamut_clipped` meets its contract. The invariant: what is left of the 24 halvings, from lo to hi, ends where all of them do. Assumes nothing.
use mathlib.Core.Path.{◌≡◌, refl, sym, ◌∙◌}
use Prim.Native.Nat.{◌≤◌, ◌<◌}
use native.Mathlib.Omega.{arith}
use lib.Ieee.{of_bits, of_int}
use Rattle.halving.proofs.Halve.{turn_up, turn_down, turned}
use Rattle.color.specs.Color.{lch_in_gamut}
use Rattle.clipping.specs.Clip.{lowered, clipped_of}
use Rattle.clipping.proofs.lch_to_srgb8_gamut_clipped.Goals as goal
use Rattle.clipping.proofs.lch_to_srgb8_gamut_clipped.Goals.{then-lch_in_gamut-2, else-lch_in_gamut-2}

pub returns-then-lch_in_gamut : goal.returns-then-lch_in_gamut
unfolding clipped_of
returns-then-lch_in_gamut c =
    let b = c.before.before.before in
    rw (c.linear_to_srgb8.ensures, c.lab_to_linear.ensures, c.lch_to_lab.ensures, sym b.lch_in_gamut.ensures ∙ b.if-lch_in_gamut.true)

pub loop-init : goal.loop-init
unfolding lowered of_bits of_int
loop-init c = refl

pub loop-preserved : goal.loop-preserved
loop-preserved c =
    let ok = lch_in_gamut c.args.l c.args.cos c.args.sin in
    let h : c.loop.counter < 24 = let k = c.loop-test.true in omega arith in
    let e = c.midpoint-mid.ensures in
    let i = c.loop.counter in
    let rest = c.loop.invariant in
    elim c.if-lch_in_gamut-2.branch [
      | then-lch_in_gamut-2 w ↦ rw (w.lo-is, w.hi-is, e) (turn_up ok 24 i c.loop.lo c.loop.hi _ rest h (rw e at (sym c.lch_in_gamut-in-loop.ensures ∙ w.if-lch_in_gamut-2.true)))
      | else-lch_in_gamut-2 w ↦ rw (w.lo-is, w.hi-is, e) (turn_down ok 24 i c.loop.lo c.loop.hi _ rest h (rw e at (sym c.lch_in_gamut-in-loop.ensures ∙ w.if-lch_in_gamut-2.false)))
    ]

pub returns : goal.returns
unfolding clipped_of
returns c =
    let ok = lch_in_gamut c.args.l c.args.cos c.args.sin in
    let last : 24 ≤ c.loop.counter = let k = c.loop-test.false in omega arith in
    let low : c.loop.lo ≡ lowered 24 c.args.l c.args.c c.args.cos c.args.sin = turned ok 24 c.loop.counter c.loop.lo c.loop.hi _ c.loop.invariant last in
    rw (c.linear_to_srgb8-2.ensures, c.clamped.ensures, c.lab_to_linear-2.ensures, c.lch_to_lab-2.ensures, low, sym c.lch_in_gamut.ensures ∙ c.if-lch_in_gamut.false)
