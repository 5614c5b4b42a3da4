-- `hues_of` meets its contract. The invariant: the degrees are the hues of the first i colours. Assumes nothing.
use mathlib.Core.Path.{◌≡◌, sym, ap, ◌∙◌}
use mathlib.Core.List.{List}
use Prim.Native.Nat.{ℕ}
use native.Mathlib.Numerals.{add-one}
use native.Mathlib.Omega.{arith}
use lib.Ieee.{Float, of_bits, of_int}
use lib.ListN.{length, get_or, set, replicate}
use Rattle.limits.specs.Taken.{f32_of}
use Rattle.srgb.specs.declared.Srgb8.{Srgb8}
use Rattle.color.specs.declared.Lab.{Lab}
use Rattle.hue.specs.Hue.{hue_of, color_hue, color_hues}
use Rattle.hue.proofs.Degrees.{hues_none, hues_next}
use Rattle.hue.proofs.hues_of.Goals as goal

abbrev black : Srgb8
black = record { r = 0; g = 0; b = 0 }

pub loop-i-init : goal.loop-i-init
unfolding of_bits of_int
loop-i-init c =
    let d = c.args.directions.now in
    let colors = c.args.colors in
    let long : length colors ≡ 32 = omega arith in
    ap (λ (n : ℕ). replicate n (f32_of 0)) (sym long) ∙ hues_none d.cos.now d.sin.now colors

pub loop-i-preserved : goal.loop-i-preserved
unfolding color_hue
loop-i-preserved c =
    let cs = c.args.directions.now.cos.now in
    let ss = c.args.directions.now.sin.now in
    let colors = c.args.colors in
    let i = c.loop-i.i in
    let v : c.hue_of.result ≡ color_hue cs ss (get_or colors i black) = c.hue_of.ensures ∙ ap (λ (x : Lab). hue_of cs ss x.a x.b) c.srgb8_to_lab-lab.ensures in
    ap (λ (d : List Float). set d i c.hue_of.result) c.loop-i.invariant
    ∙ ap (set (color_hues cs ss i colors) i) v
    ∙ hues_next cs ss i colors black (omega arith)
    ∙ ap (λ (n : ℕ). color_hues cs ss n colors) (sym (add-one i))
