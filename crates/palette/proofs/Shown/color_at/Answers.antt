-- `Shown::color_at` meets its contract: the first k places are dark, the others light. Assumes nothing.
use mathlib.Core.Path.{sym, ◌∙◌}
use Prim.Native.Nat.{◌-◌}
use native.Mathlib.Omega.{arith}
use Rattle.palette.proofs.Ready.{few_hues, within, levels_in_range, hue_in}
use Rattle.palette.proofs.Colors.{dark_at_lem, light_at_lem}
use Rattle.palette.proofs.Shown.color_at.Goals as goal

pub offset_bounds-hues-i : goal.offset_bounds-hues-i
offset_bounds-hues-i c = let f = few_hues c.args.self.now.ready in omega arith

pub bounds-hues-i : goal.bounds-hues-i
bounds-hues-i c = let f = few_hues c.args.self.now.ready in omega arith

pub color_of-requires : goal.color_of-requires
color_of-requires c =
    let l = levels_in_range c.args.self.now.ready in
    (omega arith, hue_in c.args.self.now.ready c.args.i c.if-i-k.true)

pub returns-then-i-k : goal.returns-then-i-k
returns-then-i-k c =
    let a = c.args.self.now in
    c.color_of.ensures ∙ sym (dark_at_lem a.design c.args.chroma a.directions.cos.now a.directions.sin.now (within a.ready) c.args.i c.if-i-k.true)

pub bounds-hues-i-2 : goal.bounds-hues-i-2
bounds-hues-i-2 c = let f = few_hues c.args.self.now.ready in omega arith

pub color_of-requires-2 : goal.color_of-requires-2
color_of-requires-2 c =
    let l = levels_in_range c.args.self.now.ready in
    (omega arith, hue_in c.args.self.now.ready (c.args.i - c.args.self.now.design.k) (omega arith))

pub returns : goal.returns
returns c =
    let a = c.args.self.now in
    c.color_of-2.ensures ∙ sym (light_at_lem a.design c.args.chroma a.directions.cos.now a.directions.sin.now (within a.ready) c.args.i c.if-i-k.false c.requires)
