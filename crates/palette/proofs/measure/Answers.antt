-- `palette::measure` meets its contract: each metric is that of the numbers in the colours' places. Assumes nothing.
use mathlib.Core.Path.{◌≡◌, ◌∙◌}
use mathlib.Core.Bool.{false}
use mathlib.Core.List.{List}
use Prim.Native.Nat.{ℕ, ◌+◌, ◌*◌}
use native.Mathlib.Omega.{arith}
use lib.Ieee.{Float, inf, of_bits}
use Rattle.limits.proofs.HueCount.{hue_count}
use Rattle.srgb.specs.declared.Srgb8.{Srgb8}
use Rattle.hue.specs.Hue.{color_hue}
use Rattle.metrics.specs.Metrics.{lightness_of, chroma_in, separation_of, least_chroma}
use Rattle.metrics.proofs.Levels.{metrics_are, separation_is, chroma_is, one_separation, one_chroma}
use Rattle.palette.specs.Inner.{Measured}
use Rattle.palette.proofs.Filling.{dark_is, light_is}
use Rattle.palette.proofs.measure.Goals as goal

-- one hue
module _ (k : ℕ) (colors : List Srgb8) (one : k ≡ 1) where
  no_separation : (cs ss : List Float) → inf false ≡ separation_of k colors cs ss
  no_separation cs ss = rw (one, one_separation colors cs ss)

  no_chroma : inf false ≡ least_chroma k colors
  no_chroma = rw (one, one_chroma colors)

pub overflow_mul-k : goal.overflow_mul-k
overflow_mul-k c = let h = (hue_count c.args.k c.requires).1 in omega arith

pub parts_of-requires : goal.parts_of-requires
parts_of-requires c = let h = (hue_count c.args.k c.requires).1 in omega arith

pub returns-then-k-lt2 : goal.returns-then-k-lt2
unfolding of_bits
returns-then-k-lt2 c =
    let a = c.args in
    let h = (hue_count a.k c.requires).0 in
    let one : a.k ≡ 1 = omega arith in
    let two : 2 * a.k ≡ a.k + a.k = omega arith in
    let m = c.parts_of in
    let lightness : Measured lightness_of (a.k + a.k) a.colors m.result.l = rw two at m.ensures.0 in
    metrics_are a.k a.colors _ _ a.directions.now.cos.now a.directions.now.sin.now c.gap_of-gap.result c.spread_of-spread.result (inf false) (inf false)
    (dark_is lightness_of a.colors m.result.l a.k lightness)
    (light_is lightness_of a.colors m.result.l a.k lightness)
    c.gap_of-gap.ensures
    c.spread_of-spread.ensures
    (no_separation a.k a.colors one a.directions.now.cos.now a.directions.now.sin.now)
    (no_chroma a.k a.colors one)

pub returns : goal.returns
returns c =
    let k = c.args.k in
    let colors = c.args.colors in
    let cs = c.args.directions.now.cos.now in
    let ss = c.args.directions.now.sin.now in
    let two : 2 * k ≡ k + k = omega arith in
    let m = c.parts_of in
    let lightness : Measured lightness_of (k + k) colors m.result.l = rw two at m.ensures.0 in
    let chroma : Measured chroma_in (k + k) colors m.result.c = rw two at m.ensures.1 in
    let hues : Measured (color_hue cs ss) (k + k) colors c.hues_in.result = rw two at c.hues_in.ensures in
    metrics_are k colors _ _ cs ss c.gap_of-gap.result c.spread_of-spread.result c.separation_of.result c.chroma_of.result
    (dark_is lightness_of colors m.result.l k lightness)
    (light_is lightness_of colors m.result.l k lightness)
    c.gap_of-gap.ensures
    c.spread_of-spread.ensures
    (c.separation_of.ensures ∙ separation_is k colors _ _ cs ss (dark_is (color_hue cs ss) colors c.hues_in.result k hues) (light_is (color_hue cs ss) colors c.hues_in.result k hues) c.if-k-lt2.false)
    (c.chroma_of.ensures ∙ chroma_is k colors _ _ (dark_is chroma_in colors m.result.c k chroma) (light_is chroma_in colors m.result.c k chroma) c.if-k-lt2.false)
