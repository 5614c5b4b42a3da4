-- `Shown::lower_from` meets its contract. The invariant: from the chroma at hand, with the last finding, back-off ends where it ends from the first. The measure is the bit
-- pattern of the chroma. Assumes nothing.
use mathlib.Core.Path.{◌≡◌, refl, sym, ap, ◌∙◌, subst}
use mathlib.Core.Bool.{true}
use mathlib.Core.List.{List}
use lib.Dec.{T}
use lib.Ieee.{Float, of_bits, round}
use Rattle.limits.specs.Answers.{value}
use Rattle.srgb.specs.declared.Srgb8.{Srgb8}
use Rattle.palette_checks.specs.declared.Design.{Design}
use Rattle.metrics.specs.declared.Metrics.{Metrics}
use Rattle.palette.specs.Derivation.{colors_of}
use Rattle.metrics.specs.Metrics.{metrics_of}
use Rattle.palette.specs.Validation.{Judgement, passed, finding, first_of, findings, judged, verdict_said, finding_number}
use Rattle.palette.specs.BackOff.{lower, tried, Ending, lastly, passes, end_of, judge_at, colors_after}
use Rattle.palette.proofs.Ready.{few_hues}
use Rattle.palette.proofs.Lowering.{taken_low, lowered, untried, passing, lowering}
use Rattle.palette.proofs.Shown.lower_from.Goals as goal

-- what is found of a chroma, by the three calls
judge_is : (d : Design) (cs ss : List Float) (c : Float) (colors : List Srgb8) (m : Metrics) (v : Judgement)
    → colors ≡ colors_of d c cs ss → m ≡ metrics_of d.k colors cs ss → v ≡ first_of (findings d.k m) → judge_at d cs ss c ≡ v
unfolding judge_at judged
judge_is d cs ss c colors m v e f g = sym (g ∙ ap (λ (x : Metrics). first_of (findings d.k x)) (f ∙ ap (λ (x : List Srgb8). metrics_of d.k x cs ss) e))

pub loop-last-init : goal.loop-last-init
unfolding end_of
loop-last-init c = (taken_low c.args.chroma (subst T (sym c.well_formed.1.0.1) tt) c.requires, (0, (refl, (refl, refl))))

pub first_finding-requires : goal.first_finding-requires
first_finding-requires c = few_hues c.args.self.now.ready

pub returns-in-None : goal.returns-in-None
returns-in-None c =
    let a = c.args.self.now in
    let i = c.loop-last.invariant.1 in
    let t : tried c.loop-last.c ≡ true = sym c.tried.ensures ∙ c.loop-last-test.true in
    let found : judge_at a.design a.directions.cos.now a.directions.sin.now c.loop-last.c ≡ passed =
    judge_is a.design a.directions.cos.now a.directions.sin.now c.loop-last.c c.colors_of-colors.result c.measure.result (verdict_said c.first_finding.result)
    c.colors_of-colors.ensures c.measure.ensures c.first_finding.ensures
    ∙ ap verdict_said c.in-None.is in
    let e : passes c.loop-last.c ≡ end_of (judge_at a.design a.directions.cos.now a.directions.sin.now) c.args.chroma = sym (passing (judge_at a.design a.directions.cos.now a.directions.sin.now) c.loop-last.c i.0 c.loop-last.invariant.0 t found) ∙ i.1.1.1 in
    (e, c.colors_of-colors.ensures ∙ ap (λ (x : Ending). colors_after a.design a.directions.cos.now a.directions.sin.now (value x)) e)

pub loop-last-smaller : goal.loop-last-smaller
unfolding lower round of_bits
loop-last-smaller c = (lowered c.loop-last.c c.loop-last.invariant.0 (sym c.tried.ensures ∙ c.loop-last-test.true)).1

pub loop-last-preserved : goal.loop-last-preserved
unfolding lower round of_bits
loop-last-preserved c =
    let a = c.args.self.now in
    let i = c.loop-last.invariant.1 in
    let low = c.loop-last.invariant.0 in
    let t : tried c.loop-last.c ≡ true = sym c.tried.ensures ∙ c.loop-last-test.true in
    let n = finding_number c.in-Some.found in
    let found : judge_at a.design a.directions.cos.now a.directions.sin.now c.loop-last.c ≡ finding n =
    judge_is a.design a.directions.cos.now a.directions.sin.now c.loop-last.c c.colors_of-colors.result c.measure.result (verdict_said c.first_finding.result)
    c.colors_of-colors.ensures c.measure.ensures c.first_finding.ensures
    ∙ ap verdict_said c.in-Some.is in
    ((lowered c.loop-last.c low t).0, (n, (refl, (refl, sym (lowering (judge_at a.design a.directions.cos.now a.directions.sin.now) c.loop-last.c i.0 n low t found) ∙ i.1.1.1))))

pub returns : goal.returns
returns c =
    let a = c.args.self.now in
    let i = c.loop-last.invariant.1 in
    let e : lastly i.0 ≡ end_of (judge_at a.design a.directions.cos.now a.directions.sin.now) c.args.chroma = sym (untried (judge_at a.design a.directions.cos.now a.directions.sin.now) c.loop-last.c i.0 (sym c.tried.ensures ∙ c.loop-last-test.false)) ∙ i.1.1.1 in
    (i.1.0 ∙ e, i.1.1.0 ∙ ap (λ (x : Ending). colors_after a.design a.directions.cos.now a.directions.sin.now (value x)) e)
