-- `palette::back_off` meets its contract: the check says what is refused, and the rest is lowered from the chroma asked for. Assumes nothing.
use mathlib.Core.Path.{sym, ap, ◌∙◌}
use native.Mathlib.Omega.{arith}
use Rattle.std.proofs.lemmas.Result.{err_from_is_err_and}
use Rattle.limits.specs.Answers.{value}
use Rattle.palette.specs.BackOff.{end_of, judge_at, back_off_says, colors_after}
use Rattle.palette.proofs.Checking.{handed, ready, accepted, rejected}
use Rattle.palette.proofs.back_off.Goals as goal

pub returns-in_err-directions : goal.returns-in_err-directions
unfolding back_off_says
returns-in_err-directions c =
    let a = c.args in
    let d = a.design in
    let cs = a.cos.now in
    let ss = a.sin.now in
    let e = rejected d a.chroma cs ss c.check_design.result c.check_design.ensures (value (end_of (judge_at d cs ss) a.chroma)) _ c.in_err-directions.was in
    let p = err_from_is_err_and c.from_residual.result c.from_residual.ensures.1 in
    rw (p.1, p.2) (sym e, sym (ap (colors_after d cs ss) e))

pub invariant_of-shown : goal.invariant_of-shown
invariant_of-shown c =
    let a = c.args in
    record { ready = (ready a.design a.chroma a.cos.now a.sin.now c.check_design.result c.check_design.ensures c.in_ok-directions.directions c.in_ok-directions.was (omega arith)).0 }

pub lower_from-requires : goal.lower_from-requires
lower_from-requires c =
    let a = c.args in
    (ready a.design a.chroma a.cos.now a.sin.now c.check_design.result c.check_design.ensures c.in_ok-directions.directions c.in_ok-directions.was (omega arith)).1

pub returns : goal.returns
unfolding back_off_says
returns c =
    let a = c.args in
    let d = a.design in
    let cs = a.cos.now in
    let ss = a.sin.now in
    let k = c.check_design in
    let o = c.in_ok-directions in
    let h = handed d a.chroma cs ss k.result k.ensures o.directions o.was in
    let v = rw (h.0, h.1) at c.lower_from.ensures in
    let e = accepted d a.chroma cs ss k.result k.ensures (value (end_of (judge_at d cs ss) a.chroma)) o.directions o.was in
    (ap value v.0 ∙ sym e, v.1 ∙ sym (ap (colors_after d cs ss) e))
