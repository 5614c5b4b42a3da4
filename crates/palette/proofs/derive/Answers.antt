-- `palette::derive` meets its contract: the check says what is refused, and the rest are the colours of the design. Assumes nothing.
use mathlib.Core.Path.{sym, ap, ◌∙◌}
use native.Mathlib.Omega.{arith}
use Rattle.std.proofs.lemmas.Result.{err_from_is_err_and}
use Rattle.limits.specs.Answers.{value}
use Rattle.palette.specs.Derivation.{colors_of, derivation_says}
use Rattle.palette.proofs.Checking.{handed, ready, accepted, rejected}
use Rattle.palette.proofs.derive.Goals as goal

pub returns-in_err-directions : goal.returns-in_err-directions
unfolding derivation_says
returns-in_err-directions c =
    let a = c.args in
    let p = err_from_is_err_and c.from_residual.result c.from_residual.ensures.1 in
    rw (p.1, p.2) (sym (rejected a.design a.chroma a.cos.now a.sin.now c.check_design.result c.check_design.ensures (value (colors_of a.design a.chroma a.cos.now a.sin.now)) _ c.in_err-directions.was))

pub invariant_of-shown : goal.invariant_of-shown
invariant_of-shown c =
    let a = c.args in
    record { ready = (ready a.design a.chroma a.cos.now a.sin.now c.check_design.result c.check_design.ensures c.in_ok-directions.directions c.in_ok-directions.was (omega arith)).0 }

pub returns : goal.returns
unfolding derivation_says
returns c =
    let a = c.args in
    let cs = a.cos.now in
    let ss = a.sin.now in
    let k = c.check_design in
    let o = c.in_ok-directions in
    let h = handed a.design a.chroma cs ss k.result k.ensures o.directions o.was in
    let v = rw (h.0, h.1) at c.colors_of.ensures in
    ap value v ∙ sym (accepted a.design a.chroma cs ss k.result k.ensures (value (colors_of a.design a.chroma cs ss)) o.directions o.was)
