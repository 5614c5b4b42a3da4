-- `metrics::least_apart` meets its contract: of each hue, the least of its distances to those after it. Assumes nothing.
use mathlib.Core.Path.{◌≡◌, ap, ◌∙◌}
use Prim.Native.Nat.{◌+◌}
use native.Mathlib.Omega.{arith}
use lib.Ieee.{Float, nan}
use lib.ListN.{get_or, drop, length-drop}
use lib.Seq.{take_all}
use Rattle.std.specs.List.{fold}
use Rattle.pair_rules.specs.Rows.{lesser}
use Rattle.metrics.specs.Metrics.{apart, least_from, least_apart}
use Rattle.metrics.proofs.Folds.{folded_is, apart_next, apart_done}
use Rattle.metrics.proofs.least_apart.Goals as goal

pub loop-i-preserved : goal.loop-i-preserved
loop-i-preserved c =
    let hues = c.args.hues.now in
    let l = c.loop-i in
    let after = drop (l.i + 1) hues in
    let f : Float → Float → Float = λ (so g : Float). lesser so (apart (get_or hues l.i nan) g) in
    let e : c.least_from-lo.result ≡ least_from l.lo (get_or hues l.i nan) after =
    c.least_from-lo.ensures
    ∙ ap (fold f l.lo) (take_all _ after (omega (arith, length-drop (l.i + 1) hues)))
    ∙ folded_is f l.lo after in
    ap (λ (x : Float). least_apart x after) e ∙ apart_next hues l.lo l.i c.loop-i-test.true ∙ l.invariant

pub returns : goal.returns
returns c = apart_done c.args.hues.now c.loop-i.lo c.loop-i.i c.loop-i-test.false ∙ c.loop-i.invariant
