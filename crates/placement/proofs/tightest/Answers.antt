-- `placement::tightest` meets its contract. The invariant: what is least so far is the smallest gap from the hue at `at` on. Assumes nothing.
use mathlib.Core.Path.{◌≡◌, sym, ap, ◌∙◌}
use Prim.Native.Nat.{ℕ, suc, ◌+◌, ◌-◌, ◌≤◌}
use native.Mathlib.Omega.{arith}
use lib.ListN.{length, get_or}
use Rattle.placement_rules.specs.Gaps.{around}
use Rattle.placement.proofs.Gaps.{from, begins, goes_on, at_first}
use Rattle.placement.proofs.tightest.Goals as goal

pub loop-at-init : goal.loop-at-init
loop-at-init c =
    let a = c.args in
    let s = c.requires.some_hue in
    let k = c.requires.few_hues in
    let few : a.k ≤ length a.hues = omega arith in
    begins a.n a.k a.hues few (a.k - 1) (omega arith) _ c.around-least.ensures

pub loop-at-preserved : goal.loop-at-preserved
loop-at-preserved c =
    let a = c.args in
    let at = c.loop-at.at in
    let some = c.loop-at-test.true in
    let inside = c.loop-at.auto.at in
    let s = c.requires.some_hue in
    let k = c.requires.few_hues in
    let few : a.k ≤ length a.hues = omega arith in
    let e : at - 1 + 1 ≡ at = omega arith in
    let f : suc (at - 1) ≡ at = omega arith in
    let gap : ℕ → ℕ = λ (j : ℕ). around a.n (get_or a.hues (at - 1) 0) (get_or a.hues j 0) in
    let far : c.around.result ≡ gap (suc (at - 1)) = c.around.ensures ∙ ap gap (e ∙ sym f) in
    let so_far : c.loop-at.least ≡ from a.n a.k a.hues (suc (at - 1)) = c.loop-at.invariant ∙ ap (from a.n a.k a.hues) (sym f) in
    goes_on a.n a.k a.hues few (at - 1) (omega arith) _ _ _ c.min-least.ensures far so_far

pub returns : goal.returns
returns c =
    let a = c.args in
    let h = c.loop-at-test.false in
    let k = c.requires.few_hues in
    let few : a.k ≤ length a.hues = omega arith in
    let e : c.loop-at.at ≡ 0 = omega arith in
    c.loop-at.invariant ∙ ap (from a.n a.k a.hues) e ∙ at_first a.n a.k a.hues few c.requires.some_hue
