-- `palette_checks::check_design` meets its contract: where its other tests pass, it hands back what the directions are. Assumes nothing.
use mathlib.Core.Path.{◌≡◌, sym, ap, ◌∙◌}
use mathlib.Core.Bool.{true}
use Prim.Native.Nat.{◌≤◌}
use native.Mathlib.Omega.{arith}
use borrow.Author.Tests.{le-leb}
use Rattle.limits.specs.Lent.{directions_said}
use Rattle.palette_checks.specs.Designs.{hues_taken, levels_taken, design_checked}
use Rattle.palette_checks.proofs.Hues.{all_taken}
use Rattle.palette_checks.proofs.check_design.Goals as goal

pub returns : goal.returns
unfolding design_checked levels_taken
returns c =
    let d = c.args.design in
    let hues : hues_taken d.k d.hues ≡ true = all_taken d.k d.hues ∙ sym c.takes_hues.ensures ∙ c.if-not-takes_hues.false in
    let dark : d.dark ≤ 168 = omega arith in
    let light : d.light ≤ 168 = omega arith in
    rw (
      sym c.takes_hue_count.ensures ∙ c.if-not-takes_hue_count.false,
      sym c.takes_chroma.ensures ∙ c.if-not-takes_chroma.false,
      le-leb _ _ dark,
      le-leb _ _ light,
      hues,
    ) (sym (ap directions_said c.in_ok-directions.was) ∙ c.new.ensures)
