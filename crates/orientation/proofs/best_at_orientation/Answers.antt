-- `orientation::best_at_orientation` meets its contract: the check says what is refused, and the rest is the best of all dark levels. Assumes nothing.
use mathlib.Core.Path.{◌≡◌, refl, sym, ap, ◌∙◌, subst}
use mathlib.Core.List.{List}
use Prim.Native.Nat.{ℕ, ◌<◌}
use lib.Ieee.{Float, nan}
use Rattle.std.specs.Prelude.{Err}
use Rattle.std.proofs.lemmas.Result.{err_from_is_err_and}
use Rattle.limits.specs.Answers.{value, refused, pass}
use Rattle.limits.specs.Each.{Each, F32}
use Rattle.limits.specs.Refusals.{number}
use Rattle.limits.specs.declared.Refusal.{Refusal}
use Rattle.limits.proofs.Checks.{all_pass, said, failing}
use Rattle.limits.proofs.Lists.{each_at}
use Rattle.orientation_rules.specs.Orientation.{Best, none, found, best_fixed, orientation_checked, orientation_says, Gives}
use Rattle.orientation_rules.specs.Fixed.{OrientationTaken}
use Rattle.orientation_rules.proofs.Accepted.{orientation_checks, orientation_only}
use Rattle.orientation_rules.proofs.Meaning.{found_greatest}
use Rattle.orientation.specs.Inner.{best_of, PartnerIn}
use Rattle.orientation.proofs.best_at_orientation.Goals as goal

-- ---- by what the check found
module _ (gap : Float) (t : List Float) (hue : ℕ) where
  refusing : (w : Refusal) → refused (number w) ≡ orientation_checked gap t hue pass → Gives (Err w) hue (orientation_says gap t hue)
  unfolding orientation_says orientation_checked
  refusing w h =
      subst (Gives (Err w) hue) (sym (failing (orientation_checks gap t hue) (value (best_fixed gap t hue)) tt (number w) (sym h))) (record { says = refl; beside = refl })

  passing : pass ≡ orientation_checked gap t hue pass → value (best_fixed gap t hue) ≡ orientation_says gap t hue
  unfolding orientation_says orientation_checked
  passing h = sym (said (orientation_checks gap t hue) (value (best_fixed gap t hue)) (all_pass (orientation_checks gap t hue) pass tt (sym h)).0)

  taken : pass ≡ orientation_checked gap t hue pass → OrientationTaken gap t hue
  taken h = (orientation_only gap t hue (best_fixed gap t hue) (sym (passing h))).0

-- the partner of what is found is a hue
partner_in : (gap : Float) (t : List Float) (hue : ℕ) → OrientationTaken gap t hue → Each F32 t → (best : Best) → best_fixed gap t hue ≡ best → PartnerIn best
partner_in gap t hue h f32 none e = tt
partner_in gap t hue h f32 (found c d l p) e = let g = found_greatest gap t hue h f32 c d l p e in subst (λ (n : ℕ). n < 720) g.partner_is g.choice.partner_in

pub over_dark-requires : goal.over_dark-requires
over_dark-requires c =
    let a = c.args in
    record { taken = taken a.gap a.table.now a.hue c.in_ok-check.ensures; f32 = each_at F32 nan a.table.now c.type_inv.table }

pub handed-requires : goal.handed-requires
handed-requires c =
    let a = c.args in
    let h = taken a.gap a.table.now a.hue c.in_ok-check.ensures in
    record { hue_in = h.hue_in; partner_in = partner_in a.gap a.table.now a.hue h (each_at F32 nan a.table.now c.type_inv.table) (best_of c.over_dark.result) (sym c.over_dark.ensures) }

pub returns-in_err-check : goal.returns-in_err-check
returns-in_err-check c =
    let a = c.args in
    let p = err_from_is_err_and c.from_residual.result c.from_residual.ensures.1 in
    rw (p.1, p.2) (refusing a.gap a.table.now a.hue _ c.in_err-check.ensures)

pub returns : goal.returns
returns c =
    let a = c.args in
    subst (Gives _ a.hue) (ap value c.over_dark.ensures ∙ passing a.gap a.table.now a.hue c.in_ok-check.ensures) c.handed.ensures
