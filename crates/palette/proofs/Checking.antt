-- What the checks of a design say, whatever a good call says after them: all pass and it is said, or one fails and its number is. Assumes nothing.
use mathlib.Core.Path.{◌≡◌, sym, ap, ◌∙◌}
use mathlib.Core.Bool.{true}
use mathlib.Core.List.{List, [], ◌∷◌}
use lib.Ieee.{Float}
use lib.ListN.{length}
use Rattle.limits.specs.Answers.{Said, value, refused}
use Rattle.limits.specs.Refusals.{number}
use Rattle.limits.specs.Taken.{hue_count_taken, chroma_taken, directions_taken}
use Rattle.limits.specs.Lent.{directions_said}
use Rattle.limits.specs.declared.Refusal.{Refusal}
use Rattle.limits.specs.declared.Directions.{Directions}
use Rattle.limits.proofs.Checks.{Check, check, AllPass, all_pass, said, failing, same_value}
use Rattle.std.specs.Prelude.{Result, Ok, Err}
use Rattle.palette_checks.specs.declared.Design.{Design}
use Rattle.palette_checks.specs.Designs.{hues_taken, levels_taken, design_checked}
use Rattle.palette.specs.Inner.{Ready}

-- its checks in the order of their numbers
abbrev checks : Design → Float → List Float → List Float → List Check
checks d c cs ss = check (hue_count_taken d.k) 1 ∷ check (chroma_taken c) 3 ∷ check (directions_taken cs ss) 9 ∷ check (levels_taken d) 11 ∷ check (hues_taken d.k d.hues) 12 ∷ []

-- by what a check handed back
module _ (d : Design) (c : Float) (cs ss : List Float) (r : Result Directions Refusal) (says : directions_said r ≡ design_checked d c cs ss (value (cs, ss))) where
  -- all pass, and what is handed back is what was lent
  passed : (lent : Directions) → r ≡ Ok lent → AllPass (checks d c cs ss) × (◌≡◌ {A = Said (List Float × List Float)} (value (cs, ss)) (value (lent.cos.now, lent.sin.now)))
  unfolding design_checked
  passed lent f = all_pass (checks d c cs ss) (value (cs, ss)) (lent.cos.now, lent.sin.now) (sym says ∙ ap directions_said f)

  pub handed : (lent : Directions) → r ≡ Ok lent → (lent.cos.now ≡ cs) × (lent.sin.now ≡ ss)
  handed lent f =
      let e = same_value _ _ (passed lent f).1 in
      (ap (λ (p : List Float × List Float). p.0) (sym e), ap (λ (p : List Float × List Float). p.1) (sym e))

  -- the design is ready, and the chroma taken
  pub ready : (lent : Directions) → r ≡ Ok lent → length d.hues ≡ 16 → Ready d × (chroma_taken c ≡ true)
  ready lent f sixteen =
      let t = (passed lent f).0 in
      (record { hue_count = t.0; levels = t.1.1.1.0; hues = t.1.1.1.1.0; sixteen = sixteen }, t.1.0)

  -- what a good call says is said
  pub accepted : {A : Type 0} (x : Said A) (lent : Directions) → r ≡ Ok lent → design_checked d c cs ss x ≡ x
  unfolding design_checked
  accepted x lent f = said (checks d c cs ss) x (passed lent f).0

  -- one fails: its number is said
  pub rejected : {A : Type 0} (x : Said A) (w : Refusal) → r ≡ Err w → design_checked d c cs ss x ≡ refused (number w)
  unfolding design_checked
  rejected x w f = failing (checks d c cs ss) x (cs, ss) (number w) (sym says ∙ ap directions_said f)
