-- The checks of a look ahead as a list, and what an accepted one stands on. Assumes nothing.
use mathlib.Core.Path.{◌≡◌, refl, sym, ap, ◌∙◌}
use mathlib.Core.Bool.{true}
use mathlib.Core.List.{List, [], ◌∷◌}
use Prim.Native.Nat.{◌*◌}
use lib.Dec.{eqb}
use lib.Ieee.{Float}
use lib.ListN.{length}
use borrow.Author.Tests.{eqb-true}
use Rattle.limits.specs.Answers.{Said, value}
use Rattle.limits.specs.Taken.{entry_taken, every}
use Rattle.limits.proofs.Checks.{Check, check, through, AllPass, all_pass, same_value}
use Rattle.search_rules.specs.declared.Best.{Best}
use Rattle.search_rules.specs.declared.Job.{Job}
use Rattle.search_rules.specs.Job.{unbroken}
use Rattle.ceiling_rules.specs.Ceiling.{Ceiling, ceiling_of, outlook_checked, outlook_says}

module _ (j : Job) (t : List Float) where
  abbrev pub look_checks : List Check
  look_checks = check (unbroken j) 15 ∷ check (eqb (length t) (j.levels * 720)) 6 ∷ check (every entry_taken t) 7 ∷ []

  pub checked_is : {A : Type 0} (good : Said A) → outlook_checked j t good ≡ through look_checks good
  unfolding outlook_checked
  checked_is good = refl

  -- a record that is not broken, and a whole table of its levels
  pub record Looked : Type 0 where
    pub whole : unbroken j ≡ true
    pub long : length t ≡ j.levels * 720
    pub entries : every entry_taken t ≡ true

  pub look_passed : AllPass look_checks → Looked
  look_passed p = record { whole = p.0; long = eqb-true (length t) (j.levels * 720) p.1.0; entries = p.1.1.0 }

  -- what is said is the job's own best and its ceiling
  pub looked : (b : Best) (top : Ceiling) → outlook_says j t ≡ value (b, top) → Looked × ((j.best ≡ b) × (ceiling_of j t ≡ top))
  unfolding outlook_says
  looked b top h =
      let f = all_pass look_checks (value (j.best, ceiling_of j t)) (b, top) (sym (checked_is (value (j.best, ceiling_of j t))) ∙ h) in
      let e = same_value (j.best, ceiling_of j t) (b, top) f.1 in
      (look_passed f.0, (ap (λ (x : Best × Ceiling). x.0) e, ap (λ (x : Best × Ceiling). x.1) e))
