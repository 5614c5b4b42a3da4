-- What a design that is ready has: few hues, no more than its array holds, levels of the table, and hues among the directions. Assumes nothing.
use Prim.Native.Nat.{ℕ, ◌≤◌, ◌<◌}
use native.Mathlib.Omega.{arith}
use lib.Dec.{leb}
use lib.ListN.{length, get_or}
use borrow.Author.Tests.{leb-true}
use Rattle.limits.proofs.HueCount.{both, hue_count}
use Rattle.palette_checks.specs.declared.Design.{Design}
use Rattle.palette_checks.specs.Designs.{levels_taken}
use Rattle.palette.specs.Inner.{Ready}
use Rattle.palette_checks.proofs.Hues.{small}

module _ {d : Design} (r : Ready d) where
  pub few_hues : d.k ≤ 16
  few_hues = (hue_count d.k r.hue_count).1

  pub within : d.k ≤ length d.hues
  within = let f = few_hues in let s = r.sixteen in omega arith

  pub levels_in_range : (d.dark ≤ 168) × (d.light ≤ 168)
  unfolding levels_taken
  levels_in_range = let t = both (leb d.dark 168) (leb d.light 168) r.levels in (leb-true d.dark 168 t.0, leb-true d.light 168 t.1)

  pub hue_in : (i : ℕ) → i < d.k → get_or d.hues i 0 ≤ 719
  hue_in i h = small d.k d.hues r.hues i h
