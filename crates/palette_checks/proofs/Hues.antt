-- The first hues of a design: their test is that of the library's `all`, and each is at most 719. Assumes nothing.
use mathlib.Core.Path.{◌≡◌, refl, ap}
use mathlib.Core.Bool.{true, ◌&&◌}
use mathlib.Core.List.{List, [], ◌∷◌}
use Prim.Native.Nat.{ℕ, zero, suc, ◌≤◌, ◌<◌, zero-le}
use native.Mathlib.Nat.{not-suc-le-zero, le_of_suc-le-suc}
use lib.Dec.{leb}
use lib.ListN.{get_or, take}
use borrow.Author.Tests.{leb-true}
use Rattle.std.specs.List.{list_all}
use Rattle.limits.proofs.HueCount.{both}
use Rattle.palette_checks.specs.Designs.{hues_taken}

pub all_taken : (k : ℕ) (hues : List ℕ) → hues_taken k hues ≡ list_all (λ h. leb h 719) (take k hues)
unfolding hues_taken
all_taken zero hues = refl
all_taken (suc k) [] = refl
all_taken (suc k) (h ∷ hues) = ap (λ t. leb h 719 && t) (all_taken k hues)

pub small : (k : ℕ) (hues : List ℕ) → hues_taken k hues ≡ true → (i : ℕ) → i < k → get_or hues i 0 ≤ 719
unfolding hues_taken
small zero hues h i l = absurd (not-suc-le-zero l)
small (suc k) [] h i l = zero-le
small (suc k) (x ∷ hues) h zero l = leb-true x 719 (both (leb x 719) (hues_taken k hues) h).0
small (suc k) (x ∷ hues) h (suc i) l = small k hues (both (leb x 719) (hues_taken k hues) h).1 i (le_of_suc-le-suc l)
