-- The hues of a job: the first n are held to 719, the others to zero, each part in a test of its own. Assumes nothing.
use mathlib.Core.Path.{◌≡◌, refl, sym, ap, ◌∙◌}
use mathlib.Core.Bool.{Bool, true, false, ◌&&◌, and_assoc}
use mathlib.Core.List.{List, [], ◌∷◌}
use Prim.Native.Nat.{ℕ, zero, suc}
use lib.Dec.{leb, eqb}
use lib.ListN.{take, drop}
use Rattle.std.specs.List.{list_all}
use Rattle.search_rules.specs.Job.{hues_held}

abbrev pub first_held : ℕ → List ℕ → Bool
first_held n hues = list_all (λ h. leb h 719) (take n hues)

abbrev pub others_held : ℕ → List ℕ → Bool
others_held n hues = list_all (λ h. eqb h 0) (drop n hues)

none_stands : (hues : List ℕ) → hues_held 0 hues ≡ list_all (λ h. eqb h 0) hues
unfolding hues_held
none_stands [] = refl
none_stands (h ∷ hs) = ap (λ (b : Bool). eqb h 0 && b) (none_stands hs)

parted : (n : ℕ) (hues : List ℕ) → hues_held n hues ≡ (first_held n hues && others_held n hues)
unfolding hues_held
parted zero hues = none_stands hues
parted (suc n) [] = refl
parted (suc n) (h ∷ hs) = ap (λ (b : Bool). leb h 719 && b) (parted n hs) ∙ sym (and_assoc (leb h 719) (first_held n hs) (others_held n hs))

-- the first test decides, and where it passes the second
pub by_others : {a b : Bool} (n : ℕ) (hues : List ℕ) → a ≡ first_held n hues → a ≡ true → b ≡ others_held n hues → b ≡ hues_held n hues
by_others {a} {b} n hues e h f = f ∙ ap (λ (t : Bool). t && others_held n hues) (sym h ∙ e) ∙ sym (parted n hues)

pub by_first : {a : Bool} (n : ℕ) (hues : List ℕ) → a ≡ first_held n hues → a ≡ false → a ≡ hues_held n hues
by_first {a} n hues e h = h ∙ ap (λ (t : Bool). t && others_held n hues) (sym h ∙ e) ∙ sym (parted n hues)
