-- Document 01, numbers 11 and 12, and the refusals that derivation and back-off share. Definitions only.
use Rattle.std.specs.Prelude.{ℕ, zero, suc, Bool, true, ◌&&◌, cond, List, [], ◌∷◌, leb, Float}
use Rattle.limits.specs.Answers.{Said, refused}
use Rattle.limits.specs.Taken.{hue_count_taken, chroma_taken, directions_taken}
use Rattle.palette_checks.specs.declared.Design.{Design}

-- number 12: one of the first k hue indices above 719; the others may be anything
unfoldable pub hues_taken : ℕ → List ℕ → Bool
hues_taken zero hs = true
hues_taken (suc n) [] = true
hues_taken (suc n) (h ∷ hs) = leb h 719 && hues_taken n hs

-- number 11: a level index above 168
unfoldable pub levels_taken : Design → Bool
levels_taken d = leb d.dark 168 && leb d.light 168

-- "derivation and back-off 1, 3, 9, 11, 12", the lowest, in front of what a good call says
unfoldable pub design_checked : {A : Type 0} → Design → Float → List Float → List Float → Said A → Said A
design_checked d c cs ss good =
    cond (hue_count_taken d.k)
    (cond (chroma_taken c)
    (cond (directions_taken cs ss)
    (cond (levels_taken d)
    (cond (hues_taken d.k d.hues) good (refused 12)) (refused 11)) (refused 9)) (refused 3)) (refused 1)
