-- An array that is filled with what a function gives of each colour: the part that stands for some of the colours. Assumes nothing.
use mathlib.Core.Path.{◌≡◌, refl, sym, ap, ◌∙◌}
use mathlib.Core.List.{List, ◌∷◌, map}
use Prim.Native.Nat.{ℕ, zero, suc, ◌+◌, ◌≤◌}
use native.Mathlib.Omega.{arith}
use lib.Ieee.{Float, nan}
use lib.ListN.{get_or, take, drop}
use lib.Seq.{drop-cons}
use Rattle.srgb.specs.declared.Srgb8.{Srgb8}
use Rattle.palette.specs.Derivation.{black}
use Rattle.metrics.specs.Metrics.{darks, lights}
use Rattle.palette.specs.Inner.{Measured}

module _ (f : Srgb8 → Float) (colors : List Srgb8) (xs : List Float) where
  -- m numbers from a place on, where the first n places are filled
  module _ (n : ℕ) (all : Measured f n colors xs) where
    pub part_is : (m from : ℕ) → from + m ≤ n → take m (drop from xs) ≡ map f (take m (drop from colors))
    part_is zero from h = refl
    part_is (suc m) from h =
        let long = all.long in
        let wide = all.wide in
        ap (take (suc m)) (drop-cons xs from nan (omega arith))
        ∙ ap (λ (x : Float). x ∷ take m (drop (suc from) xs)) (all.filled from (omega arith))
        ∙ ap (λ (r : List Float). f (get_or colors from black) ∷ r) (part_is m (suc from) (omega arith))
        ∙ sym (ap (λ (z : List Srgb8). map f (take (suc m) z)) (drop-cons colors from black (omega arith)))

  -- the two levels of k colours each
  module _ (k : ℕ) (all : Measured f (k + k) colors xs) where
    pub dark_is : take k xs ≡ map f (darks k colors)
    dark_is = part_is (k + k) all k 0 (omega arith)

    pub light_is : take k (drop k xs) ≡ map f (lights k colors)
    light_is = part_is (k + k) all k k (omega arith)
