-- The hues of the first n of some colours: as many numbers as colours, each the hue of its colour, and one more of them than n. Assumes nothing.
use mathlib.Core.Path.{◌≡◌, refl, ap}
use mathlib.Core.List.{List, [], ◌∷◌}
use Prim.Native.Nat.{ℕ, zero, suc, ◌<◌}
use native.Mathlib.Nat.{not-suc-le-zero, le_of_suc-le-suc}
use lib.Ieee.{Float}
use lib.ListN.{length, get_or, set, replicate}
use Rattle.limits.specs.Taken.{f32_of}
use Rattle.srgb.specs.declared.Srgb8.{Srgb8}
use Rattle.hue.specs.Hue.{color_hue, color_hues}

module _ (cs ss : List Float) where
  pub hues_long : (n : ℕ) (colors : List Srgb8) → length (color_hues cs ss n colors) ≡ length colors
  unfolding color_hues
  hues_long n [] = refl
  hues_long zero (c ∷ colors) = ap suc (hues_long zero colors)
  hues_long (suc n) (c ∷ colors) = ap suc (hues_long n colors)

  pub hues_at : (n : ℕ) (colors : List Srgb8) (p : ℕ) (x : Float) (c : Srgb8) → p < n → p < length colors → get_or (color_hues cs ss n colors) p x ≡ color_hue cs ss (get_or colors p c)
  unfolding color_hues
  hues_at n [] p x c h l = absurd (not-suc-le-zero l)
  hues_at zero (d ∷ colors) p x c h l = absurd (not-suc-le-zero h)
  hues_at (suc n) (d ∷ colors) zero x c h l = refl
  hues_at (suc n) (d ∷ colors) (suc p) x c h l = hues_at n colors p x c (le_of_suc-le-suc h) (le_of_suc-le-suc l)

  pub hues_none : (colors : List Srgb8) → replicate (length colors) (f32_of 0) ≡ color_hues cs ss zero colors
  unfolding color_hues
  hues_none [] = refl
  hues_none (c ∷ colors) = ap (λ (r : List Float). f32_of 0 ∷ r) (hues_none colors)

  pub hues_next : (n : ℕ) (colors : List Srgb8) (c : Srgb8) → n < length colors → set (color_hues cs ss n colors) n (color_hue cs ss (get_or colors n c)) ≡ color_hues cs ss (suc n) colors
  unfolding color_hues
  hues_next n [] c l = absurd (not-suc-le-zero l)
  hues_next zero (d ∷ colors) c l = refl
  hues_next (suc n) (d ∷ colors) c l = ap (λ (r : List Float). color_hue cs ss d ∷ r) (hues_next n colors c (le_of_suc-le-suc l))
