-- The colours of a design, place by place: dark ones, light ones, black ones, thirty-two of them. Assumes nothing.
use mathlib.Core.Path.{◌≡◌, refl, sym, ap, ◌∙◌}
use mathlib.Core.List.{List, [], ◌∷◌, ◌++◌}
use mathlib.Core.Logic.{⊎_elim}
use Prim.Native.Nat.{ℕ, zero, suc, ◌+◌, ◌-◌, ◌≤◌, ◌<◌}
use native.Mathlib.Nat.{not-suc-le-zero, le_of_suc-le-suc}
use native.Mathlib.Omega.{arith}
use lib.Ieee.{Float}
use lib.ListN.{length, get_or, take, replicate, length-append, length-replicate, get_or-append}
use lib.Seq.{length-take-le, get_or-append-add, get_or-take, ext_get_or}
use Rattle.limits.proofs.Numbers.{below_or_not}
use Rattle.srgb.specs.declared.Srgb8.{Srgb8}
use Rattle.gamut.specs.Gamut.{level_of}
use Rattle.palette_checks.specs.declared.Design.{Design}
use Rattle.palette.specs.Derivation.{black, shown, level_colors, colors_of}
use Rattle.palette.specs.Inner.{color_at}

-- ---- one level
module _ (l c : Float) (cs ss : List Float) where
  level_long : (js : List ℕ) → length (level_colors l c cs ss js) ≡ length js
  unfolding level_colors
  level_long [] = refl
  level_long (j ∷ js) = ap suc (level_long js)

  level_at : (js : List ℕ) (i : ℕ) → i < length js → get_or (level_colors l c cs ss js) i black ≡ shown l c cs ss (get_or js i 0)
  unfolding level_colors
  level_at [] i h = absurd (not-suc-le-zero h)
  level_at (j ∷ js) zero h = refl
  level_at (j ∷ js) (suc i) h = level_at js i (le_of_suc-le-suc h)

  -- of the first k hues
  module _ (k : ℕ) (hues : List ℕ) (within : k ≤ length hues) where
    first_long : length (level_colors l c cs ss (take k hues)) ≡ k
    first_long = level_long (take k hues) ∙ length-take-le k hues within

    first_at_lem : (i : ℕ) → i < k → get_or (level_colors l c cs ss (take k hues)) i black ≡ shown l c cs ss (get_or hues i 0)
    first_at_lem i h =
        let e = length-take-le k hues within in
        level_at (take k hues) i (omega arith) ∙ ap (shown l c cs ss) (get_or-take k hues i 0 h)

-- past the first of two lists
past : (xs ys : List Srgb8) (i : ℕ) → length xs ≤ i → get_or (xs ++ ys) i black ≡ get_or ys (i - length xs) black
past xs ys i h =
    let e : i ≡ length xs + (i - length xs) = omega arith in
    ap (λ (m : ℕ). get_or (xs ++ ys) m black) e ∙ get_or-append-add xs ys (i - length xs) black

pub all_black : (n i : ℕ) → get_or (replicate n black) i black ≡ black
all_black zero i = refl
all_black (suc n) zero = refl
all_black (suc n) (suc i) = all_black n i

-- ---- both levels, and the rest
module _ (d : Design) (c : Float) (cs ss : List Float) (within : d.k ≤ length d.hues) where
  abbrev darks : List Srgb8
  darks = level_colors (level_of d.dark) c cs ss (take d.k d.hues)

  abbrev lights : List Srgb8
  lights = level_colors (level_of d.light) c cs ss (take d.k d.hues)

  abbrev rest : List Srgb8
  rest = replicate (32 - (d.k + d.k)) black

  darks_long : length darks ≡ d.k
  darks_long = first_long (level_of d.dark) c cs ss d.k d.hues within

  lights_long : length lights ≡ d.k
  lights_long = first_long (level_of d.light) c cs ss d.k d.hues within

  -- in the light places and after them
  later : (i : ℕ) → d.k ≤ i → color_at d c cs ss i ≡ get_or (lights ++ rest) (i - d.k) black
  unfolding colors_of
  later i h = let e = darks_long in past darks (lights ++ rest) i (omega arith) ∙ ap (λ (n : ℕ). get_or (lights ++ rest) (i - n) black) e

  pub dark_at_lem : (i : ℕ) → i < d.k → color_at d c cs ss i ≡ shown (level_of d.dark) c cs ss (get_or d.hues i 0)
  unfolding colors_of
  dark_at_lem i h =
      let e = darks_long in
      get_or-append darks (lights ++ rest) black i (omega arith) ∙ first_at_lem (level_of d.dark) c cs ss d.k d.hues within i h

  pub light_at_lem : (i : ℕ) → d.k ≤ i → i < d.k + d.k → color_at d c cs ss i ≡ shown (level_of d.light) c cs ss (get_or d.hues (i - d.k) 0)
  light_at_lem i g h =
      let e = lights_long in
      later i g ∙ get_or-append lights rest black (i - d.k) (omega arith) ∙ first_at_lem (level_of d.light) c cs ss d.k d.hues within (i - d.k) (omega arith)

  pub black_at : (i : ℕ) → d.k + d.k ≤ i → color_at d c cs ss i ≡ black
  black_at i h =
      let e = lights_long in
      later i (omega arith) ∙ past lights rest (i - d.k) (omega arith) ∙ all_black (32 - (d.k + d.k)) ((i - d.k) - length lights)

  pub all_colors : d.k ≤ 16 → length (colors_of d c cs ss) ≡ 32
  unfolding colors_of
  all_colors few =
      let p = darks_long in
      let q = lights_long in
      omega (arith, length-append darks (lights ++ rest), length-append lights rest, length-replicate (32 - (d.k + d.k)) black)

  -- thirty-two colours that are right in the 2k places and black after them
  pub colors_are : d.k ≤ 16 → (colors : List Srgb8) → length colors ≡ 32 → ((i : ℕ) → i < d.k + d.k → get_or colors i black ≡ color_at d c cs ss i) → ((i : ℕ) → d.k + d.k ≤ i → get_or colors i black ≡ black) → colors ≡ colors_of d c cs ss
  colors_are few colors e f g =
      ext_get_or black colors (colors_of d c cs ss) (e ∙ sym (all_colors few))
      (λ (i : ℕ) (h : i < length colors). ⊎_elim (f i) (λ (t : d.k + d.k ≤ i). g i t ∙ sym (black_at i t)) (below_or_not i (d.k + d.k)))
