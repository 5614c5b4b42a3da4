-- The first crossing, one direction after the other. Assumes nothing.
use mathlib.Core.Path.{◌≡◌, refl, ap, ◌∙◌}
use mathlib.Core.Bool.{true, false}
use mathlib.Core.List.{List}
use Prim.Native.Nat.{ℕ, suc, ◌+◌, ◌-◌, ◌≤◌, ◌<◌}
use native.Mathlib.Omega.{arith}
use lib.Ieee.{Float}
use Rattle.limits.specs.Taken.{f32_of}
use Rattle.hue.specs.Hue.{crosses, hue_at, hue_from, hue_of}

module _ (cs ss : List Float) (a b : Float) (j : ℕ) (so_far : hue_from cs ss a b (720 - j) j ≡ hue_of cs ss a b) where
  one_less : j < 720 → 720 - j ≡ suc (720 - (j + 1))
  one_less h = omega arith

  pub here : j < 720 → crosses cs ss a b j ≡ true → hue_at cs ss a b j ≡ hue_of cs ss a b
  unfolding hue_from
  here h t =
      let e : hue_from cs ss a b (suc (720 - (j + 1))) j ≡ hue_of cs ss a b = rw (one_less h) at so_far in
      rw t at e

  pub onward : j < 720 → crosses cs ss a b j ≡ false → hue_from cs ss a b (720 - (j + 1)) (j + 1) ≡ hue_of cs ss a b
  unfolding hue_from
  onward h f =
      let n : j + 1 ≡ suc j = omega arith in
      let e : hue_from cs ss a b (suc (720 - (j + 1))) j ≡ hue_of cs ss a b = rw (one_less h) at so_far in
      ap (λ (k : ℕ). hue_from cs ss a b (720 - (j + 1)) k) n ∙ (rw f at e)

  pub nowhere : 720 ≤ j → f32_of 0 ≡ hue_of cs ss a b
  unfolding hue_from
  nowhere h = let n : 720 - j ≡ 0 = omega arith in rw n at so_far

pub from_the_first : (cs ss : List Float) (a b : Float) → hue_from cs ss a b (720 - 0) 0 ≡ hue_of cs ss a b
unfolding hue_of
from_the_first cs ss a b = refl
