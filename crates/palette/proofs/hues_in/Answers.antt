-- `palette::hues_in` meets its contract: the directions and the count are taken, so that the hues are not refused. Assumes nothing.
use mathlib.Core.Path.{◌≡◌, refl, sym, ap, ◌∙◌}
use mathlib.Core.Bool.{true}
use mathlib.Core.List.{List}
use Prim.Native.Nat.{ℕ, ◌≤◌, ◌<◌}
use native.Mathlib.Omega.{arith}
use lib.Ieee.{Float, nan}
use lib.ListN.{length}
use borrow.Author.Tests.{le-leb}
use Rattle.std.specs.Prelude.{Result, Ok, Err}
use Rattle.std.specs.Result.{IsOk}
use Rattle.limits.specs.Answers.{value}
use Rattle.limits.specs.Refusals.{said}
use Rattle.limits.specs.declared.Refusal.{Refusal}
use Rattle.limits.proofs.Checks.{same_value}
use Rattle.limits.specs.Taken.{directions_taken}
use Rattle.srgb.specs.declared.Srgb8.{Srgb8}
use Rattle.hue.specs.Hue.{color_hue, color_hues, hues_says}
use Rattle.hue.proofs.Degrees.{hues_long, hues_at}
use Rattle.palette.specs.Derivation.{black}
use Rattle.palette.specs.Inner.{Measured}
use Rattle.palette.proofs.hues_in.Goals as goal

module _ (cs ss : List Float) (n : ℕ) (colors : List Srgb8) (few : n ≤ 32) (taken : directions_taken cs ss ≡ true) (wide : length colors ≡ 32) where
  given : hues_says cs ss n colors ≡ value (color_hues cs ss n colors)
  unfolding hues_says
  given = rw (taken, le-leb n 32 few) refl

  measured : Measured (color_hue cs ss) n colors (color_hues cs ss n colors)
  measured =
      let long = hues_long cs ss n colors in
      record { filled = λ (p : ℕ) (h : p < n). hues_at cs ss n colors p nan black h (omega arith); long = omega arith; wide = omega arith }

-- what is said is not refused
taken_hues : (r : Result (List Float) Refusal) (v : List Float) → said r ≡ value v → IsOk r
taken_hues (Ok x) v h = refl
taken_hues (Err w) v h = cc

pub unwrap-requires : goal.unwrap-requires
unwrap-requires c =
    let a = c.args in
    let d = a.directions.now in
    let wide : length a.colors ≡ 32 = omega arith in
    taken_hues c.srgb8_hues.result _ (c.srgb8_hues.ensures ∙ given d.cos.now d.sin.now a.n a.colors c.requires d.taken wide)

pub returns : goal.returns
returns c =
    let a = c.args in
    let d = a.directions.now in
    let cs = d.cos.now in
    let ss = d.sin.now in
    let wide : length a.colors ≡ 32 = omega arith in
    let e : c.unwrap.result ≡ color_hues cs ss a.n a.colors =
    same_value _ _ (ap said (sym c.unwrap.ensures) ∙ c.srgb8_hues.ensures ∙ given cs ss a.n a.colors c.requires d.taken wide) in
    rw e (measured cs ss a.n a.colors c.requires d.taken wide)
