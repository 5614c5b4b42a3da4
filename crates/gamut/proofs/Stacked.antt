-- A table of one row repeated, of any number of levels: how long it is, how many levels it has, and what holds of each of its entries. Assumes nothing.
use mathlib.Core.Path.{◌≡◌, refl, sym, ap, ◌∙◌}
use mathlib.Core.Bool.{true}
use mathlib.Core.List.{List, [], ◌++◌}
use Prim.Native.Nat.{ℕ, zero, suc, ◌*◌, ◌≤◌}
use native.Mathlib.Nat.{suc-mul}
use native.Mathlib.Omega.{arith}
use lib.Ieee.{Float}
use lib.ListN.{length, length-append}
use Rattle.limits.specs.Each.{Each}
use Rattle.limits.proofs.Lists.{each_append}
use Rattle.gamut.specs.Table.{levels_in, table_taken}
use Rattle.gamut.proofs.Table.{table_taken_lem, levels_by}

abbrev pub stacked : ℕ → List Float → List Float
stacked zero row = []
stacked (suc n) row = row ++ stacked n row

pub stacked_each : (P : Float → Type 0) (n : ℕ) (row : List Float) → Each P row → Each P (stacked n row)
stacked_each P zero row h = tt
stacked_each P (suc n) row h = each_append P row (stacked n row) h (stacked_each P n row h)

module _ (row : List Float) (long : length row ≡ 720) where
  pub stacked_long : (n : ℕ) → length (stacked n row) ≡ n * 720
  stacked_long zero = refl
  stacked_long (suc n) =
      let e = stacked_long n in
      let f = suc-mul n 720 in
      length-append row (stacked n row) ∙ omega arith

  pub stacked_levels : (n : ℕ) → levels_in (stacked n row) ≡ n
  stacked_levels n = levels_by (stacked n row) n (stacked_long n)

  pub stacked_taken : (n : ℕ) → 1 ≤ n → n ≤ 169 → table_taken (stacked n row) ≡ true
  stacked_taken n some few =
      let e = stacked_levels n in
      table_taken_lem (stacked n row) (record { long = stacked_long n ∙ ap (λ (x : ℕ). x * 720) (sym e); some_level = omega arith; few_levels = omega arith })
