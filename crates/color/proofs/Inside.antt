-- A root's answer inside a conversion is the root, or the operand itself where it is refused. Over the degree. Assumes nothing.
use mathlib.Core.Path.{◌≡◌, refl}
use mathlib.Core.Bool.{Bool, true, false, cond}
use Prim.Native.Nat.{ℕ}
use lib.Ieee.{Float}
use Rattle.limits.specs.Answers.{value, refused}
use Rattle.limits.specs.Taken.{root_operand_taken}
use Rattle.std.specs.Prelude.{Result, Ok, Err}
use Rattle.std.specs.Result.{result_unwrap_or}
use Rattle.limits.specs.declared.Refusal.{Refusal}
use Rattle.limits.specs.Refusals.{said}
use Rattle.roots.specs.Roots.{root_of, root_says}
use Rattle.color.specs.Color.{root_inside}

pub inside : (n : ℕ) (x : Float) (root : Result Float Refusal) → said root ≡ root_says n x → result_unwrap_or root x ≡ root_inside n x
unfolding root_says root_inside
inside n x root s = go (root_operand_taken x) root s
  where
    go : (t : Bool) (root : Result Float Refusal) → said root ≡ cond t (value (root_of n x)) (refused 16) → result_unwrap_or root x ≡ cond t (root_of n x) x
    go true (Ok v) h = cc
    go true (Err w) h = cc
    go false (Ok v) h = cc
    go false (Err w) h = refl
