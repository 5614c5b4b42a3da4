-- The step for a hue count that is taken: from 1 to 720 (`step_taken`), and so many of them go round no further than 720 (`steps_fit`). Assumes nothing.
use mathlib.Core.Path.{◌≡◌, ap, ◌∙◌}
use mathlib.Core.Bool.{true, ◌&&◌}
use Prim.Native.Nat.{ℕ, ◌+◌, ◌-◌, ◌*◌, ◌/◌, ◌≤◌}
use native.Mathlib.Nat.{div-le_self, mul-add, mul-one, mul-div-le}
use native.Mathlib.Omega.{arith}
use lib.Dec.{leb}
use borrow.Author.Tests.{le-leb}
use Rattle.limits.specs.Taken.{hue_count_taken}
use Rattle.limits.proofs.HueCount.{hue_count}
use Rattle.placement_rules.specs.Placing.{step_for}

pub step_taken : (k : ℕ) → hue_count_taken k ≡ true → (leb 1 (step_for k) && leb (step_for k) 720) ≡ true
unfolding step_for
step_taken k h =
    let r = hue_count k h in
    let few = r.1 in
    let l = div-le_self (600 + (k - 1)) k in
    let n = (600 + (k - 1)) / k in
    rw (le-leb 1 (n + 1) (omega arith), le-leb (n + 1) 720 (omega arith))

pub steps_fit : (k : ℕ) → hue_count_taken k ≡ true → k * step_for k ≤ 720
unfolding step_for
steps_fit k h =
    let r = hue_count k h in
    let some = r.0 in
    let few = r.1 in
    let n = (600 + (k - 1)) / k in
    let whole : k * n ≤ 600 + (k - 1) = mul-div-le (600 + (k - 1)) k in
    let e : k * (n + 1) ≡ k * n + k = mul-add k n 1 ∙ ap (λ (z : ℕ). k * n + z) (mul-one k) in
    omega arith
