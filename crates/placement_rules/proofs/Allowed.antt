-- Whether an index is allowed does not depend on how often the ring was gone round. Assumes nothing.
use mathlib.Core.Path.{◌≡◌, ap}
use mathlib.Core.List.{List}
use Prim.Native.Nat.{ℕ, ◌%◌}
use native.Mathlib.Nat.{mod-mod}
use lib.Ieee.{Float, nan, le}
use lib.ListN.{length, get_or}
use Rattle.placement_rules.specs.Placing.{allowed_at}

pub round : (row : List Float) (c : Float) (i : ℕ) → allowed_at row c (i % length row) ≡ allowed_at row c i
unfolding allowed_at
round row c i = ap (λ (x : ℕ). le c (get_or row x nan)) (mod-mod i (length row))
