-- Req 04, of a set of levels: it comes out identical with any two work buffers of at least 720 entries, and refused calls too. Assumes nothing.
use mathlib.Core.Path.{◌≡◌}
use mathlib.Core.List.{List}
use Prim.Native.Nat.{ℕ, ◌≤◌}
use lib.Ieee.{Float}
use Rattle.placement_rules.proofs.Room.{enough}
use Rattle.level_set_rules.specs.Set.{named_checked, set_checked, set_says}

pub same_set : (k : ℕ) (t : List Float) (levels : List ℕ) (short long : ℕ) → 720 ≤ short → 720 ≤ long → set_says k t levels short ≡ set_says k t levels long
unfolding set_says set_checked named_checked
same_set k t levels short long a b = rw (enough 720 short a, enough 720 long b)
