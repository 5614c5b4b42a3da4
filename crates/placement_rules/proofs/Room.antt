-- Req 04: "A placement [..] comes out identical with the short buffer and with the long one, on every accepted input.", with any two work buffers that have one entry
-- for each ring position, and refused calls too. Assumes nothing.
use mathlib.Core.Path.{◌≡◌}
use mathlib.Core.Logic.{◌↔◌}
use mathlib.Core.Bool.{true}
use mathlib.Core.List.{List}
use Prim.Native.Nat.{ℕ, ◌≤◌}
use native.Mathlib.Omega.{arith}
use lib.Dec.{leb}
use lib.Ieee.{Float}
use lib.ListN.{length}
use borrow.Author.Tests.{le-leb}
use Rattle.placement_rules.specs.Placing.{work_needed, checked, placement_says}

-- what is needed, as a number: one entry for each position, no more and no fewer
pub one_lap : (n room : ℕ) → (work_needed n ≤ room) ↔ (n ≤ room)
unfolding work_needed
one_lap n room = (λ (h : work_needed n ≤ room). omega arith, λ (h : n ≤ room). omega arith)

pub enough : (n room : ℕ) → n ≤ room → leb (work_needed n) room ≡ true
enough n room h = le-leb (work_needed n) room ((one_lap n room).1 h)

pub same_placement : (k step : ℕ) (c : Float) (row : List Float) (short long : ℕ) → length row ≤ short → length row ≤ long → placement_says k step c row short ≡ placement_says k step c row long
unfolding placement_says checked
same_placement k step c row short long a b = rw (enough (length row) short a, enough (length row) long b)
