-- Req 04: "A placement, a pair [..] comes out identical with the short buffer and with the long one, on every accepted input.", with any two work buffers that have one
-- entry for each ring position, over any number of rows, and refused calls too. Assumes nothing.
use mathlib.Core.Path.{◌≡◌}
use mathlib.Core.List.{List, [], ◌∷◌}
use Prim.Native.Nat.{ℕ, ◌≤◌}
use lib.Ieee.{Float}
use lib.ListN.{length}
use Rattle.placement_rules.proofs.Room.{enough}
use Rattle.pair_rules.specs.Rows.{ring_length}
use Rattle.pair_rules.specs.Pair.{rows_checked, rows_say, pair_says}

pub same_rows : (k step : ℕ) (floor : Float) (rows : List (List Float)) (short long : ℕ) → ring_length rows ≤ short → ring_length rows ≤ long → rows_say k step floor rows short ≡ rows_say k step floor rows long
unfolding rows_say rows_checked
same_rows k step floor rows short long x y = rw (enough (ring_length rows) short x, enough (ring_length rows) long y)

pub same_pair : (k step : ℕ) (floor : Float) (a b : List Float) (short long : ℕ) → length a ≤ short → length a ≤ long → pair_says k step floor a b short ≡ pair_says k step floor a b long
same_pair k step floor a b short long x y = same_rows k step floor (a ∷ b ∷ []) short long x y
