-- Document 01, "Hue ring", the program `ring`: a number of a line. Bytes are ASCII. Definitions only.
use Rattle.std.specs.Prelude.{ℕ, ◌+◌, ◌-◌, ◌*◌, Bool, not, ◌&&◌, cond, List, [], ◌∷◌, leb, eqb}
use Rattle.std.proofs.Math.Option.{Option, none, some}

-- the bytes from 0 to 9
unfoldable pub is_digit : ℕ → Bool
is_digit b = leb 48 b && leb b 57

-- "no leading zero but in 0 itself": a digit that others may follow
unfoldable pub is_leading : ℕ → Bool
is_leading b = is_digit b && not (eqb b 48)

-- "whole numbers of one to three digits, no leading zero but in 0 itself"
unfoldable pub number_of : List ℕ → Option ℕ
number_of [] = none
number_of (a ∷ []) = cond (is_digit a) (some (a - 48)) none
number_of (a ∷ b ∷ []) = cond (is_leading a && is_digit b) (some ((a - 48) * 10 + (b - 48))) none
number_of (a ∷ b ∷ c ∷ []) = cond (is_leading a && is_digit b && is_digit c) (some ((a - 48) * 100 + (b - 48) * 10 + (c - 48))) none
number_of (a ∷ b ∷ c ∷ d ∷ more) = none
