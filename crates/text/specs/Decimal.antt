-- A number in decimal, of three digits at most and of thirty. Bytes are ASCII. Definitions only.
use Rattle.std.specs.Prelude.{ℕ, zero, suc, ◌+◌, ◌-◌, ◌*◌, ◌/◌, ◌%◌, ◌≤◌, Bool, true, false, cond, List, [], ◌∷◌, ltb}

-- a number below 1,000 in decimal, with no leading zero, and of any other its last three digits
unfoldable pub decimal : ℕ → List ℕ
decimal n =
    cond (ltb n 10) ((48 + n) ∷ [])
    (cond (ltb n 100) ((48 + n / 10) ∷ (48 + n % 10) ∷ [])
    ((48 + n / 100 % 10) ∷ (48 + n / 10 % 10) ∷ (48 + n % 10) ∷ []))

-- at most so many digits of a number before these, the last one first; the flag says whether one digit is left
unfoldable pub digits_before : ℕ → Bool → ℕ → List ℕ → List ℕ
digits_before zero b n so = so
digits_before (suc m) true n so = (48 + n) ∷ so
digits_before (suc m) false n so = digits_before m (ltb (n / 10) 10) (n / 10) ((48 + n % 10) ∷ so)

-- a number below 10^30 in decimal, with no leading zero, and of any other its last thirty digits
unfoldable pub numeral : ℕ → List ℕ
numeral n = digits_before 30 (ltb n 10) n []

-- the number that digits say, after those that said n
unfoldable pub read_by : ℕ → List ℕ → ℕ
read_by n [] = n
read_by n (b ∷ bytes) = read_by (n * 10 + (b - 48)) bytes

-- each of these bytes is a digit
abbrev pub Digits : List ℕ → Type 0
Digits [] = Unit
Digits (b ∷ bytes) = ((48 ≤ b) × (b ≤ 57)) × Digits bytes
