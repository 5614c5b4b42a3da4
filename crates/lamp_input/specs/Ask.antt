-- The line `ask k gap` of the input of `lamp`: "k is a whole number of one or two digits, without a leading zero; the gap has up to three digits before the point and up to four
-- after it; no sign, no exponent, no leading zero but in 0 itself, at least one digit on each side of a point". Bytes are ASCII. Definitions only.
use Rattle.std.specs.Prelude.{Bool, ◌&&◌, cond, List, [], ◌∷◌, ℕ, ◌+◌, ◌-◌, ◌*◌, ◌/◌, leb, ltb, eqb, Float, drop, get_or}
use Rattle.std.specs.Float.{binary32}
use Rattle.std.specs.Float.Ieee.{div}
use Rattle.limits.specs.Taken.{f32_of}
use Rattle.ring_reading.specs.Numbers.{is_digit}

-- what a line asks: k and the gap, or nothing
pub data Line : Type 0 where
  malformed : Line
  asks : ℕ → Float → Line

-- n ten-thousandths: one division of two f32 that are exact, since n is below 10,000,000 and so below 2^24; so it is the f32 nearest the decimal number
unfoldable pub gap_of : ℕ → Float
gap_of n = div binary32 (f32_of n) (f32_of 10000)

-- whether another digit may follow a number so far: not where it is 0, nor where it has all its digits and so is not below `most`
unfoldable pub goes_on : ℕ → ℕ → ℕ → Bool
goes_on most n b = is_digit b && (leb 1 n && ltb n most)

-- what follows the point: the gap is n ten-thousandths so far, and the next digit counts `unit` of them, 1000 for the first and 0 after the fourth
unfoldable pub decimals_from : ℕ → ℕ → ℕ → List ℕ → Line
decimals_from k n unit [] = cond (eqb unit 1000) malformed (asks k (gap_of n))
decimals_from k n unit (b ∷ text) =
    let later = decimals_from k (n + (b - 48) * unit) (unit / 10) text in
    cond (is_digit b && leb 1 unit) later malformed

-- what follows some digits of the gap before its point, n so far: digits up to three, then the end or a point
unfoldable pub whole_from : ℕ → ℕ → List ℕ → Line
whole_from k n [] = asks k (gap_of (n * 10000))
whole_from k n (b ∷ text) =
    let later = whole_from k (n * 10 + (b - 48)) text in
    cond (eqb b 46) (decimals_from k (n * 10000) 1000 text) (cond (goes_on 100 n b) later malformed)

-- the gap, from its first digit on
unfoldable pub gap_from : ℕ → List ℕ → Line
gap_from k [] = malformed
gap_from k (b ∷ text) = cond (is_digit b) (whole_from k (b - 48) text) malformed

-- what follows some digits of k: digits up to two, then a space
unfoldable pub count_from : ℕ → List ℕ → Line
count_from k [] = malformed
count_from k (b ∷ text) =
    let later = count_from (k * 10 + (b - 48)) text in
    cond (eqb b 32) (gap_from k text) (cond (goes_on 10 k b) later malformed)

-- k and the gap, from the first digit of k on
unfoldable pub numbers_of : List ℕ → Line
numbers_of [] = malformed
numbers_of (b ∷ text) = cond (is_digit b) (count_from (b - 48) text) malformed

-- whether a line begins with `ask` and a space, whose bytes are 97, 115, 107 and 32: in base 256, the first one highest
unfoldable pub is_ask : List ℕ → Bool
is_ask line = eqb (((get_or line 0 0 * 256 + get_or line 1 0) * 256 + get_or line 2 0) * 256 + get_or line 3 0) 1634954016

-- what a line asks, which is lent without its newline
unfoldable pub ask_of : List ℕ → Line
ask_of line = cond (is_ask line) (numbers_of (drop 4 line)) malformed
