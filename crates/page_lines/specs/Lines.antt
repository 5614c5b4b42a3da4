-- Document 02, Req 06: "lines of exactly 40 bytes, each followed by a newline besides: a word of 10 bytes padded with spaces on the right, then a decimal number right-aligned with spaces in 30". Bytes are ASCII. Definitions only.
use Rattle.std.specs.Prelude.{List, [], ◌∷◌, ◌++◌, ℕ, ◌-◌, length, replicate}
use Rattle.text.specs.Decimal.{numeral}

-- "a word of 10 bytes padded with spaces on the right"
abbrev pub padded : List ℕ → List ℕ
padded word = word ++ replicate (10 - length word) 32

-- "then a decimal number right-aligned with spaces in 30"
unfoldable pub aligned : ℕ → List ℕ
aligned n = replicate (30 - length (numeral n)) 32 ++ numeral n

-- a padded word and a number, "followed by a newline besides"
unfoldable pub line_with : List ℕ → ℕ → List ℕ
line_with field n = field ++ (aligned n ++ 10 ∷ [])

-- a word and a number
pub data Row : Type 0 where
  row : List ℕ → ℕ → Row

abbrev pub line_of : Row → List ℕ
line_of (row word n) = line_with (padded word) n

-- lines, one after the other
unfoldable pub lines_of : List Row → List ℕ
lines_of [] = []
lines_of (r ∷ rows) = line_of r ++ lines_of rows
