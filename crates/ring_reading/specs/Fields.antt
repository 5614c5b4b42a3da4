-- Document 01, "Hue ring", the program `ring`: a text cut into lines, a line cut into fields, and what a line asks. Bytes are ASCII. Definitions only.
use Rattle.std.specs.Prelude.{ℕ, cond, List, [], ◌∷◌, map, leb, eqb, Float, length}
use Rattle.std.proofs.Math.Option.{Option, none, some}
use Rattle.limits.specs.Taken.{f32_of}
use Rattle.ring_reading.specs.Numbers.{number_of}

-- one more byte at the front of the first part
abbrev pub onto : ℕ → List (List ℕ) → List (List ℕ)
onto b [] = (b ∷ []) ∷ []
onto b (part ∷ parts) = (b ∷ part) ∷ parts

-- a text cut at each byte `mark`, where `end` is what its end leaves
unfoldable pub cut : ℕ → List (List ℕ) → List ℕ → List (List ℕ)
cut mark end [] = end
cut mark end (b ∷ text) =
    let parts = cut mark end text in
    cond (eqb b mark) ([] ∷ parts) (onto b parts)

-- the lines of a whole input: "The last newline may be missing", and after it there is no line
unfoldable pub lines_of : List ℕ → List (List ℕ)
lines_of input = cut 10 [] input

-- "lines `length,k,step,c,entry,..`": the fields of a line, of which the last one ends with the line
unfoldable pub fields_of : List ℕ → List (List ℕ)
fields_of line = cut 44 ([] ∷ []) line

-- a number before others, where each is one
abbrev pub joined : Option ℕ → Option (List ℕ) → Option (List ℕ)
joined none ns = none
joined (some n) none = none
joined (some n) (some ns) = some (n ∷ ns)

-- the numbers of all fields, where each field is a number
unfoldable pub numbers_of : List (List ℕ) → Option (List ℕ)
numbers_of [] = some []
numbers_of (field ∷ fields) = joined (number_of field) (numbers_of fields)

-- what a line asks: k, step, c and the ring's entries, or nothing
pub data Line : Type 0 where
  malformed : Line
  asks : ℕ → ℕ → Float → List Float → Line

-- "length,k,step,c,entry,..", "exactly as many entries as length"; whole numbers below 1,000 are f32 exactly
abbrev pub shaped : Option (List ℕ) → Line
shaped none = malformed
shaped (some []) = malformed
shaped (some (n ∷ [])) = malformed
shaped (some (n ∷ k ∷ [])) = malformed
shaped (some (n ∷ k ∷ step ∷ [])) = malformed
shaped (some (n ∷ k ∷ step ∷ c ∷ entries)) = cond (eqb (length entries) n) (asks k step (f32_of c) (map f32_of entries)) malformed

-- "at most 4,096 bytes without the newline"; an empty line has one empty field, so it is malformed
unfoldable pub line_of : List ℕ → Line
line_of line = cond (leb (length line) 4096) (shaped (numbers_of (fields_of line))) malformed
