-- What the private functions that read a line promise among themselves. Nothing here is a promise to a caller. Definitions only.
use Rattle.std.specs.Prelude as prelude
use Rattle.std.specs.Prelude.{◌≡◌, Some, None, cond, List, [], ◌∷◌, ℕ, zero, suc, ◌+◌, ◌<◌, leb, Float, length, drop, get_or}
use Rattle.std.proofs.Math.Option.{Option, none, some}
use Rattle.limits.specs.Taken.{f32_of}
use Rattle.ring_reading.specs.declared.Field.{Field}
use Rattle.ring_reading.specs.declared.Head.{Head}
use Rattle.ring_reading.specs.Numbers.{number_of}
use Rattle.ring_reading.specs.Fields.{fields_of, numbers_of, Line, malformed, asks, shaped}

-- the fields from a place of a line on, of which there are none past the line's end
unfoldable pub fields_from : List ℕ → ℕ → List (List ℕ)
fields_from line at = cond (leb at (length line)) (fields_of (drop at line)) []

-- the number of the first field
abbrev pub first_number : List (List ℕ) → Option ℕ
first_number [] = none
first_number (field ∷ fields) = number_of field

-- the fields after the first
abbrev pub later_fields : List (List ℕ) → List (List ℕ)
later_fields [] = []
later_fields (field ∷ fields) = fields

-- four bytes of a line from a place on, which ends as if commas followed
pub record Bytes (line : List ℕ) (at a b c d : ℕ) : Type 0 where
  pub first : a ≡ get_or line at 44
  pub second : b ≡ get_or line (at + 1) 44
  pub third : c ≡ get_or line (at + 2) 44
  pub fourth : d ≡ get_or line (at + 3) 44

-- what is found at a place of a line
abbrev pub Finds : List ℕ → ℕ → prelude.Option Field → Type 0
Finds line at (Some f) = (f.number < 1000) × ((first_number (fields_from line at) ≡ some f.number) × (later_fields (fields_from line at) ≡ fields_from line f.next))
Finds line at None = first_number (fields_from line at) ≡ none

-- an entry before others
abbrev pub entered : Option ℕ → Option (List Float) → Option (List Float)
entered none row = none
entered (some n) none = none
entered (some n) (some row) = some (f32_of n ∷ row)

-- the entries, where there are as many fields as entries and each is a number
unfoldable pub entries_of : ℕ → List (List ℕ) → Option (List Float)
entries_of zero [] = some []
entries_of zero (field ∷ fields) = none
entries_of (suc n) [] = none
entries_of (suc n) (field ∷ fields) = entered (number_of field) (entries_of n fields)

-- a line with four numbers and these entries
abbrev pub with_entries : ℕ → ℕ → ℕ → Option (List Float) → Line
with_entries k step c none = malformed
with_entries k step c (some row) = asks k step (f32_of c) row

-- the four numbers before the entries
abbrev pub Heads : List ℕ → prelude.Option Head → Type 0
Heads line (Some h) = (h.length < 1000) × (shaped (numbers_of (fields_of line)) ≡ with_entries h.k h.step h.c (entries_of h.length (fields_from line h.entries)))
Heads line None = shaped (numbers_of (fields_of line)) ≡ malformed
