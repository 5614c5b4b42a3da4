-- What the reader of a line hands back. Definitions only.
use Rattle.std.specs.Prelude.{◌≡◌, Option, Some, None, IfSome, List, ℕ, ◌≤◌, Float, take, replicate}
use Rattle.limits.specs.Taken.{f32_of}
use Rattle.text.specs.Put.{over}
use Rattle.ring_reading.specs.declared.Asked.{Asked}
use Rattle.ring_reading.specs.Fields.{Line, malformed, asks}

-- a row of zeros
unfoldable pub no_row : List Float
no_row = replicate 999 (f32_of 0)

-- the row of a line: its entries, and zeros after them
abbrev pub row_of : Line → List Float
row_of malformed = no_row
row_of (asks k step c entries) = over entries no_row

-- what is read of a line says: the row's first are the entries
abbrev pub line_read : Option Asked → Line
line_read None = malformed
line_read (Some a) = asks a.k a.step a.c (take a.length a.row)

-- how many there are
abbrev pub entries_read : Option Asked → ℕ
entries_read None = 0
entries_read (Some a) = a.length

-- what is handed back for a line that asks this; of a malformed line no row is
pub record LineRead (line : Line) (r : Option Asked) : Type 0 where
  pub asking : line_read r ≡ line
  pub holds : IfSome r (λ (a : Asked). a.row ≡ row_of line)
  pub few : entries_read r ≤ 999
