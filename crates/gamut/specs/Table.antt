-- Document 01, number 6, number 7 over a whole table, and the rows of a table that is lent as one slice. Definitions only.
use Rattle.std.specs.Prelude.{ℕ, ◌*◌, ◌/◌, Bool, ◌&&◌, cond, List, leb, eqb, Float, length, take, drop}
use Rattle.limits.specs.Answers.{Said, refused}
use Rattle.limits.specs.Taken.{entry_taken, every}

-- how many levels a table of this length has, by rows of 720 hues
unfoldable pub levels_in : List Float → ℕ
levels_in table = length table / 720

-- the row of level i
unfoldable pub row_at : List Float → ℕ → List Float
row_at table i = take 720 (drop (i * 720) table)

-- number 6: table length not levels × 720 with 1 to 169 levels
unfoldable pub table_taken : List Float → Bool
table_taken table = eqb (length table) (levels_in table * 720) && (leb 1 (levels_in table) && leb (levels_in table) 169)

-- "6, 7 over the whole table", in front of what a good call says
abbrev pub table_checked : {A : Type 0} → List Float → Said A → Said A
table_checked table good = cond (table_taken table) (cond (every entry_taken table) good (refused 7)) (refused 6)
