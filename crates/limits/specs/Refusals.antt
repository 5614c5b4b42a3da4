-- Document 01, "What a call can hand back": the number of each refusal, 18 and 19 as document 02 gives them (Req 03, Req 06), and what a call hands back. Definitions only.
use Rattle.std.specs.Prelude.{ℕ, Result, Ok, Err}
use Rattle.limits.specs.Answers.{Said, value, refused}
use Rattle.limits.specs.declared.Refusal.{Refusal}
use Rattle.limits.specs.declared.Refusal.TheVariants.{HueCount, Gap, Chroma, RingLength, Spacing, TableLength, Entry, WorkBuffer, Directions, RowLength, LevelIndex, HueIndex, ColorCount, Finished, Broken, Operand, Line, LevelList, TextBuffer}

abbrev pub number : Refusal → ℕ
number HueCount = 1
number Gap = 2
number Chroma = 3
number RingLength = 4
number Spacing = 5
number TableLength = 6
number Entry = 7
number WorkBuffer = 8
number Directions = 9
number RowLength = 10
number LevelIndex = 11
number HueIndex = 12
number ColorCount = 13
number Finished = 14
number Broken = 15
number Operand = 16
number Line = 17
number LevelList = 18
number TextBuffer = 19

-- what is handed back says: its value, or the number of its refusal
abbrev pub said : {A : Type 0} → Result A Refusal → Said A
said (Ok x) = value x
said (Err why) = refused (number why)
