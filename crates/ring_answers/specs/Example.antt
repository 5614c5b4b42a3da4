-- Document 01, "Hue ring", "Whole example": five lines and their answers, as rows of one list. Definitions only.
use Rattle.std.specs.Prelude.{◌≡◌, List, [], ◌∷◌, ◌++◌, ℕ}
use Rattle.ring_answers.specs.Answers.{answer_of}

-- an input line and its output line, of which the newline is the last byte
pub data Row : Type 0 where
  row : List ℕ → List ℕ → Row

-- the definitions give what the row says
abbrev pub Agrees : Row → Type 0
Agrees (row line answer) = answer_of line ≡ answer

-- 8,2,3,40,50,10,45,20,60,30,41,12 -> 0,4
abbrev one : Row
one =
    row
    (56 ∷ 44 ∷ 50 ∷ 44 ∷ 51 ∷ 44 ∷ 52 ∷ 48 ∷ 44 ∷ 53 ∷ 48 ∷ 44 ∷ 49 ∷ 48 ∷ 44 ∷ 52 ∷ 53 ∷ 44 ∷ 50 ∷ 48 ∷ 44 ∷ 54 ∷ 48 ∷ 44 ∷ 51 ∷ 48 ∷ 44 ∷ 52 ∷ 49 ∷ 44 ∷ 49 ∷ 50 ∷ [])
    (48 ∷ 44 ∷ 52 ∷ 10 ∷ [])

-- 8,2,4,40,50,50,0,0,0,50,0,0 -> 1,5
abbrev two : Row
two =
    row
    (56 ∷ 44 ∷ 50 ∷ 44 ∷ 52 ∷ 44 ∷ 52 ∷ 48 ∷ 44 ∷ 53 ∷ 48 ∷ 44 ∷ 53 ∷ 48 ∷ 44 ∷ 48 ∷ 44 ∷ 48 ∷ 44 ∷ 48 ∷ 44 ∷ 53 ∷ 48 ∷ 44 ∷ 48 ∷ 44 ∷ 48 ∷ [])
    (49 ∷ 44 ∷ 53 ∷ 10 ∷ [])

-- 8,2,3,51,50,10,45,20,60,30,41,12 -> none
abbrev three : Row
three =
    row
    (56 ∷ 44 ∷ 50 ∷ 44 ∷ 51 ∷ 44 ∷ 53 ∷ 49 ∷ 44 ∷ 53 ∷ 48 ∷ 44 ∷ 49 ∷ 48 ∷ 44 ∷ 52 ∷ 53 ∷ 44 ∷ 50 ∷ 48 ∷ 44 ∷ 54 ∷ 48 ∷ 44 ∷ 51 ∷ 48 ∷ 44 ∷ 52 ∷ 49 ∷ 44 ∷ 49 ∷ 50 ∷ [])
    (110 ∷ 111 ∷ 110 ∷ 101 ∷ 10 ∷ [])

-- 8,17,3,40,50,10,45,20,60,30,41,12 -> refused,1
abbrev four : Row
four =
    row
    (56 ∷ 44 ∷ 49 ∷ 55 ∷ 44 ∷ 51 ∷ 44 ∷ 52 ∷ 48 ∷ 44 ∷ 53 ∷ 48 ∷ 44 ∷ 49 ∷ 48 ∷ 44 ∷ 52 ∷ 53 ∷ 44 ∷ 50 ∷ 48 ∷ 44 ∷ 54 ∷ 48 ∷ 44 ∷ 51 ∷ 48 ∷ 44 ∷ 52 ∷ 49 ∷ 44 ∷ 49 ∷ 50 ∷ [])
    (114 ∷ 101 ∷ 102 ∷ 117 ∷ 115 ∷ 101 ∷ 100 ∷ 44 ∷ 49 ∷ 10 ∷ [])

-- 8,2,3,40,50 -> refused,17
abbrev five : Row
five =
    row
    (56 ∷ 44 ∷ 50 ∷ 44 ∷ 51 ∷ 44 ∷ 52 ∷ 48 ∷ 44 ∷ 53 ∷ 48 ∷ [])
    (114 ∷ 101 ∷ 102 ∷ 117 ∷ 115 ∷ 101 ∷ 100 ∷ 44 ∷ 49 ∷ 55 ∷ 10 ∷ [])

-- all of it
abbrev pub example : List Row
example = one ∷ two ∷ three ∷ four ∷ five ∷ []

-- each row of a list agrees
abbrev pub All : List Row → Type 0
All [] = Unit
All (r ∷ rows) = Agrees r × All rows

-- the rows' lines as one input, with a newline after each
abbrev pub input_of : List Row → List ℕ
input_of [] = []
input_of (row line answer ∷ rows) = line ++ 10 ∷ input_of rows

-- the rows' answers as one output
abbrev pub output_of : List Row → List ℕ
output_of [] = []
output_of (row line answer ∷ rows) = answer ++ output_of rows
