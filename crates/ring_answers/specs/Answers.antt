-- Document 01, "Hue ring", the program `ring`: what is said to a line, and the bytes of all answers to a whole input. Bytes are ASCII. Numbers are in decimal: an index is below 720, and the number of a refusal below 18. Definitions only.
use Rattle.std.specs.Prelude.{ℕ, List, [], ◌∷◌, ◌++◌, take}
use Rattle.limits.specs.Answers.{Said, value, refused}
use Rattle.placement_rules.specs.Ring.{Places, nowhere, placed}
use Rattle.placement_rules.specs.Placing.{placement_says, work_needed}
use Rattle.text.specs.Decimal.{decimal}
use Rattle.ring_reading.specs.Fields.{Line, malformed, asks, line_of, lines_of}

-- how long the work buffer is that the program lends, so that number 8 never applies
abbrev pub room : ℕ
room = work_needed 720

-- "a text line checks 17 first", and then placement's refusals
abbrev pub said_to : Line → Said Places
said_to malformed = refused 17
said_to (asks k step c row) = placement_says k step c row room

-- what is said to a line
unfoldable pub line_says : List ℕ → Said Places
line_says line = said_to (line_of line)

-- k of a line
abbrev pub count_of : Line → ℕ
count_of malformed = 0
count_of (asks k step c row) = k

-- each of these after a comma
unfoldable pub after_commas : List ℕ → List ℕ
after_commas [] = []
after_commas (i ∷ is) = 44 ∷ decimal i ++ after_commas is

-- "indices parted by commas"
unfoldable pub parted : List ℕ → List ℕ
parted [] = []
parted (i ∷ is) = decimal i ++ after_commas is

-- "it writes the k indices parted by commas, or `none`, or `refused,` and the number"
unfoldable pub answer_text : ℕ → Said Places → List ℕ
answer_text k (value (placed is)) = parted (take k is)
answer_text k (value nowhere) = 110 ∷ 111 ∷ 110 ∷ 101 ∷ []
answer_text k (refused n) = (114 ∷ 101 ∷ 102 ∷ 117 ∷ 115 ∷ 101 ∷ 100 ∷ 44 ∷ []) ++ decimal n

-- "For each line": the answer ends with a newline, also where the line's own is missing
unfoldable pub answer_bytes : ℕ → Said Places → List ℕ
answer_bytes k said = answer_text k said ++ 10 ∷ []

-- the answer to a line
unfoldable pub answer_of : List ℕ → List ℕ
answer_of line = answer_bytes (count_of (line_of line)) (line_says line)

-- the answers to lines, one after the other
unfoldable pub answers_to : List (List ℕ) → List ℕ
answers_to [] = []
answers_to (line ∷ lines) = answer_of line ++ answers_to lines

-- what the program writes for a whole input; "empty input writes nothing"
unfoldable pub answers_of : List ℕ → List ℕ
answers_of input = answers_to (lines_of input)
