-- An input that arrives in pieces: what is kept of the line that is not at its end yet, and what is written for each piece. Definitions only.
use Rattle.std.specs.Prelude.{ℕ, suc, ◌+◌, min, cond, List, [], ◌∷◌, ◌++◌, leb, eqb, length, take}
use Rattle.limits.specs.Answers.{refused}
use Rattle.text.specs.Put.{put_in}
use Rattle.ring_answers.specs.Answers.{answer_bytes, answer_of}

-- a line's bytes while there are at most 4,096, and then only that there are more
pub data Kept : Type 0 where
  bytes : List ℕ → Kept
  longer : Kept

-- what is kept of a line
unfoldable pub kept_of : List ℕ → Kept
kept_of line = cond (leb (length line) 4096) (bytes line) longer

-- with one more byte
abbrev pub keep : ℕ → Kept → Kept
keep b (bytes line) = kept_of (line ++ b ∷ [])
keep b longer = longer

-- after any byte: a newline ends the line
unfoldable pub fed : ℕ → Kept → Kept
fed b kept = cond (eqb b 10) (bytes []) (keep b kept)

-- the answer to what is kept: a line that is longer is malformed
abbrev pub answer_kept : Kept → List ℕ
answer_kept (bytes line) = answer_of line
answer_kept longer = answer_bytes 0 (refused 17)

-- what is written after any byte: at a newline the answer
unfoldable pub written_at : ℕ → Kept → List ℕ
written_at b kept = cond (eqb b 10) (answer_kept kept) []

-- what is kept after a piece
unfoldable pub kept_after : Kept → List ℕ → Kept
kept_after kept [] = kept
kept_after kept (b ∷ piece) = kept_after (fed b kept) piece

-- what is written for a piece
unfoldable pub written_for : Kept → List ℕ → List ℕ
written_for kept [] = []
written_for kept (b ∷ piece) = written_at b kept ++ written_for (fed b kept) piece

-- what is written at the input's end: the answer to a line whose newline is missing
abbrev pub written_at_end : Kept → List ℕ
written_at_end (bytes []) = []
written_at_end (bytes (b ∷ line)) = answer_of (b ∷ line)
written_at_end longer = answer_bytes 0 (refused 17)

-- ---- in a buffer of 4,096 bytes, of which the first are held

-- what a buffer keeps that holds the first `held` bytes of a line, or 4,097 where the line is longer
unfoldable pub kept_in : List ℕ → ℕ → Kept
kept_in buffer held = cond (leb held 4096) (bytes (take held buffer)) longer

-- how many bytes are held with one more
abbrev pub held_with : ℕ → ℕ
held_with held = min (held + 1) 4097

-- how many are held after any byte: a newline begins again
unfoldable pub held_fed : ℕ → ℕ → ℕ
held_fed b held = cond (eqb b 10) 0 (held_with held)

-- the buffer after any byte: all but a newline are put at their place, and for those after the 4,096th there is none
unfoldable pub buffer_fed : ℕ → List ℕ → ℕ → List ℕ
buffer_fed b buffer held = cond (eqb b 10) buffer (put_in buffer held (b ∷ []))

-- how many are held after a piece
unfoldable pub held_after : ℕ → List ℕ → ℕ
held_after held [] = held
held_after held (b ∷ piece) = held_after (held_fed b held) piece

-- the buffer after a piece
unfoldable pub buffer_after : List ℕ → ℕ → List ℕ → List ℕ
buffer_after buffer held [] = buffer
buffer_after buffer held (b ∷ piece) = buffer_after (buffer_fed b buffer held) (held_fed b held) piece

-- ---- how much of a piece is taken at once, where 65,536 bytes of answers have room

-- how many bytes of a piece are taken where `end` bytes of answers are written already: one after the other while at most 65,472 are, so that another answer fits
unfoldable pub taken_from : Kept → ℕ → List ℕ → ℕ
taken_from kept end [] = 0
taken_from kept end (b ∷ piece) =
    let later = taken_from (fed b kept) (end + length (written_at b kept)) piece in
    cond (leb end 65472) (suc later) 0

-- the bytes of a piece that are taken
abbrev pub taken_of : Kept → List ℕ → List ℕ
taken_of kept piece = take (taken_from kept 0 piece) piece
