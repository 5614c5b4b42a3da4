-- What the functions promise of the buffers that they write, and what a caller of them does with an input. Definitions only.
use Rattle.std.specs.Prelude.{◌≡◌, List, [], ◌∷◌, ◌++◌, ℕ, take}
use Rattle.text.specs.Put.{put_in, Laid}
use Rattle.ring_lines.specs.declared.Progress.{Progress}
use Rattle.ring_lines.specs.Pieces.{kept_in, held_with, held_after, buffer_after, taken_from, taken_of, written_for, written_at_end}

-- one more byte is held
pub record Held (before : List ℕ) (held byte : ℕ) (after : List ℕ) (r : ℕ) : Type 0 where
  pub holds : after ≡ put_in before held (byte ∷ [])
  pub counts : r ≡ held_with held

-- as much of a piece is taken as has room for its answers, where `held` bytes of a line are in the buffer: how much that is, the buffer after it, and the answers
-- to the lines that end in it over the front of `out`
pub record Answered (before : List ℕ) (held : ℕ) (piece out after out' : List ℕ) (r : Progress) : Type 0 where
  pub takes : r.taken ≡ taken_from (kept_in before held) 0 piece
  pub holds : r.held ≡ held_after held (taken_of (kept_in before held) piece)
  pub keeps : after ≡ buffer_after before held (taken_of (kept_in before held) piece)
  pub writes : Laid out (written_for (kept_in before held) (taken_of (kept_in before held) piece)) out' r.written

-- calls of `answer_piece`, each with the buffer and the count that the one before it left, and then one of `answer_end`: by what the first was lent, all bytes that
-- were taken, and all bytes that were written. That a caller which gives again what was not taken comes to its input's end needs one thing more: of a piece that has
-- any byte at least one is taken (`taken_some` of proofs/Taking).
pub data Calls : List ℕ → ℕ → List ℕ → List ℕ → Type 0 where
  last : {buffer before text : List ℕ} {held r : ℕ} → Laid before (written_at_end (kept_in buffer held)) text r → Calls buffer held [] (take r text)
  next : {buffer buffer' piece out out' input output : List ℕ} {held : ℕ} {r : Progress} → Answered buffer held piece out buffer' out' r → Calls buffer' r.held input output
      → Calls buffer held (take r.taken piece ++ input) (take r.written out' ++ output)
