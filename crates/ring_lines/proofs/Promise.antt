-- The promise: whatever the pieces in which an input arrives, the bytes that are written for them are the answers to the whole input. Assumes nothing.
use mathlib.Core.Path.{◌≡◌, sym, ap, ◌∙◌}
use mathlib.Core.List.{List, ◌++◌, append_assoc}
use Prim.Native.Nat.{ℕ}
use lib.ListN.{length, take}
use Rattle.text.proofs.Put.{laid_front}
use Rattle.ring_answers.specs.Answers.{answers_of}
use Rattle.ring_lines.specs.declared.Progress.{Progress}
use Rattle.ring_lines.specs.Pieces.{Kept, kept_in, kept_after, written_for, written_at_end, taken_of}
use Rattle.ring_lines.specs.Promised.{Answered, Calls, last, next}
use Rattle.ring_lines.proofs.Keeping.{after_long, kept_so}
use Rattle.ring_lines.proofs.Stream.{kept_both, written_both, whole_input}

-- what is written from a kept line on
all : Kept → List ℕ → List ℕ
all kept input = written_for kept input ++ written_at_end (kept_after kept input)

joined : (kept : Kept) (a b : List ℕ) → written_for kept a ++ all (kept_after kept a) b ≡ all kept (a ++ b)
unfolding all
joined kept a b =
    sym (append_assoc (written_for kept a) (written_for (kept_after kept a) b) (written_at_end (kept_after (kept_after kept a) b)))
    ∙ rw (← written_both kept a b, ← kept_both kept a b)

-- what a call leaves: a buffer as long as it was, and in it what is kept after the bytes that were taken
module _ {buffer : List ℕ} {held : ℕ} {piece out buffer' out' : List ℕ} {r : Progress} (long : length buffer ≡ 4096) (a : Answered buffer held piece out buffer' out' r) where
  still_long : length buffer' ≡ 4096
  still_long = ap length a.keeps ∙ after_long buffer held (taken_of (kept_in buffer held) piece) ∙ long

  pub kept_then : kept_in buffer' r.held ≡ kept_after (kept_in buffer held) (taken_of (kept_in buffer held) piece)
  kept_then = kept_so buffer held (taken_of (kept_in buffer held) piece) a.keeps a.holds still_long

calls : {buffer input output : List ℕ} {held : ℕ} → length buffer ≡ 4096 → Calls buffer held input output → output ≡ all (kept_in buffer held) input
unfolding all written_for kept_after
calls long (last w) = laid_front w
calls long (next {buffer} {buffer'} {piece} {out} {out'} {input} {output} {held} {r} a later) =
    ap (λ (l : List ℕ). l ++ output) (laid_front a.writes)
    ∙ ap (λ (l : List ℕ). written_for (kept_in buffer held) (taken_of (kept_in buffer held) piece) ++ l)
    (calls (still_long long a) later ∙ ap (λ (k : Kept). all k input) (kept_then long a))
    ∙ joined (kept_in buffer held) (taken_of (kept_in buffer held) piece) input
    ∙ ap (λ (n : ℕ). all (kept_in buffer held) (take n piece ++ input)) (sym a.takes)

-- where nothing is held at first, whatever a buffer of 4,096 bytes has in it
pub whatever_the_pieces : {buffer input output : List ℕ} → length buffer ≡ 4096 → Calls buffer 0 input output → output ≡ answers_of input
unfolding kept_in all
whatever_the_pieces {buffer} {input} long c = calls long c ∙ whole_input input
