-- What is kept of a line in a buffer: one more byte, a newline, a piece, and the answer. Assumes nothing.
use mathlib.Core.Path.{◌≡◌, refl, sym, ap, ◌∙◌}
use mathlib.Core.Bool.{Bool, true, false, cond}
use mathlib.Core.List.{List, [], ◌∷◌, ◌++◌}
use Prim.Native.Nat.{ℕ, ◌+◌, ◌≤◌, ◌<◌, min}
use native.Mathlib.Omega.{arith}
use lib.Dec.{leb, ltb, eqb}
use lib.ListN.{length, take, length-append}
use lib.Seq.{length-take-le}
use borrow.Author.Tests.{le-leb, lt-leb, leb-true, ltb-true, ltb-false}
use Rattle.limits.specs.Answers.{refused}
use Rattle.text.specs.Put.{put_in, Laid}
use Rattle.text.proofs.Put.{put_length, put_front}
use Rattle.ring_answers.specs.Answers.{answer_bytes, answer_of}
use Rattle.ring_answers.proofs.Writing.{bytes_few, answer_few}
use Rattle.ring_lines.specs.Pieces.{Kept, bytes, longer, kept_of, keep, fed, answer_kept, kept_after, kept_in, held_with, held_fed, buffer_fed, held_after, buffer_after}
use Rattle.ring_lines.specs.Promised.{Held}

-- ---- one more byte
module _ (buffer : List ℕ) (long : length buffer ≡ 4096) (held b : ℕ) where
  one_more : held ≤ 4096 → length (take held buffer ++ b ∷ []) ≡ held + 1
  one_more h =
      let e : length (take held buffer) ≡ held = length-take-le held buffer (omega arith) in
      omega (arith, length-append (take held buffer) (b ∷ []))

  kept_stored : held < 4096 → kept_in (put_in buffer held (b ∷ [])) (held + 1) ≡ keep b (kept_in buffer held)
  unfolding kept_in kept_of
  kept_stored h =
      let u : held + 1 ≤ 4096 = omega arith in
      let v : held ≤ 4096 = omega arith in
      let n = one_more v in
      let w : length (take held buffer ++ b ∷ []) ≤ 4096 = omega arith in
      rw (le-leb (held + 1) 4096 u, le-leb held 4096 v, le-leb (length (take held buffer ++ b ∷ [])) 4096 w) (ap bytes (put_front buffer held (b ∷ []) (omega arith)))

  kept_full : (after : List ℕ) → 4096 ≤ held → kept_in after 4097 ≡ keep b (kept_in buffer held)
  unfolding kept_in kept_of
  kept_full after h = go (leb held 4096) refl
    where
      go : (t : Bool) → leb held 4096 ≡ t → longer ≡ keep b (cond t (bytes (take held buffer)) longer)
      go false e = refl
      go true e =
          let v = leb-true held 4096 e in
          let n = one_more v in
          let w : 4096 < length (take held buffer ++ b ∷ []) = omega arith in
          rw (lt-leb (length (take held buffer ++ b ∷ [])) 4096 w)

  -- what is kept then
  kept_with : kept_in (put_in buffer held (b ∷ [])) (held_with held) ≡ keep b (kept_in buffer held)
  kept_with = go (ltb held 4096) refl
    where
      go : (t : Bool) → ltb held 4096 ≡ t → kept_in (put_in buffer held (b ∷ [])) (held_with held) ≡ keep b (kept_in buffer held)
      go true e =
          let h = ltb-true held 4096 e in
          let m : min (held + 1) 4097 ≡ held + 1 = omega arith in
          ap (kept_in (put_in buffer held (b ∷ []))) m ∙ kept_stored h
      go false e =
          let h = ltb-false held 4096 e in
          let m : min (held + 1) 4097 ≡ 4097 = omega arith in
          ap (kept_in (put_in buffer held (b ∷ []))) m ∙ kept_full (put_in buffer held (b ∷ [])) h

  pub kept_held : {after : List ℕ} {r : ℕ} → Held buffer held b after r → kept_in after r ≡ keep b (kept_in buffer held)
  kept_held {after} {r} h = ap (λ (l : List ℕ). kept_in l r) h.holds ∙ ap (kept_in (put_in buffer held (b ∷ []))) h.counts ∙ kept_with

  -- and after any byte
  kept_fed : kept_in (buffer_fed b buffer held) (held_fed b held) ≡ fed b (kept_in buffer held)
  unfolding kept_in fed buffer_fed held_fed
  kept_fed = go (eqb b 10)
    where
      go : (t : Bool) → kept_in (cond t buffer (put_in buffer held (b ∷ []))) (cond t 0 (held_with held)) ≡ cond t (bytes []) (keep b (kept_in buffer held))
      go true = refl
      go false = kept_with

-- ---- a piece
fed_long : (b : ℕ) (buffer : List ℕ) (held : ℕ) → length (buffer_fed b buffer held) ≡ length buffer
unfolding buffer_fed
fed_long b buffer held = go (eqb b 10)
  where
    go : (t : Bool) → length (cond t buffer (put_in buffer held (b ∷ []))) ≡ length buffer
    go true = refl
    go false = put_length buffer held (b ∷ [])

-- a buffer is as long as it was
pub after_long : (buffer : List ℕ) (held : ℕ) (piece : List ℕ) → length (buffer_after buffer held piece) ≡ length buffer
unfolding buffer_after
after_long buffer held [] = refl
after_long buffer held (b ∷ piece) = after_long (buffer_fed b buffer held) (held_fed b held) piece ∙ fed_long b buffer held

-- what it keeps after a piece
pub kept_after_lem : (buffer : List ℕ) (held : ℕ) (piece : List ℕ) → length buffer ≡ 4096 → kept_in (buffer_after buffer held piece) (held_after held piece) ≡ kept_after (kept_in buffer held) piece
unfolding buffer_after held_after kept_after
kept_after_lem buffer held [] l = refl
kept_after_lem buffer held (b ∷ piece) l =
    kept_after_lem (buffer_fed b buffer held) (held_fed b held) piece (fed_long b buffer held ∙ l) ∙ ap (λ (k : Kept). kept_after k piece) (kept_fed buffer l held b)

-- of whatever length the buffer after it is known to be
pub kept_so : {after : List ℕ} {r : ℕ} (buffer : List ℕ) (held : ℕ) (piece : List ℕ) → after ≡ buffer_after buffer held piece → r ≡ held_after held piece → length after ≡ 4096
    → kept_in after r ≡ kept_after (kept_in buffer held) piece
kept_so {after} {r} buffer held piece e f long =
    let l : length buffer ≡ 4096 = sym (ap length e ∙ after_long buffer held piece) ∙ long in
    ap (λ (l : List ℕ). kept_in l r) e ∙ ap (kept_in (buffer_after buffer held piece)) f ∙ kept_after_lem buffer held piece l

-- ---- the answer to a line that is held whole, and to a longer one
pub answer_short : (buffer : List ℕ) (held : ℕ) {before after : List ℕ} {r : ℕ} → held ≤ 4096 → Laid before (answer_of (take held buffer)) after r
    → Laid before (answer_kept (kept_in buffer held)) after r
unfolding kept_in
answer_short buffer held h w = rw (le-leb held 4096 h) w

pub answer_long : (buffer : List ℕ) (held : ℕ) {before after : List ℕ} {r : ℕ} → 4096 < held → Laid before (answer_bytes 0 (refused 17)) after r
    → Laid before (answer_kept (kept_in buffer held)) after r
unfolding kept_in
answer_long buffer held h w = rw (lt-leb held 4096 h) w

-- it has at most 64 bytes
pub kept_few : (kept : Kept) → length (answer_kept kept) ≤ 64
kept_few (bytes line) = answer_few line
kept_few longer = bytes_few 0 (refused 17) tt
