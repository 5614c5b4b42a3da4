-- What is written and kept for one piece and then another is what is written and kept for the two joined, and for a whole input it is the answers to its lines. Assumes nothing.
use mathlib.Core.Path.{◌≡◌, refl, sym, ap, ◌∙◌}
use mathlib.Core.Bool.{Bool, true, false, cond}
use mathlib.Core.List.{List, [], ◌∷◌, ◌++◌, append_assoc, append-nil}
use Prim.Native.Nat.{ℕ, ◌<◌}
use native.Mathlib.Omega.{arith}
use lib.Dec.{leb, eqb}
use lib.ListN.{length, length-append}
use borrow.Author.Tests.{lt-leb, leb-false}
use Rattle.limits.specs.Answers.{refused}
use Rattle.ring_reading.specs.Fields.{onto, cut, lines_of, line_of}
use Rattle.ring_answers.specs.Answers.{line_says, answer_bytes, answer_of, answers_to, answers_of}
use Rattle.ring_lines.specs.Pieces.{Kept, bytes, longer, kept_of, keep, fed, answer_kept, written_at, kept_after, written_for, written_at_end}

-- ---- a piece and then another
pub kept_both : (kept : Kept) (a b : List ℕ) → kept_after kept (a ++ b) ≡ kept_after (kept_after kept a) b
unfolding kept_after
kept_both kept [] b = refl
kept_both kept (x ∷ a) b = kept_both (fed x kept) a b

pub written_both : (kept : Kept) (a b : List ℕ) → written_for kept (a ++ b) ≡ written_for kept a ++ written_for (kept_after kept a) b
unfolding written_for kept_after
written_both kept [] b = refl
written_both kept (x ∷ a) b =
    ap (λ (l : List ℕ). written_at x kept ++ l) (written_both (fed x kept) a b)
    ∙ sym (append_assoc (written_at x kept) (written_for (fed x kept) a) (written_for (kept_after (fed x kept) a) b))

-- ---- what is kept of a line answers for the line
keep_kept : (line : List ℕ) (b : ℕ) → keep b (kept_of line) ≡ kept_of (line ++ b ∷ [])
unfolding kept_of
keep_kept line b = go (leb (length line) 4096) refl
  where
    go : (t : Bool) → leb (length line) 4096 ≡ t → keep b (cond t (bytes line) longer) ≡ cond (leb (length (line ++ b ∷ [])) 4096) (bytes (line ++ b ∷ [])) longer
    go true e = refl
    go false e =
        let h = leb-false (length line) 4096 e in
        let u : 4096 < length (line ++ b ∷ []) = omega (arith, length-append line (b ∷ [])) in
        rw (lt-leb (length (line ++ b ∷ [])) 4096 u)

answer_longer : (line : List ℕ) → 4096 < length line → answer_bytes 0 (refused 17) ≡ answer_of line
unfolding answer_of line_says line_of
answer_longer line h = rw (lt-leb (length line) 4096 h)

answer_kept_lem : (line : List ℕ) → answer_kept (kept_of line) ≡ answer_of line
unfolding kept_of
answer_kept_lem line = go (leb (length line) 4096) refl
  where
    go : (t : Bool) → leb (length line) 4096 ≡ t → answer_kept (cond t (bytes line) longer) ≡ answer_of line
    go true e = refl
    go false e = answer_longer line (leb-false (length line) 4096 e)

-- ---- the lines that a part of a line and what follows it make
lines : List ℕ → List (List ℕ) → List (List ℕ)
lines [] ls = ls
lines (b ∷ part) [] = (b ∷ part) ∷ []
lines (b ∷ part) (l ∷ ls) = ((b ∷ part) ++ l) ∷ ls

lines_more : (part : List ℕ) (b : ℕ) (ls : List (List ℕ)) → lines (part ++ b ∷ []) ls ≡ lines part (onto b ls)
unfolding lines
lines_more [] b [] = refl
lines_more [] b (l ∷ ls) = refl
lines_more (a ∷ part) b [] = refl
lines_more (a ∷ part) b (l ∷ ls) = ap (λ (m : List ℕ). (a ∷ m) ∷ ls) (append_assoc part (b ∷ []) l)

lines_end : (part : List ℕ) (ls : List (List ℕ)) → lines part ([] ∷ ls) ≡ part ∷ ls
unfolding lines
lines_end [] ls = refl
lines_end (b ∷ part) ls = ap (λ (m : List ℕ). m ∷ ls) (append-nil (b ∷ part))

end_open : (part : List ℕ) → written_at_end (kept_of part) ≡ answers_to (lines part [])
unfolding kept_of lines answers_to
end_open [] = refl
end_open (b ∷ part) = go (leb (length (b ∷ part)) 4096) refl
  where
    go : (t : Bool) → leb (length (b ∷ part)) 4096 ≡ t → written_at_end (cond t (bytes (b ∷ part)) longer) ≡ answer_of (b ∷ part) ++ []
    go true e = sym (append-nil (answer_of (b ∷ part)))
    go false e = answer_longer (b ∷ part) (leb-false (length (b ∷ part)) 4096 e) ∙ sym (append-nil (answer_of (b ∷ part)))

-- from a part of a line on, what is written is the answers to the lines that it and the rest make
from_open : (part rest : List ℕ) → written_for (kept_of part) rest ++ written_at_end (kept_after (kept_of part) rest) ≡ answers_to (lines part (cut 10 [] rest))
unfolding written_for kept_after cut written_at fed kept_of lines answers_to
from_open part [] = end_open part
from_open part (b ∷ rest) = go (eqb b 10) refl (from_open [] rest) (from_open (part ++ b ∷ []) rest)
  where
    go : (t : Bool) → eqb b 10 ≡ t → written_for (kept_of []) rest ++ written_at_end (kept_after (kept_of []) rest) ≡ answers_to (lines [] (cut 10 [] rest))
        → written_for (kept_of (part ++ b ∷ [])) rest ++ written_at_end (kept_after (kept_of (part ++ b ∷ [])) rest) ≡ answers_to (lines (part ++ b ∷ []) (cut 10 [] rest))
        → (written_at b (kept_of part) ++ written_for (fed b (kept_of part)) rest) ++ written_at_end (kept_after (fed b (kept_of part)) rest)
        ≡ answers_to (lines part (cond (eqb b 10) ([] ∷ cut 10 [] rest) (onto b (cut 10 [] rest))))
    go true e ended more =
        rw e
        (append_assoc (answer_kept (kept_of part)) (written_for (bytes []) rest) (written_at_end (kept_after (bytes []) rest))
        ∙ ap (λ (l : List ℕ). answer_kept (kept_of part) ++ l) ended
        ∙ ap (λ (l : List ℕ). l ++ answers_to (cut 10 [] rest)) (answer_kept_lem part)
        ∙ sym (ap answers_to (lines_end part (cut 10 [] rest))))
    go false e ended more = rw (e, keep_kept part b) (more ∙ ap answers_to (lines_more part b (cut 10 [] rest)))

-- a whole input
pub whole_input : (input : List ℕ) → written_for (bytes []) input ++ written_at_end (kept_after (bytes []) input) ≡ answers_of input
unfolding answers_of lines_of kept_of lines
whole_input input = from_open [] input
