-- A piece is taken byte by byte: what one more byte writes and keeps, how many bytes are taken, and that some byte is. Assumes nothing.
use mathlib.Core.Path.{◌≡◌, refl, sym, ap, ◌∙◌, subst}
use mathlib.Core.Bool.{Bool, true, false, cond}
use mathlib.Core.List.{List, [], ◌∷◌, ◌++◌, append-nil}
use Prim.Native.Nat.{ℕ, zero, suc, ◌+◌, ◌≤◌, ◌<◌}
use native.Mathlib.Nat.{zero-add}
use native.Mathlib.Numerals.{add-one}
use native.Mathlib.Omega.{arith}
use lib.Dec.{leb, eqb}
use lib.ListN.{length, take, drop, get_or, length-append, drop_of_length-le}
use lib.Seq.{take-suc, drop-cons}
use borrow.Author.Tests.{eq-eqb, ne_eqb, le-leb, lt-leb}
use Rattle.text.specs.Put.{PutIn, Laid}
use Rattle.text.proofs.Put.{over_nil, laid_more, laid_long}
use Rattle.ring_lines.specs.Pieces.{Kept, bytes, longer, fed, answer_kept, written_at, kept_after, written_for, written_at_end, kept_in, held_fed, buffer_fed, held_after, buffer_after, taken_from}
use Rattle.ring_lines.specs.Promised.{Held, Answered}
use Rattle.ring_lines.proofs.Keeping.{kept_so, kept_few}
use Rattle.ring_lines.proofs.Stream.{kept_both, written_both}

-- ---- how many bytes are taken: no more than there are, and some where there is any
pub taken_within : (kept : Kept) (end : ℕ) (piece : List ℕ) → taken_from kept end piece ≤ length piece
unfolding taken_from
taken_within kept end [] = omega arith
taken_within kept end (b ∷ piece) = go (leb end 65472) (taken_within (fed b kept) (end + length (written_at b kept)) piece)
  where
    go : (t : Bool) → taken_from (fed b kept) (end + length (written_at b kept)) piece ≤ length piece
        → cond t (suc (taken_from (fed b kept) (end + length (written_at b kept)) piece)) 0 ≤ suc (length piece)
    go true h = omega arith
    go false h = omega arith

pub taken_some : (kept : Kept) (piece : List ℕ) → 0 < length piece → 0 < taken_from kept 0 piece
unfolding taken_from
taken_some kept [] h = h
taken_some kept (b ∷ piece) h = omega arith

-- none where the answers might not fit, and else one and those after it
none_fits : (kept : Kept) (end : ℕ) (piece : List ℕ) → 65472 < end → taken_from kept end piece ≡ 0
unfolding taken_from
none_fits kept end [] h = refl
none_fits kept end (b ∷ piece) h = rw (lt-leb end 65472 h)

one_fits : (kept : Kept) (end b : ℕ) (piece : List ℕ) → end ≤ 65472 → taken_from kept end (b ∷ piece) ≡ suc (taken_from (fed b kept) (end + length (written_at b kept)) piece)
unfolding taken_from
one_fits kept end b piece h = rw (le-leb end 65472 h)

-- ---- one byte after others
held_both : (held : ℕ) (a b : List ℕ) → held_after held (a ++ b) ≡ held_after (held_after held a) b
unfolding held_after
held_both held [] b = refl
held_both held (x ∷ a) b = held_both (held_fed x held) a b

buffer_both : (buffer : List ℕ) (held : ℕ) (a b : List ℕ) → buffer_after buffer held (a ++ b) ≡ buffer_after (buffer_after buffer held a) (held_after held a) b
unfolding held_after buffer_after
buffer_both buffer held [] b = refl
buffer_both buffer held (x ∷ a) b = buffer_both (buffer_fed x buffer held) (held_fed x held) a b

-- ---- `at` bytes of a piece are taken: what is held, what is written and how many bytes are still to be taken
pub record AsFar (before : List ℕ) (held : ℕ) (piece out buffer : List ℕ) (count : ℕ) (text : List ℕ) (end at : ℕ) : Type 0 where
  pub within : at ≤ length piece
  pub holds : count ≡ held_after held (take at piece)
  pub keeps : buffer ≡ buffer_after before held (take at piece)
  pub writes : Laid out (written_for (kept_in before held) (take at piece)) text end
  pub rest : taken_from (kept_in before held) 0 piece ≡ at + taken_from (kept_after (kept_in before held) (take at piece)) end (drop at piece)

-- no byte is taken yet
pub none_taken : (before : List ℕ) (held : ℕ) (piece out : List ℕ) → AsFar before held piece out before held out 0 0
unfolding written_for kept_after held_after buffer_after
none_taken before held piece out =
    record {
      within = omega arith;
      holds = refl;
      keeps = refl;
      writes = record { holds = sym (over_nil out); counts = refl };
      rest = sym (zero-add (taken_from (kept_in before held) 0 piece));
    }

module _ {before : List ℕ} {held : ℕ} {piece out buffer : List ℕ} {count : ℕ} {text : List ℕ} {end at : ℕ}
    (s : AsFar before held piece out buffer count text end at) where
  -- what is kept, and what is written
  abbrev kept : Kept
  kept = kept_after (kept_in before held) (take at piece)

  abbrev written : List ℕ
  written = written_for (kept_in before held) (take at piece)

  kept_here : length buffer ≡ 4096 → kept_in buffer count ≡ kept
  kept_here long = kept_so before held (take at piece) s.keeps s.holds long

  module _ (b : ℕ) (inside : at < length piece) (is : get_or piece at 0 ≡ b) (room : end ≤ 65472) where
    one_more : take (at + 1) piece ≡ take at piece ++ b ∷ []
    one_more = rw (add-one, ← is) (take-suc piece at 0 inside)

    one_less : drop at piece ≡ b ∷ drop (at + 1) piece
    one_less = rw (add-one, ← is) (drop-cons piece at 0 inside)

    kept_more : kept_after (kept_in before held) (take (at + 1) piece) ≡ fed b kept
    unfolding kept_after
    kept_more = ap (kept_after (kept_in before held)) one_more ∙ kept_both (kept_in before held) (take at piece) (b ∷ [])

    written_more : written_for (kept_in before held) (take (at + 1) piece) ≡ written ++ written_at b kept
    unfolding written_for
    written_more =
        ap (written_for (kept_in before held)) one_more
        ∙ written_both (kept_in before held) (take at piece) (b ∷ [])
        ∙ ap (λ (l : List ℕ). written ++ l) (append-nil (written_at b kept))

    rest_more : (end' : ℕ) → end' ≡ end + length (written_at b kept)
        → taken_from kept end (drop at piece) ≡ suc (taken_from (kept_after (kept_in before held) (take (at + 1) piece)) end' (drop (at + 1) piece))
    rest_more end' e = ap (taken_from kept end) one_less ∙ one_fits kept end b (drop (at + 1) piece) room ∙ rw (kept_more, e)

    -- any byte
    one_taken : {buffer' : List ℕ} {count' : ℕ} {text' : List ℕ} {end' : ℕ} → count' ≡ held_fed b count → buffer' ≡ buffer_fed b buffer count
        → Laid out (written ++ written_at b kept) text' end' → AsFar before held piece out buffer' count' text' end' (at + 1)
    unfolding held_after buffer_after
    one_taken {buffer'} {count'} {text'} {end'} h k w =
        let u = s.writes.counts in
        let v = w.counts in
        let r = s.rest in
        let t = rest_more end' (omega (arith, length-append written (written_at b kept))) in
        record {
          within = omega arith;
          holds = h ∙ ap (held_fed b) s.holds ∙ sym (ap (held_after held) one_more ∙ held_both held (take at piece) (b ∷ []));
          keeps = k
              ∙ ap (λ (l : List ℕ). buffer_fed b l count) s.keeps
              ∙ ap (buffer_fed b (buffer_after before held (take at piece))) s.holds
              ∙ sym (ap (buffer_after before held) one_more ∙ buffer_both before held (take at piece) (b ∷ []));
          writes = rw written_more w;
          rest = omega arith;
        }

    -- a newline
    pub newline_taken : {text' : List ℕ} {r : ℕ} → length buffer ≡ 4096 → length text ≡ 65536 → b ≡ 10 → PutIn text end (answer_kept (kept_in buffer count)) text' r
        → AsFar before held piece out buffer 0 text' r (at + 1)
    unfolding held_fed buffer_fed written_at
    newline_taken long wide e p =
        let few = kept_few (kept_in buffer count) in
        let n = s.writes.counts in
        let m = laid_long s.writes in
        let fits : length (written ++ answer_kept (kept_in buffer count)) ≤ length out = omega (arith, length-append written (answer_kept (kept_in buffer count))) in
        one_taken (rw (eq-eqb b 10 e)) (rw (eq-eqb b 10 e)) (rw (eq-eqb b 10 e, ← kept_here long) (laid_more fits s.writes p))

    -- any other byte
    pub other_taken : {buffer' : List ℕ} {r : ℕ} → (b ≡ 10 → ⊥) → Held buffer count b buffer' r → AsFar before held piece out buffer' r text end (at + 1)
    unfolding held_fed buffer_fed written_at
    other_taken e h =
        one_taken (h.counts ∙ rw (ne_eqb b 10 e)) (h.holds ∙ rw (ne_eqb b 10 e)) (rw (ne_eqb b 10 e, append-nil written) s.writes)

  -- no other is taken, since there is none or its answer might not fit
  all_taken : taken_from kept end (drop at piece) ≡ 0 → Answered before held piece out buffer text (record { taken = at; held = count; written = end })
  all_taken z =
      let e : at ≡ taken_from (kept_in before held) 0 piece = let r = s.rest in omega arith in
      record {
        takes = e;
        holds = s.holds ∙ ap (λ (n : ℕ). held_after held (take n piece)) e;
        keeps = s.keeps ∙ ap (λ (n : ℕ). buffer_after before held (take n piece)) e;
        writes = rw (← e) s.writes;
      }

  pub ends_full : 65472 < end → Answered before held piece out buffer text (record { taken = at; held = count; written = end })
  ends_full h = all_taken (none_fits kept end (drop at piece) h)

  pub ends_whole : length piece ≤ at → Answered before held piece out buffer text (record { taken = length piece; held = count; written = end })
  unfolding taken_from
  ends_whole h =
      let w = s.within in
      let e : at ≡ length piece = omega arith in
      subst (λ (n : ℕ). Answered before held piece out buffer text (record { taken = n; held = count; written = end })) e (all_taken (ap (taken_from kept end) (drop_of_length-le piece h)))

-- ---- at the input's end
pub end_empty : (buffer : List ℕ) (held : ℕ) → length buffer ≡ 4096 → written_at_end (kept_in buffer held) ≡ cond (eqb held 0) [] (answer_kept (kept_in buffer held))
unfolding kept_in
end_empty [] held l = let z : ◌≡◌ {A = ℕ} 0 4096 = l in absurd (omega arith)
end_empty (b ∷ buffer) zero l = refl
end_empty (b ∷ buffer) (suc held) l = rw (ne_eqb (suc held) 0 (λ e. omega arith)) (go (leb (suc held) 4096))
  where
    go : (t : Bool) → written_at_end (cond t (bytes (b ∷ take held buffer)) longer) ≡ answer_kept (cond t (bytes (b ∷ take held buffer)) longer)
    go true = refl
    go false = refl

-- nothing, and the answer
module _ (buffer : List ℕ) (held : ℕ) {before : List ℕ} {t : Bool} (e : written_at_end (kept_in buffer held) ≡ cond t [] (answer_kept (kept_in buffer held))) where
  pub end_none : t ≡ true → Laid before (written_at_end (kept_in buffer held)) before 0
  end_none h = rw (e, h) (record { holds = sym (over_nil before); counts = refl })

  pub end_some : {after : List ℕ} {r : ℕ} → t ≡ false → Laid before (answer_kept (kept_in buffer held)) after r → Laid before (written_at_end (kept_in buffer held)) after r
  end_some h w = rw (e, h) w
