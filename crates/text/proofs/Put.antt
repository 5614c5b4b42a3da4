-- Bytes put into a text: one byte, a copy, one after the other, and what the text holds where there is room for all of them. Assumes nothing.
use mathlib.Core.Path.{◌≡◌, refl, sym, ap, ◌∙◌}
use mathlib.Core.Bool.{Bool, true, false}
use mathlib.Core.List.{List, [], ◌∷◌, ◌++◌, append-nil, append_assoc}
use Prim.Native.Nat.{ℕ, suc, ◌+◌, ◌-◌, ◌≤◌, ◌<◌, min}
use native.Mathlib.Nat.{add-zero, zero-add, sub-zero, min-eq_left}
use native.Mathlib.Numerals.{add-one}
use native.Mathlib.Omega.{arith}
use lib.Dec.{leb, ltb}
use lib.ListN.{length, take, drop, set, length-append, length-drop, length-set, drop_of_length-le}
use lib.Seq.{drop-drop, take-nil, take_all, take_at, take-append_seam, take-suc-set, drop-set-lt, set_out, append_snoc, length-take-le, paste, paste-zero}
use borrow.Rule.Slice.PartMut.{put_mid}
use borrow.Author.Tests.{leb-true, leb-false, ltb-true, ltb-false}
use Rattle.text.specs.Put.{put_in, PutIn, over, Laid}

-- nothing is put
put_nil : (text : List ℕ) (at : ℕ) → put_in text at [] ≡ text
unfolding put_in
put_nil text at = ap (λ (l : List ℕ). take at text ++ l ++ drop (at + 0) text) (take-nil (length text - at)) ∙ sym (paste-zero text at [])

-- past the text's end there is nothing
past : (text : List ℕ) (n : ℕ) → length text ≤ n → drop n text ≡ []
past text n h = drop_of_length-le text h

-- and nothing is put
put_past : (text : List ℕ) (at : ℕ) (bytes : List ℕ) → length text ≤ at → put_in text at bytes ≡ text
unfolding put_in
put_past text at bytes h =
    let z : length text - at ≡ 0 = omega arith in
    let d = past text (at + length bytes) (omega arith) in
    rw (take_all at text h, z, d) (append-nil (text ++ []) ∙ append-nil text)

-- the first byte is put, and then the others
put_inside : (text : List ℕ) (at b : ℕ) (bytes : List ℕ) → at < length text → put_in text at (b ∷ bytes) ≡ put_in (set text at b) (at + 1) bytes
unfolding put_in
put_inside text at b bytes h =
    let u : length text - at ≡ suc (length text - (at + 1)) = omega arith in
    let v : at + suc (length bytes) ≡ at + 1 + length bytes = omega arith in
    let t : take (at + 1) (set text at b) ≡ take at text ++ (b ∷ []) = rw add-one (take-suc-set text at b h) in
    let d : drop (at + 1 + length bytes) (set text at b) ≡ drop (at + 1 + length bytes) text = drop-set-lt (at + 1 + length bytes) text at b (omega arith) in
    rw (u, v, t, d, length-set text at b)
    (ap (λ (l : List ℕ). l ++ drop (at + 1 + length bytes) text) (sym (append_snoc (take at text) b (take (length text - (at + 1)) bytes))))

put_cons : (text : List ℕ) (at b : ℕ) (bytes : List ℕ) → put_in text at (b ∷ bytes) ≡ put_in (set text at b) (at + 1) bytes
put_cons text at b bytes = go (ltb at (length text)) refl
  where
    go : (t : Bool) → ltb at (length text) ≡ t → put_in text at (b ∷ bytes) ≡ put_in (set text at b) (at + 1) bytes
    go true e = put_inside text at b bytes (ltb-true at (length text) e)
    go false e =
        let h = ltb-false at (length text) e in
        put_past text at (b ∷ bytes) h ∙ sym (ap (λ (l : List ℕ). put_in l (at + 1) bytes) (set_out text at b h) ∙ put_past text (at + 1) bytes (omega arith))

-- a text keeps its length
pub put_length : (text : List ℕ) (at : ℕ) (bytes : List ℕ) → length (put_in text at bytes) ≡ length text
put_length text at [] = ap length (put_nil text at)
put_length text at (b ∷ bytes) = ap length (put_cons text at b bytes) ∙ put_length (set text at b) (at + 1) bytes ∙ length-set text at b

-- some bytes are put, and then others, wherever the first would end
put_more : (text : List ℕ) (at : ℕ) (xs ys : List ℕ) → put_in (put_in text at xs) (at + length xs) ys ≡ put_in text at (xs ++ ys)
put_more text at [] ys = rw (put_nil text at, add-zero at)
put_more text at (b ∷ xs) ys =
    let v : at + suc (length xs) ≡ at + 1 + length xs = omega arith in
    ap (λ (l : List ℕ). put_in l (at + suc (length xs)) ys) (put_cons text at b xs)
    ∙ ap (λ (k : ℕ). put_in (put_in (set text at b) (at + 1) xs) k ys) v
    ∙ put_more (set text at b) (at + 1) xs ys
    ∙ sym (put_cons text at b (xs ++ ys))

-- a place past the text's end stands for the end
put_end : (text : List ℕ) (at : ℕ) (bytes : List ℕ) → put_in text (min at (length text)) bytes ≡ put_in text at bytes
put_end text at bytes = go (leb at (length text)) refl
  where
    go : (t : Bool) → leb at (length text) ≡ t → put_in text (min at (length text)) bytes ≡ put_in text at bytes
    go true e = ap (λ (k : ℕ). put_in text k bytes) (min-eq_left (leb-true at (length text) e))
    go false e =
        let h = leb-false at (length text) e in
        let l : length text ≤ at = omega arith in
        put_past text (min at (length text)) bytes (omega arith) ∙ sym (put_past text at bytes l)

-- ---- what a call hands back: no byte, bytes past the text's end, and one byte
pub puts_nothing : (text : List ℕ) (at : ℕ) → at ≤ length text → PutIn text at [] text at
puts_nothing text at h = record { holds = sym (put_nil text at); ends = omega arith }

pub puts_none : (text : List ℕ) → PutIn text 0 [] text 0
puts_none text = puts_nothing text 0 (omega arith)

pub puts_past : (text : List ℕ) (at : ℕ) (bytes : List ℕ) → length text ≤ at → PutIn text at bytes text (length text)
puts_past text at bytes h = record { holds = sym (put_past text at bytes h); ends = omega arith }

pub puts_one : (text : List ℕ) (at b : ℕ) → at < length text → PutIn text at (b ∷ []) (set text at b) (at + 1)
puts_one text at b h = record { holds = sym (put_cons text at b [] ∙ put_nil (set text at b) (at + 1)); ends = omega arith }

-- ---- a copy of as many bytes as there is room for
pub puts_copy : (text : List ℕ) (at : ℕ) (bytes copied : List ℕ) (from count : ℕ) → from ≡ min at (length text) → count ≡ min (length bytes) (length text - from) → copied ≡ take count bytes
    → PutIn text at bytes (put_mid from (from + count - from) text copied) (from + count)
unfolding put_in
puts_copy text at bytes copied from count f e k = record {
  holds = rw (k, n, drop-drop count from text) (sym (append_assoc (take from text) (take count bytes) (drop (from + count) text)) ∙ go (leb (length bytes) (length text - from)) refl ∙ rw f (put_end text at bytes));
  ends = omega arith;
}
  where
    n : from + count - from ≡ count
    n = omega arith

    go : (t : Bool) → leb (length bytes) (length text - from) ≡ t → paste text from bytes count ≡ put_in text from bytes
    go true g =
        let l = leb-true (length bytes) (length text - from) g in
        let m : count ≡ length bytes = omega arith in
        rw (m, take_all (length bytes) bytes (omega arith), take_all (length text - from) bytes l)
    go false g =
        let l = leb-false (length bytes) (length text - from) g in
        let m : count ≡ length text - from = omega arith in
        let d = past text (from + (length text - from)) (omega arith) in
        let k = past text (from + length bytes) (omega arith) in
        rw (m, d, k)

-- the text is as long as it was
pub put_kept : {a b : List ℕ} {at r : ℕ} {xs : List ℕ} → PutIn a at xs b r → length b ≡ length a
put_kept {a} {b} {at} {r} {xs} p = ap length p.holds ∙ put_length a at xs

-- and the place after them lies within it
pub put_within : {a b : List ℕ} {at r : ℕ} {xs : List ℕ} → PutIn a at xs b r → r ≤ length b
put_within p = let e = p.ends in let l = put_kept p in omega arith

-- some bytes are put, and then others
pub puts_both : {a b c : List ℕ} {at m n : ℕ} {xs ys : List ℕ} → PutIn a at xs b m → PutIn b m ys c n → PutIn a at (xs ++ ys) c n
puts_both {a} {b} {c} {at} {m} {n} {xs} {ys} p q =
    let l = put_kept p in
    let e : m ≡ min (at + length xs) (length b) = p.ends ∙ ap (min (at + length xs)) (sym l) in
    record {
      holds = q.holds
          ∙ ap (λ (k : ℕ). put_in b k ys) e
          ∙ put_end b (at + length xs) ys
          ∙ ap (λ (t : List ℕ). put_in t (at + length xs) ys) p.holds
          ∙ put_more a at xs ys;
      ends = let f = q.ends in omega (arith, length-append xs ys);
    }

-- where there is room for all of them, the text up to their end is what stood before them, and they
pub put_front : (text : List ℕ) (at : ℕ) (bytes : List ℕ) → at + length bytes ≤ length text → take (at + length bytes) (put_in text at bytes) ≡ take at text ++ bytes
unfolding put_in
put_front text at bytes h =
    let t : take (length text - at) bytes ≡ bytes = take_all (length text - at) bytes (omega arith) in
    let l : length (take at text) ≡ at = length-take-le at text (omega arith) in
    rw t (take_at (take at text ++ bytes) (drop (at + length bytes) text) (at + length bytes) (omega (arith, length-append (take at text) bytes)))

-- ---- laid over the front: nothing, how long it is, and what its front is
pub over_nil : {A : Type 0} (before : List A) → over [] before ≡ before
unfolding over
over_nil before = refl

pub over_length : {A : Type 0} (front before : List A) → length front ≤ length before → length (over front before) ≡ length before
unfolding over
over_length front before h = omega (arith, length-append front (drop (length front) before), length-drop (length front) before)

pub over_front : {A : Type 0} (front before : List A) → take (length front) (over front before) ≡ front
unfolding over
over_front front before = take-append_seam front (drop (length front) before)

-- bytes put at the start of a text with room for them are laid over its front
put_over : (text bytes : List ℕ) → length bytes ≤ length text → put_in text 0 bytes ≡ over bytes text
unfolding put_in over
put_over text bytes h = rw (sub-zero, take_all (length text) bytes h, zero-add)

pub puts_over : {a b : List ℕ} {r : ℕ} {xs : List ℕ} → length xs ≤ length a → PutIn a 0 xs b r → Laid a xs b r
puts_over {a} {b} {r} {xs} h p = record { holds = p.holds ∙ put_over a xs h; counts = let e = p.ends in omega arith }

-- and so are bytes put after them
pub laid_more : {a b c : List ℕ} {m r : ℕ} {xs ys : List ℕ} → length (xs ++ ys) ≤ length a → Laid a xs b m → PutIn b m ys c r → Laid a (xs ++ ys) c r
laid_more {a} {b} {c} {m} {r} {xs} {ys} h l q =
    let k : length xs ≤ length a = omega (arith, length-append xs ys) in
    let p : PutIn a 0 xs b m = record { holds = l.holds ∙ sym (put_over a xs k); ends = let e = l.counts in omega arith } in
    puts_over h (puts_both p q)

-- the front of a text over which bytes were laid is those bytes
pub laid_front : {a b xs : List ℕ} {r : ℕ} → Laid a xs b r → take r b ≡ xs
laid_front {a} {b} {xs} {r} l = ap (λ (k : ℕ). take k b) l.counts ∙ ap (take (length xs)) l.holds ∙ over_front xs a

-- how long it is: as long as it was where they have room, and no shorter than they are
pub laid_long : {a b xs : List ℕ} {r : ℕ} → Laid a xs b r → length b ≡ length xs + (length a - length xs)
unfolding over
laid_long {a} {b} {xs} l = ap length l.holds ∙ length-append xs (drop (length xs) a) ∙ ap (λ (k : ℕ). length xs + k) (length-drop (length xs) a)

pub laid_within : {a b xs : List ℕ} {r : ℕ} → Laid a xs b r → r ≤ length b
laid_within l = let n = l.counts in let m = laid_long l in omega arith
