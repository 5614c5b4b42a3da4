-- Lines put one after the other, and how many bytes they take: 41 for each (`rows_long`). Assumes nothing.
use mathlib.Core.Path.{◌≡◌, refl, sym, ap, ◌∙◌, subst}
use mathlib.Core.List.{List, [], ◌∷◌, ◌++◌, append_assoc, append-nil}
use Prim.Native.Nat.{ℕ, ◌*◌, ◌≤◌}
use native.Mathlib.Omega.{arith}
use lib.ListN.{length, length-append}
use Rattle.text.specs.Put.{PutIn}
use Rattle.text.proofs.Put.{puts_nothing, puts_both}
use Rattle.page_lines.specs.Lines.{Row, row, padded, line_with, line_of, lines_of}
use Rattle.page_lines.proofs.Line.{line_long}

-- ---- one after the other
lines_both : (rows more : List Row) → lines_of (rows ++ more) ≡ lines_of rows ++ lines_of more
unfolding lines_of
lines_both [] more = refl
lines_both (r ∷ rows) more = ap (λ (l : List ℕ). line_of r ++ l) (lines_both rows more) ∙ sym (append_assoc (line_of r) (lines_of rows) (lines_of more))

lines_one : (r : Row) → lines_of (r ∷ []) ≡ line_of r
unfolding lines_of
lines_one r = append-nil (line_of r)

-- the line of a word that is padded
pub puts_word : {a b field : List ℕ} {at m : ℕ} (word : List ℕ) (n : ℕ) → PutIn a at (line_with field n) b m → field ≡ padded word → PutIn a at (line_of (row word n)) b m
puts_word {a} {b} {field} {at} {m} word n p e = subst (λ (l : List ℕ). PutIn a at (line_with l n) b m) e p

pub puts_row : {a b : List ℕ} {at m : ℕ} (r : Row) → PutIn a at (line_of r) b m → PutIn a at (lines_of (r ∷ [])) b m
puts_row {a} {b} {at} {m} r p = subst (λ (l : List ℕ). PutIn a at l b m) (sym (lines_one r)) p

pub puts_rows : {a b c : List ℕ} {at m n : ℕ} (rows more : List Row) → PutIn a at (lines_of rows) b m → PutIn b m (lines_of more) c n → PutIn a at (lines_of (rows ++ more)) c n
puts_rows {a} {b} {c} {at} {m} {n} rows more p q = subst (λ (l : List ℕ). PutIn a at l c n) (sym (lines_both rows more)) (puts_both p q)

-- no row
pub puts_no_row : (text : List ℕ) (at : ℕ) → at ≤ length text → PutIn text at (lines_of []) text at
unfolding lines_of
puts_no_row text at h = puts_nothing text at h

-- a row after some
pub puts_next : {a b c : List ℕ} {at m n : ℕ} (rows : List Row) (r : Row) → PutIn a at (lines_of rows) b m → PutIn b m (line_of r) c n → PutIn a at (lines_of (rows ++ r ∷ [])) c n
puts_next rows r p q = puts_rows rows (r ∷ []) p (puts_row r q)

pub puts_two : {a b c : List ℕ} {at m n : ℕ} (r s : Row) → PutIn a at (line_of r) b m → PutIn b m (line_of s) c n → PutIn a at (lines_of (r ∷ s ∷ [])) c n
puts_two r s p q = puts_next (r ∷ []) s (puts_row r p) q

pub puts_three : {a b c d : List ℕ} {at m n o : ℕ} (r s t : Row) → PutIn a at (line_of r) b m → PutIn b m (line_of s) c n → PutIn c n (line_of t) d o
    → PutIn a at (lines_of (r ∷ s ∷ t ∷ [])) d o
puts_three r s t p q u = puts_next (r ∷ s ∷ []) t (puts_two r s p q) u

-- ---- how long they are
-- each word has at most 10 bytes
abbrev pub Short : List Row → Type 0
Short [] = Unit
Short (row word n ∷ rows) = (length word ≤ 10) × Short rows

pub rows_long : (rows : List Row) → Short rows → length (lines_of rows) ≡ 41 * length rows
unfolding lines_of
rows_long [] s = refl
rows_long (row word n ∷ rows) s =
    let l = (line_long word n s.0).0 in
    let m = rows_long rows s.1 in
    omega (arith, length-append (line_of (row word n)) (lines_of rows))
