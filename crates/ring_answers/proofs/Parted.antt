-- Indices parted by commas: one more at the end, and how long they get. Assumes nothing.
use mathlib.Core.Path.{◌≡◌, sym, ap, ◌∙◌}
use mathlib.Core.List.{List, [], ◌∷◌, ◌++◌, append_assoc, append-nil}
use Prim.Native.Nat.{ℕ, suc, ◌+◌, ◌*◌, ◌≤◌, ◌<◌}
use native.Mathlib.Numerals.{add-one}
use native.Mathlib.Omega.{arith}
use lib.ListN.{length, take, get_or, length-append}
use lib.Seq.{take-suc, length-take-le}
use borrow.Author.Tests.{eq-eqb, ne_eqb}
use Rattle.text.specs.Put.{PutIn}
use Rattle.text.specs.Decimal.{decimal}
use Rattle.text.proofs.Put.{puts_none, puts_both}
use Rattle.text.proofs.Decimal.{decimal_long}
use Rattle.ring_answers.specs.Answers.{after_commas, parted}
use Rattle.ring_answers.specs.Inner.{index_at}

-- ---- one index
pub puts_first_index : {a b : List ℕ} {at r : ℕ} (i hue : ℕ) → i ≡ 0 → PutIn a at (decimal hue) b r → PutIn a at (index_at i hue) b r
unfolding index_at
puts_first_index i hue e p = rw (eq-eqb i 0 e) p

pub puts_later_index : {a b c : List ℕ} {at m r : ℕ} (i hue : ℕ) → (i ≡ 0 → ⊥) → PutIn a at (44 ∷ []) b m → PutIn b m (decimal hue) c r → PutIn a at (index_at i hue) c r
unfolding index_at
puts_later_index i hue e p q = rw (ne_eqb i 0 e) (puts_both p q)

-- ---- one after the other
commas_next : (is : List ℕ) (i : ℕ) → after_commas (is ++ i ∷ []) ≡ after_commas is ++ 44 ∷ decimal i
unfolding after_commas
commas_next [] i = ap (λ (l : List ℕ). 44 ∷ l) (append-nil (decimal i))
commas_next (j ∷ is) i = ap (λ (l : List ℕ). 44 ∷ l) (ap (λ (l : List ℕ). decimal j ++ l) (commas_next is i) ∙ sym (append_assoc (decimal j) (after_commas is) (44 ∷ decimal i)))

parted_next : (is : List ℕ) (i : ℕ) → parted (is ++ i ∷ []) ≡ parted is ++ index_at (length is) i
unfolding parted index_at after_commas
parted_next [] i = append-nil (decimal i)
parted_next (j ∷ is) i =
    let n : suc (length is) ≡ 0 → ⊥ = λ e. omega arith in
    ap (λ (l : List ℕ). decimal j ++ l) (commas_next is i) ∙ sym (append_assoc (decimal j) (after_commas is) (44 ∷ decimal i)) ∙ rw (ne_eqb (suc (length is)) 0 n)

-- no index is put
pub indices_none : (text : List ℕ) → PutIn text 0 (parted []) text 0
unfolding parted
indices_none text = puts_none text

-- one more index is put
pub indices_next : {a b c : List ℕ} {to r : ℕ} (hues : List ℕ) (i : ℕ) → i < length hues → PutIn a 0 (parted (take i hues)) b to → PutIn b to (index_at i (get_or hues i 0)) c r
    → PutIn a 0 (parted (take (i + 1) hues)) c r
indices_next hues i h p q =
    let l : i ≤ length hues = omega arith in
    let e : take (i + 1) hues ≡ take i hues ++ (get_or hues i 0 ∷ []) = rw add-one (take-suc hues i 0 h) in
    let n : length (take i hues) ≡ i = length-take-le i hues l in
    rw (e, parted_next (take i hues) (get_or hues i 0), n) (puts_both p q)

-- ---- how long they get: an index takes at most four bytes with its comma
commas_long : (is : List ℕ) → length (after_commas is) ≤ 4 * length is
unfolding after_commas
commas_long [] = omega arith
commas_long (i ∷ is) = let l = decimal_long i in let m = commas_long is in omega (arith, length-append (decimal i) (after_commas is))

pub parted_long : (is : List ℕ) → length is ≤ 16 → length (parted is) ≤ 63
unfolding parted
parted_long [] h = omega arith
parted_long (i ∷ is) h = let l = decimal_long i in let m = commas_long is in omega (arith, length-append (decimal i) (after_commas is))
