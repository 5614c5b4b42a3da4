-- A number of up to thirty digits in decimal: read back by tens it is the number (`numeral_read`), each byte is a digit (`numeral_digits`), the first is 0 only in 0 itself
-- (`numeral_leads`), and below 10^m, for m from 1 up, it has at most m of them (`numeral_long`). Below 1,000 it is `decimal` (`decimal_numeral`). Assumes nothing.
use mathlib.Core.Path.{◌≡◌, refl, ap, ◌∙◌}
use mathlib.Core.Bool.{Bool, true, false, cond}
use mathlib.Core.List.{List, [], ◌∷◌}
use Prim.Native.Nat.{ℕ, zero, suc, ◌+◌, ◌/◌, ◌%◌, ◌^◌, ◌≤◌, ◌<◌}
use native.Mathlib.Omega.{arith}
use lib.Dec.{ltb}
use lib.ListN.{length, get_or}
use borrow.Author.Tests.{ltb-true, ltb-false, lt-ltb, le-ltb}
use Rattle.text.specs.Decimal.{decimal, digits_before, numeral, read_by, Digits}

-- a digit less is a power less
pub lower : (m n : ℕ) → n < 10 ^ suc m → n / 10 < 10 ^ m
lower m n h = omega arith

-- ---- read back
back : (m : ℕ) (t : Bool) (n : ℕ) (so : List ℕ) → ltb n 10 ≡ t → n < 10 ^ m → read_by 0 (digits_before m t n so) ≡ read_by n so
unfolding digits_before read_by
back zero t n so e h = ap (λ (x : ℕ). read_by x so) (omega arith)
back (suc m) true n so e h = ap (λ (x : ℕ). read_by x so) (omega arith)
back (suc m) false n so e h = back m (ltb (n / 10) 10) (n / 10) ((48 + n % 10) ∷ so) refl (lower m n h) ∙ ap (λ (x : ℕ). read_by x so) (omega arith)

pub numeral_read : (n : ℕ) → n < 10 ^ 30 → read_by 0 (numeral n) ≡ n
unfolding numeral read_by
numeral_read n h = back 30 (ltb n 10) n [] refl h

-- ---- each byte is a digit
all_digits : (m : ℕ) (t : Bool) (n : ℕ) (so : List ℕ) → ltb n 10 ≡ t → Digits so → Digits (digits_before m t n so)
unfolding digits_before
all_digits zero t n so e d = d
all_digits (suc m) true n so e d = let h = ltb-true n 10 e in ((omega arith, omega arith), d)
all_digits (suc m) false n so e d = all_digits m (ltb (n / 10) 10) (n / 10) ((48 + n % 10) ∷ so) refl ((omega arith, omega arith), d)

pub numeral_digits : (n : ℕ) → Digits (numeral n)
unfolding numeral
numeral_digits n = all_digits 30 (ltb n 10) n [] refl tt

-- ---- no leading zero
leads : (m : ℕ) (t : Bool) (n : ℕ) (so : List ℕ) → ltb n 10 ≡ t → 0 < n → n < 10 ^ m → 49 ≤ get_or (digits_before m t n so) 0 0
unfolding digits_before
leads zero t n so e p h = absurd (omega arith)
leads (suc m) true n so e p h = omega arith
leads (suc m) false n so e p h = let l = ltb-false n 10 e in leads m (ltb (n / 10) 10) (n / 10) ((48 + n % 10) ∷ so) refl (omega arith) (lower m n h)

pub numeral_leads : (n : ℕ) → 0 < n → n < 10 ^ 30 → 49 ≤ get_or (numeral n) 0 0
unfolding numeral
numeral_leads n p h = leads 30 (ltb n 10) n [] refl p h

-- ---- how long it is: below 10^m, for m from 1 up, m digits are enough
long : (f m : ℕ) (t : Bool) (n : ℕ) (so : List ℕ) → ltb n 10 ≡ t → n < 10 ^ suc m → length (digits_before f t n so) ≤ suc m + length so
unfolding digits_before
long zero m t n so e h = omega arith
long (suc f) m true n so e h = omega arith
long (suc f) zero false n so e h = let l = ltb-false n 10 e in absurd (omega arith)
long (suc f) (suc m) false n so e h = let i = long f m (ltb (n / 10) 10) (n / 10) ((48 + n % 10) ∷ so) refl (lower (suc m) n h) in omega arith

pub numeral_long : (m n : ℕ) → n < 10 ^ suc m → length (numeral n) ≤ suc m
unfolding numeral
numeral_long m n h = let i = long 30 m (ltb n 10) n [] refl h in omega arith

-- of any number at most thirty are written
most : (f : ℕ) (t : Bool) (n : ℕ) (so : List ℕ) → length (digits_before f t n so) ≤ f + length so
unfolding digits_before
most zero t n so = omega arith
most (suc f) true n so = omega arith
most (suc f) false n so = let i = most f (ltb (n / 10) 10) (n / 10) ((48 + n % 10) ∷ so) in omega arith

pub numeral_most : (n : ℕ) → length (numeral n) ≤ 30
unfolding numeral
numeral_most n = let i = most 30 (ltb n 10) n [] in omega arith

-- ---- one digit more, and the last: for a writer from the right
pub digits_more : (m n : ℕ) (so : List ℕ) → 10 ≤ n → digits_before m (ltb (n / 10) 10) (n / 10) ((48 + n % 10) ∷ so) ≡ digits_before (suc m) (ltb n 10) n so
unfolding digits_before
digits_more m n so h = rw (le-ltb n 10 h)

pub digits_last : (m n : ℕ) (so : List ℕ) → n < 10 → (48 + n) ∷ so ≡ digits_before (suc m) (ltb n 10) n so
unfolding digits_before
digits_last m n so h = rw (lt-ltb n 10 h)

-- ---- below 1,000 the two are one
pub decimal_numeral : (n : ℕ) → n < 1000 → decimal n ≡ numeral n
unfolding decimal numeral
decimal_numeral n h = go (ltb n 10) (ltb n 100) refl refl
  where
    go : (s t : Bool) → ltb n 10 ≡ s → ltb n 100 ≡ t
        → cond s ((48 + n) ∷ []) (cond t ((48 + n / 10) ∷ (48 + n % 10) ∷ []) ((48 + n / 100 % 10) ∷ (48 + n / 10 % 10) ∷ (48 + n % 10) ∷ []))
        ≡ digits_before 30 (ltb n 10) n []
    go true t e f = digits_last 29 n [] (ltb-true n 10 e)
    go false true e f =
        let l = ltb-false n 10 e in
        let u = ltb-true n 100 f in
        digits_last 28 (n / 10) ((48 + n % 10) ∷ []) (omega arith) ∙ digits_more 29 n [] l
    go false false e f =
        let l = ltb-false n 100 f in
        let m : n / 100 % 10 ≡ n / 10 / 10 = omega arith in
        ap (λ (x : ℕ). (48 + x) ∷ (48 + n / 10 % 10) ∷ (48 + n % 10) ∷ []) m
        ∙ digits_last 27 (n / 10 / 10) ((48 + n / 10 % 10) ∷ (48 + n % 10) ∷ []) (omega arith)
        ∙ digits_more 28 (n / 10) ((48 + n % 10) ∷ []) (omega arith)
        ∙ digits_more 29 n [] (omega arith)
