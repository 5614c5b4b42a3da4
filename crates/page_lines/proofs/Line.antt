-- A line: a number written from the right over the end of a line, the line of a padded word and a number, and that it has 41 bytes, of which the newline is the last (`line_long`). Assumes nothing.
use mathlib.Core.Path.{◌≡◌, refl, sym, ap, ◌∙◌, subst}
use mathlib.Core.List.{List, [], ◌∷◌, ◌++◌, append_assoc}
use Prim.Native.Nat.{ℕ, zero, suc, ◌+◌, ◌-◌, ◌/◌, ◌%◌, ◌^◌, ◌≤◌, ◌<◌}
use native.Mathlib.Omega.{arith}
use lib.Dec.{ltb}
use lib.ListN.{length, take, drop, set, get_or, replicate, length-append, length-replicate, take-append-drop, replicate-append-replicate}
use lib.Seq.{length-take-le, take-suc, set_at, take_at, drop_at, take-append-add, append_snoc}
use Rattle.text.specs.Decimal.{digits_before, numeral}
use Rattle.text.specs.Put.{over, PutIn}
use Rattle.text.proofs.Put.{puts_over}
use Rattle.text.proofs.Numeral.{digits_more, digits_last, numeral_most, lower}
use Rattle.page_lines.specs.Lines.{row, padded, aligned, line_with, line_of}

-- ---- a number, from its last digit on
-- a line in which the last digits of n stand, from a place on, and what is left of n
pub record Writing (line : List ℕ) (n : ℕ) (to : List ℕ) (rest at : ℕ) : Type 0 where
  -- the digits that stand
  so : List ℕ
  -- how many more there may be
  left : ℕ
  some : 1 ≤ left
  place : at ≡ 20 + left
  count : left + length so ≡ 20
  few : rest < 10 ^ left
  digits : digits_before (10 + left) (ltb rest 10) rest so ≡ numeral n
  pub holds : to ≡ take at line ++ (so ++ drop 40 line)

module _ (line : List ℕ) (n : ℕ) (long : length line ≡ 41) where
  pub writing_begins : n < 10 ^ 20 → Writing line n line n 40
  unfolding numeral
  writing_begins h =
      record {
        so = [];
        left = 20;
        some = omega arith;
        place = refl;
        count = refl;
        few = h;
        digits = refl;
        holds = sym (take-append-drop 40 line);
      }

  -- one digit is put before those that stand
  put_digit : (at d : ℕ) (rest : List ℕ) → at < 41 → set (take (at + 1) line ++ rest) at d ≡ take at line ++ d ∷ rest
  put_digit at d rest h =
      let s : at + 1 ≡ suc at = omega arith in
      let l : at < length line = omega arith in
      ap (λ (k : ℕ). set (take k line ++ rest) at d) s
      ∙ ap (λ (x : List ℕ). set (x ++ rest) at d) (take-suc line at 0 l)
      ∙ ap (λ (x : List ℕ). set x at d) (append_snoc (take at line) (get_or line at 0) rest)
      ∙ set_at (take at line) (get_or line at 0) rest d at (length-take-le at line (omega arith))

  module _ {to : List ℕ} {rest at : ℕ} (w : Writing line n to rest at) where
    -- the digit before those that stand
    put_before : (d : ℕ) → set to (at - 1) d ≡ take (at - 1) line ++ ((d ∷ w.so) ++ drop 40 line)
    put_before d =
        let a = w.place in
        let b = w.some in
        let c = w.count in
        let e : at ≡ at - 1 + 1 = omega arith in
        ap (λ (x : List ℕ). set x (at - 1) d) w.holds
        ∙ ap (λ (k : ℕ). set (take k line ++ (w.so ++ drop 40 line)) (at - 1) d) e
        ∙ put_digit (at - 1) d (w.so ++ drop 40 line) (omega arith)

    pub writing_goes : (d : ℕ) → (rest / 10 ≡ 0 → ⊥) → d ≡ 48 + rest % 10 → Writing line n (set to (at - 1) d) (rest / 10) (at - 1)
    writing_goes d h e = go w.left w.some w.place w.count w.few w.digits
      where
        go : (left : ℕ) → 1 ≤ left → at ≡ 20 + left → left + length w.so ≡ 20 → rest < 10 ^ left → digits_before (10 + left) (ltb rest 10) rest w.so ≡ numeral n
            → Writing line n (set to (at - 1) d) (rest / 10) (at - 1)
        go zero s p c f g = absurd (omega arith)
        go (suc zero) s p c f g = absurd (omega arith)
        go (suc (suc l)) s p c f g =
            let m : suc (10 + suc l) ≡ 10 + suc (suc l) = omega arith in
            record {
              so = d ∷ w.so;
              left = suc l;
              some = omega arith;
              place = omega arith;
              count = omega arith;
              few = lower (suc l) rest f;
              digits = ap (λ (x : ℕ). digits_before (10 + suc l) (ltb (rest / 10) 10) (rest / 10) (x ∷ w.so)) e
                  ∙ digits_more (10 + suc l) rest w.so (omega arith)
                  ∙ ap (λ (k : ℕ). digits_before k (ltb rest 10) rest w.so) m
                  ∙ g;
              holds = put_before d;
            }

    pub writing_ends : (d : ℕ) → rest / 10 ≡ 0 → d ≡ 48 + rest % 10 → set to (at - 1) d ≡ take (40 - length (numeral n)) line ++ (numeral n ++ drop 40 line)
    writing_ends d h e =
        let a = w.place in
        let b = w.some in
        let c = w.count in
        let u : rest < 10 = omega arith in
        let m : suc (9 + w.left) ≡ 10 + w.left = omega arith in
        let f : d ≡ 48 + rest = omega arith in
        let z : d ∷ w.so ≡ numeral n = ap (λ (x : ℕ). x ∷ w.so) f ∙ digits_last (9 + w.left) rest w.so u ∙ ap (λ (k : ℕ). digits_before k (ltb rest 10) rest w.so) m ∙ w.digits in
        let l : at - 1 ≡ 40 - length (d ∷ w.so) = omega arith in
        put_before d
        ∙ ap (λ (k : ℕ). take k line ++ ((d ∷ w.so) ++ drop 40 line)) l
        ∙ ap (λ (x : List ℕ). take (40 - length x) line ++ (x ++ drop 40 line)) z

    -- a place is left for a digit that is left
    pub writing_left : at ≤ 20 → ⊥
    writing_left h = let a = w.place in let b = w.some in omega arith

-- ---- a line
-- so many spaces
abbrev spaces : ℕ → List ℕ
spaces n = replicate n 32

-- forty spaces and a newline
abbrev pub blank : List ℕ
blank = set (replicate 41 32) 40 10

-- the first of some spaces
taken : (i n : ℕ) (rest : List ℕ) → take i (spaces (i + n) ++ rest) ≡ spaces i
taken i n rest = ap (λ (l : List ℕ). take i (l ++ rest)) (sym (replicate-append-replicate i n 32)) ∙ ap (take i) (append_assoc (spaces i) (spaces n) rest) ∙ take_at (spaces i) (spaces n ++ rest) i (length-replicate {A = ℕ} i 32)

-- ---- how long it is
padded_long : (word : List ℕ) → length word ≤ 10 → length (padded word) ≡ 10
padded_long word h = omega (arith, length-append word (replicate (10 - length word) 32), length-replicate {A = ℕ} (10 - length word) 32)

aligned_long : (n : ℕ) → length (aligned n) ≡ 30
unfolding aligned
aligned_long n = let l = numeral_most n in omega (arith, length-append (replicate (30 - length (numeral n)) 32) (numeral n), length-replicate {A = ℕ} (30 - length (numeral n)) 32)

-- the last byte of ten bytes, thirty and a newline
last_byte : (field thirty : List ℕ) → length field ≡ 10 → length thirty ≡ 30 → drop 40 (field ++ (thirty ++ 10 ∷ [])) ≡ 10 ∷ []
last_byte field thirty h k = ap (drop 40) (sym (append_assoc field thirty (10 ∷ []))) ∙ drop_at (field ++ thirty) (10 ∷ []) 40 (omega (arith, length-append field thirty))

long_line : (field : List ℕ) (n : ℕ) → length field ≡ 10 → (length (line_with field n) ≡ 41) × (drop 40 (line_with field n) ≡ 10 ∷ [])
unfolding line_with
long_line field n h =
    let a = aligned_long n in
    let l = length-append field (aligned n ++ 10 ∷ []) in
    let m = length-append (aligned n) (10 ∷ []) in
    (omega arith, last_byte field (aligned n) h a)

pub line_long : (word : List ℕ) (n : ℕ) → length word ≤ 10 → (length (line_of (row word n)) ≡ 41) × (drop 40 (line_of (row word n)) ≡ 10 ∷ [])
line_long word n h = long_line (padded word) n (padded_long word h)

-- ---- the line of a word, which is padded, and a number
line_is : (field line r : List ℕ) (n : ℕ) → length field ≡ 10 → line ≡ over field blank → r ≡ take (40 - length (numeral n)) line ++ (numeral n ++ drop 40 line) → r ≡ line_with field n
unfolding over line_with aligned
line_is field line r n h e f =
    let m = numeral_most n in
    let g = length (numeral n) in
    let w : line ≡ field ++ (spaces 30 ++ 10 ∷ []) = e ∙ ap (λ (k : ℕ). field ++ drop k blank) h in
    let a : 40 - g ≡ length field + (30 - g) = omega arith in
    let b : 30 ≡ 30 - g + g = omega arith in
    let front : take (40 - g) line ≡ field ++ spaces (30 - g) =
    ap (λ (k : ℕ). take k line) a
    ∙ ap (take (length field + (30 - g))) w
    ∙ take-append-add field (spaces 30 ++ 10 ∷ []) (30 - g)
    ∙ ap (λ (l : List ℕ). field ++ l) (ap (λ (k : ℕ). take (30 - g) (spaces k ++ 10 ∷ [])) b ∙ taken (30 - g) g (10 ∷ [])) in
    let back : drop 40 line ≡ 10 ∷ [] = ap (drop 40) w ∙ last_byte field (spaces 30) h refl in
    f
    ∙ ap (λ (l : List ℕ). l ++ (numeral n ++ drop 40 line)) front
    ∙ ap (λ (l : List ℕ). (field ++ spaces (30 - g)) ++ (numeral n ++ l)) back
    ∙ append_assoc field (spaces (30 - g)) (numeral n ++ 10 ∷ [])
    ∙ ap (λ (l : List ℕ). field ++ l) (sym (append_assoc (spaces (30 - g)) (numeral n) (10 ∷ [])))

-- put on a blank line, with the number over its end
pub line_made : {before line r : List ℕ} {m : ℕ} (field : List ℕ) (n : ℕ) → length field ≡ 10 → PutIn before 0 field line m → before ≡ blank
    → r ≡ take (40 - length (numeral n)) line ++ (numeral n ++ drop 40 line)
    → r ≡ line_with field n
line_made {before} {line} {r} {m} field n h p b e =
    let p' : PutIn blank 0 field line m = subst (λ (l : List ℕ). PutIn l 0 field line m) b p in
    line_is field line r n h (puts_over (omega arith) p').holds e
