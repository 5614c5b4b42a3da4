-- A line is read number by number: the first that is missing makes it malformed, and after four the entries must be just as many as the first says. Assumes nothing.
use mathlib.Core.Path.{◌≡◌, refl, sym, ap, ◌∙◌}
use mathlib.Core.Bool.{Bool, true, false, cond}
use mathlib.Core.List.{List, [], ◌∷◌, ◌++◌, map, append_assoc}
use mathlib.Core.Option.{Option, none, some}
use Rattle.std.specs.Prelude.{Some, None}
use Prim.Native.Nat.{ℕ, zero, suc, ◌≤◌, ◌<◌}
use native.Mathlib.Omega.{arith}
use lib.Dec.{eqb}
use lib.Ieee.{Float}
use lib.ListN.{length, drop}
use lib.Seq.{take_at}
use borrow.Author.Tests.{le-leb, lt-leb, eq-eqb, ne_eqb, eqb-true, eqb-false}
use Rattle.limits.specs.Taken.{f32_of}
use Rattle.text.specs.Put.{over}
use Rattle.ring_reading.specs.Numbers.{number_of}
use Rattle.ring_reading.specs.Fields.{fields_of, joined, numbers_of, malformed, asks, shaped, line_of}
use Rattle.ring_reading.specs.Reads.{no_row, LineRead}
use Rattle.ring_reading.specs.Inner.{fields_from, first_number, later_fields, Finds, entered, entries_of, with_entries, Heads}
use Rattle.ring_reading.specs.declared.Field.{Field}
use Rattle.ring_reading.specs.declared.Head.{Head}

-- numbers that were read before others
abbrev pub after : List ℕ → Option (List ℕ) → Option (List ℕ)
after got none = none
after got (some more) = some (got ++ more)

-- fewer than four numbers ask nothing
few : (got : List ℕ) → length got < 4 → shaped (some (got ++ [])) ≡ malformed
few [] h = refl
few (a ∷ []) h = refl
few (a ∷ b ∷ []) h = refl
few (a ∷ b ∷ c ∷ []) h = refl
few (a ∷ b ∷ c ∷ d ∷ more) h = absurd (omega arith)

miss : (got : List ℕ) (fields : List (List ℕ)) → length got < 4 → first_number fields ≡ none → shaped (after got (numbers_of fields)) ≡ malformed
unfolding numbers_of
miss got [] h e = few got h
miss got (field ∷ fields) h e = rw e

hit : (got : List ℕ) (fields : List (List ℕ)) (n : ℕ) → first_number fields ≡ some n → after got (numbers_of fields) ≡ after (got ++ n ∷ []) (numbers_of (later_fields fields))
unfolding numbers_of
hit got [] n e = let z : ◌≡◌ {A = Option ℕ} none (some n) = e in cc
hit got (field ∷ fields) n e = rw e (go (numbers_of fields))
  where
    go : (rest : Option (List ℕ)) → after got (joined (some n) rest) ≡ after (got ++ n ∷ []) rest
    go none = refl
    go (some more) = ap some (sym (append_assoc got (n ∷ []) more))

-- ---- the entries are just as many as they must be
suc_eqb : (a b : ℕ) → eqb (suc a) (suc b) ≡ eqb a b
suc_eqb a b = go (eqb a b) refl
  where
    go : (t : Bool) → eqb a b ≡ t → eqb (suc a) (suc b) ≡ t
    go true e = eq-eqb (suc a) (suc b) (ap suc (eqb-true a b e))
    go false e = let n = eqb-false a b e in ne_eqb (suc a) (suc b) (λ h. let k : a ≡ b = omega arith in n k)

exactly : ℕ → Option (List ℕ) → Option (List Float)
exactly n none = none
exactly n (some ns) = cond (eqb (length ns) n) (some (map f32_of ns)) none

exact : (n : ℕ) (fields : List (List ℕ)) → entries_of n fields ≡ exactly n (numbers_of fields)
unfolding entries_of numbers_of exactly
exact zero [] = refl
exact zero (field ∷ fields) = go (number_of field) (numbers_of fields)
  where
    go : (a : Option ℕ) (b : Option (List ℕ)) → none ≡ exactly zero (joined a b)
    go none b = refl
    go (some m) none = refl
    go (some m) (some ns) = rw (ne_eqb (suc (length ns)) zero (λ e. omega arith))
exact (suc n) [] = rw (ne_eqb zero (suc n) (λ e. omega arith))
exact (suc n) (field ∷ fields) = rw (exact n fields) (go (number_of field) (numbers_of fields))
  where
    go : (a : Option ℕ) (b : Option (List ℕ)) → entered a (exactly n b) ≡ exactly (suc n) (joined a b)
    go none b = refl
    go (some m) none = refl
    go (some m) (some ns) = rw (suc_eqb (length ns) n) (pick (eqb (length ns) n))
      where
        pick : (t : Bool) → entered (some m) (cond t (some (map f32_of ns)) none) ≡ cond t (some (f32_of m ∷ map f32_of ns)) none
        pick true = refl
        pick false = refl

four : (n k step c : ℕ) (fields : List (List ℕ)) → shaped (after (n ∷ k ∷ step ∷ c ∷ []) (numbers_of fields)) ≡ with_entries k step c (entries_of n fields)
unfolding exactly
four n k step c fields = rw (exact n fields) (go (numbers_of fields))
  where
    go : (ns : Option (List ℕ)) → shaped (after (n ∷ k ∷ step ∷ c ∷ []) ns) ≡ with_entries k step c (exactly n ns)
    go none = refl
    go (some entries) = pick (eqb (length entries) n)
      where
        pick : (t : Bool) → cond t (asks k step (f32_of c) (map f32_of entries)) malformed ≡ with_entries k step c (cond t (some (map f32_of entries)) none)
        pick true = refl
        pick false = refl

-- ---- the numbers that a line starts with, and where the fields after them start
pub record Begins (line got : List ℕ) (at : ℕ) : Type 0 where
  pub shape : shaped (numbers_of (fields_of line)) ≡ shaped (after got (numbers_of (fields_from line at)))

-- before the first
pub begins : (line : List ℕ) → Begins line [] 0
unfolding fields_from
begins line = record { shape = rw (le-leb 0 (length line) (omega arith)) (go (numbers_of (fields_of line))) }
  where
    go : (ns : Option (List ℕ)) → shaped ns ≡ shaped (after [] ns)
    go none = refl
    go (some ns) = refl

module _ {line got : List ℕ} {at : ℕ} (b : Begins line got at) where
  -- one more
  pub begins_next : (f : Field) → Finds line at (Some f) → Begins line (got ++ f.number ∷ []) f.next
  begins_next f g = record { shape = b.shape ∙ ap shaped (hit got (fields_from line at) f.number g.1.0) ∙ rw g.1.1 }

  -- one is missing
  pub begins_missing : length got < 4 → Finds line at None → shaped (numbers_of (fields_of line)) ≡ malformed
  begins_missing h f = b.shape ∙ miss got (fields_from line at) h f

-- after the four
pub begins_entries : {line : List ℕ} {n k step c at : ℕ} → Begins line (n ∷ k ∷ step ∷ c ∷ []) at
    → shaped (numbers_of (fields_of line)) ≡ with_entries k step c (entries_of n (fields_from line at))
begins_entries {line} {n} {k} {step} {c} {at} b = b.shape ∙ four n k step c (fields_from line at)

-- ---- what is read of a line: nothing, or what its four numbers and its entries ask
pub read_malformed : LineRead malformed None
read_malformed = record { asking = refl; holds = tt; few = omega arith }

pub too_long : (line : List ℕ) → 4096 < length line → LineRead (line_of line) None
unfolding line_of
too_long line h = rw (lt-leb (length line) 4096 h) read_malformed

module _ (line : List ℕ) (short : length line ≤ 4096) where
  whole : line_of line ≡ shaped (numbers_of (fields_of line))
  unfolding line_of
  whole = rw (le-leb (length line) 4096 short)

  pub no_head : Heads line None → LineRead (line_of line) None
  no_head e = rw (whole ∙ e) read_malformed

  pub by_entries : (h : Head) → Heads line (Some h) → {r : _} → LineRead (with_entries h.k h.step h.c (entries_of h.length (fields_from line h.entries))) r → LineRead (line_of line) r
  by_entries h known m = rw (whole ∙ known.1) m

-- ---- what is read of its entries
pub wrong_entries : (k step c : ℕ) {found : Option (List Float)} → found ≡ none → LineRead (with_entries k step c found) None
wrong_entries k step c e = rw e read_malformed

pub well_formed : {n k step : ℕ} (c : ℕ) {found : Option (List Float)} (items : List Float) {zeros : List Float} {places : ℕ} → n ≤ 999 → places ≡ n → length items ≡ n → zeros ≡ no_row → found ≡ some items
    → LineRead (with_entries k step c found) (Some (record { length = n; k = k; step = step; c = f32_of c; row = items ++ drop places zeros }))
unfolding over
well_formed {n} {k} {step} c items {zeros} {places} few same e z f =
    rw f
    (record {
      asking = ap (asks k step (f32_of c)) (take_at items (drop places zeros) n e);
      holds = rw (z, same, ← e);
      few = few;
    })
