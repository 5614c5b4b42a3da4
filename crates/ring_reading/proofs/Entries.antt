-- The entries of a line, read one after the other into a row of zeros. Assumes nothing.
use mathlib.Core.Path.{◌≡◌, refl, sym, ap, ◌∙◌}
use mathlib.Core.List.{List, [], ◌∷◌, ◌++◌, append_assoc, append-nil}
use mathlib.Core.Option.{Option, none, some}
use Prim.Native.Nat.{ℕ, zero, suc, ◌+◌, ◌-◌, ◌≤◌, ◌<◌}
use native.Mathlib.Nat.{not-suc-le-zero, sub-zero}
use native.Mathlib.Numerals.{add-one}
use native.Mathlib.Omega.{arith}
use lib.Ieee.{Float}
use lib.ListN.{length, take, set, length-set, length-replicate}
use lib.Seq.{take_all, take-suc-set, length-take-le}
use Rattle.limits.specs.Taken.{f32_of}
use Rattle.ring_reading.specs.Inner.{fields_from, first_number, later_fields, entered, entries_of}
use Rattle.ring_reading.specs.Reads.{no_row}
use Rattle.ring_reading.proofs.Places.{beyond, from}

-- entries that were read before others
abbrev pub after : List Float → Option (List Float) → Option (List Float)
after row none = none
after row (some more) = some (row ++ more)

after_none : (rest : Option (List Float)) → after [] rest ≡ rest
after_none none = refl
after_none (some row) = refl

after_one : (row : List Float) (n : ℕ) (rest : Option (List Float)) → after row (entered (some n) rest) ≡ after (row ++ f32_of n ∷ []) rest
after_one row n none = refl
after_one row n (some more) = ap some (sym (append_assoc row (f32_of n ∷ []) more))

entries_miss : (m : ℕ) (fields : List (List ℕ)) → 0 < m → first_number fields ≡ none → entries_of m fields ≡ none
unfolding entries_of
entries_miss zero fields h e = absurd (not-suc-le-zero h)
entries_miss (suc m) [] h e = refl
entries_miss (suc m) (field ∷ fields) h e = rw e

entries_hit : (m n : ℕ) (fields : List (List ℕ)) → first_number fields ≡ some n → entries_of (suc m) fields ≡ entered (some n) (entries_of m (later_fields fields))
unfolding entries_of
entries_hit m n [] e = let z : ◌≡◌ {A = Option ℕ} none (some n) = e in cc
entries_hit m n (field ∷ fields) e = rw e

-- ---- i of so many entries are read, and these fields are left
pub record SoFar (whole : Option (List Float)) (count i : ℕ) (row : List Float) (fields : List (List ℕ)) : Type 0 where
  pub long : length row ≡ count
  pub splits : whole ≡ after (take i row) (entries_of (count - i) fields)

-- nothing is read yet
pub read_begins : (count places : ℕ) (row : List Float) (fields : List (List ℕ)) → count ≤ 999 → places ≡ count → row ≡ no_row → SoFar (entries_of count fields) count 0 (take places row) fields
unfolding no_row
read_begins count places row fields few same e =
    let l : length row ≡ 999 = ap length e ∙ length-replicate 999 (f32_of 0) in
    record { long = length-take-le places row (omega arith) ∙ same; splits = rw sub-zero (sym (after_none (entries_of count fields))) }

module _ {whole : Option (List Float)} {count i : ℕ} {row : List Float} {fields : List (List ℕ)} (s : SoFar whole count i row fields) where
  -- a field that is no number, or none where one must be
  pub read_fails : i < count → first_number fields ≡ none → whole ≡ none
  read_fails h e = let u : 0 < count - i = omega arith in s.splits ∙ ap (after (take i row)) (entries_miss (count - i) fields u e)

  -- one more entry
  pub read_next : (n : ℕ) (later : List (List ℕ)) → i < count → first_number fields ≡ some n → later_fields fields ≡ later → SoFar whole count (i + 1) (set row i (f32_of n)) later
  read_next n later h e f =
      let l = s.long in
      let u : count - i ≡ suc (count - (i + 1)) = omega arith in
      let k : i < length row = omega arith in
      let t : take (i + 1) (set row i (f32_of n)) ≡ take i row ++ (f32_of n ∷ []) = rw add-one (take-suc-set row i (f32_of n) k) in
      record {
        long = length-set row i (f32_of n) ∙ l;
        splits = s.splits
            ∙ ap (λ (m : ℕ). after (take i row) (entries_of m fields)) u
            ∙ ap (after (take i row)) (entries_hit (count - (i + 1)) n fields e)
            ∙ after_one (take i row) n (entries_of (count - (i + 1)) (later_fields fields))
            ∙ rw (t, f);
      }

-- all are read: where the line is at its end they are all that there are, and else it has too many
module _ {whole : Option (List Float)} {count i : ℕ} {row : List Float} (line : List ℕ) (at : ℕ) (s : SoFar whole count i row (fields_from line at)) (all : count ≤ i) where
  last : whole ≡ after row (entries_of 0 (fields_from line at))
  last =
      let l = s.long in
      let z : count - i ≡ 0 = omega arith in
      s.splits ∙ rw (z, take_all i row (omega arith))

  pub read_whole : length line < at → whole ≡ some row
  unfolding entries_of
  read_whole h = last ∙ rw (beyond line at h) (ap some (append-nil row))

  pub read_more : at ≤ length line → whole ≡ none
  unfolding entries_of
  read_more h = last ∙ rw (from line at h)
