-- The field that starts at a place of a line, by the bytes from there on, where the line ends as if a comma followed. Assumes nothing.
use mathlib.Core.Path.{◌≡◌, refl, sym, ap, ◌∙◌}
use mathlib.Core.Bool.{Bool, true, false, cond}
use mathlib.Core.List.{List, [], ◌∷◌}
use mathlib.Core.Option.{none, some}
use Prim.Native.Nat.{ℕ, zero, suc, ◌+◌, ◌-◌, ◌*◌, ◌≤◌, ◌<◌}
use native.Mathlib.Numerals.{add-one}
use native.Mathlib.Nat.{le_of_suc-le-suc, not-suc-le-zero}
use native.Mathlib.Omega.{arith}
use lib.Dec.{leb, ltb, eqb}
use lib.ListN.{length, get_or, drop, drop_of_length-le, get_or-eq_default}
use lib.Seq.{drop-cons}
use borrow.Author.Tests.{le-leb, lt-leb, leb-true, leb-false, ltb-true, ltb-false, eqb-true, eqb-false, eq-eqb, ne_eqb}
use Rattle.ring_reading.specs.Numbers.{is_digit, number_of}
use Rattle.ring_reading.specs.Fields.{onto, cut, fields_of}
use Rattle.ring_reading.specs.Inner.{fields_from, first_number, later_fields, Bytes}
use Rattle.ring_reading.proofs.Numbers.{digit_range, digit_no_comma, no_digits, first_no_digit, zero_then_more, second_no_digit, third_no_digit, four_digits, one_digit, two_digits, three_digits_lem}

-- a byte within a line does not turn on what stands past its end
pub within : (line : List ℕ) (at d e : ℕ) → at < length line → get_or line at d ≡ get_or line at e
within [] at d e h = absurd (not-suc-le-zero h)
within (b ∷ line) zero d e h = refl
within (b ∷ line) (suc at) d e h = within line at d e (le_of_suc-le-suc h)

-- ---- the first field of a text, and the others
pub first : List ℕ → List ℕ
first [] = []
first (b ∷ text) =
    let field = first text in
    cond (eqb b 44) [] (b ∷ field)

pub others : List ℕ → List (List ℕ)
others [] = []
others (b ∷ text) =
    let later = others text in
    cond (eqb b 44) (cut 44 ([] ∷ []) text) later

parts : (text : List ℕ) → cut 44 ([] ∷ []) text ≡ first text ∷ others text
unfolding cut first others
parts [] = refl
parts (b ∷ text) = go (eqb b 44) (parts text)
  where
    go : (t : Bool) → cut 44 ([] ∷ []) text ≡ first text ∷ others text
        → cond t ([] ∷ cut 44 ([] ∷ []) text) (onto b (cut 44 ([] ∷ []) text)) ≡ cond t [] (b ∷ first text) ∷ cond t (cut 44 ([] ∷ []) text) (others text)
    go true e = refl
    go false e = ap (onto b) e

-- a second byte that goes on with a number
pub record Two (a b : ℕ) : Type 0 where
  pub more : b ≡ 44 → ⊥
  pub leading : a ≡ 48 → ⊥
  pub digit : is_digit b ≡ true

module _ (line : List ℕ) where
  -- what is no comma stands within the line
  inside : (at a : ℕ) → a ≡ get_or line at 44 → (a ≡ 44 → ⊥) → at < length line
  inside at a e n = go (ltb at (length line)) refl
    where
      go : (t : Bool) → ltb at (length line) ≡ t → at < length line
      go true h = ltb-true at (length line) h
      go false h = absurd (n (e ∙ get_or-eq_default line 44 (ltb-false at (length line) h)))

  -- past the line's end there is no field
  pub beyond : (at : ℕ) → length line < at → fields_from line at ≡ []
  unfolding fields_from
  beyond at h = rw (lt-leb at (length line) h)

  pub from : (at : ℕ) → at ≤ length line → fields_from line at ≡ first (drop at line) ∷ others (drop at line)
  unfolding fields_from fields_of
  from at h = rw (le-leb at (length line) h) (parts (drop at line))

  split : (at : ℕ) → at < length line → drop at line ≡ get_or line at 44 ∷ drop (at + 1) line
  split at h = rw add-one (drop-cons line at 44 h)

  -- a byte that is no comma is the next of the field
  on_first : (at a : ℕ) → a ≡ get_or line at 44 → (a ≡ 44 → ⊥) → first (drop at line) ≡ a ∷ first (drop (at + 1) line)
  unfolding first
  on_first at a e n = ap first (split at (inside at a e n)) ∙ rw (← e, ne_eqb a 44 n)

  on_others : (at a : ℕ) → a ≡ get_or line at 44 → (a ≡ 44 → ⊥) → others (drop at line) ≡ others (drop (at + 1) line)
  unfolding others
  on_others at a e n = ap others (split at (inside at a e n)) ∙ rw (← e, ne_eqb a 44 n)

  -- a comma, or the line's end, ends the field
  end_first : (at : ℕ) → get_or line at 44 ≡ 44 → first (drop at line) ≡ []
  unfolding first
  end_first at e = go (ltb at (length line)) refl
    where
      go : (t : Bool) → ltb at (length line) ≡ t → first (drop at line) ≡ []
      go true h = ap first (split at (ltb-true at (length line) h)) ∙ rw (eq-eqb (get_or line at 44) 44 e)
      go false h = ap first (drop_of_length-le line (ltb-false at (length line) h))

  end_others : (at : ℕ) → at ≤ length line → get_or line at 44 ≡ 44 → others (drop at line) ≡ fields_from line (at + 1)
  unfolding others fields_from fields_of
  end_others at l e = go (ltb at (length line)) refl
    where
      go : (t : Bool) → ltb at (length line) ≡ t → others (drop at line) ≡ cond (leb (at + 1) (length line)) (cut 44 ([] ∷ []) (drop (at + 1) line)) []
      go true h =
          let u = ltb-true at (length line) h in
          let v : at + 1 ≤ length line = omega arith in
          ap others (split at u) ∙ rw (eq-eqb (get_or line at 44) 44 e, le-leb (at + 1) (length line) v)
      go false h =
          let u = ltb-false at (length line) h in
          let v : length line < at + 1 = omega arith in
          ap others (drop_of_length-le line u) ∙ rw (lt-leb (at + 1) (length line) v)

  -- a field starts with a digit
  pub found_none : (at a : ℕ) → a ≡ get_or line at 44 → is_digit a ≡ false → first_number (fields_from line at) ≡ none
  found_none at a ea h = go (leb at (length line)) refl (eqb a 44) refl
    where
      go : (t : Bool) → leb at (length line) ≡ t → (s : Bool) → eqb a 44 ≡ s → first_number (fields_from line at) ≡ none
      go false u s v = ap first_number (beyond at (leb-false at (length line) u))
      go true u true v = ap first_number (from at (leb-true at (length line) u)) ∙ ap number_of (end_first at (sym ea ∙ eqb-true a 44 v)) ∙ no_digits
      go true u false v =
          ap first_number (from at (leb-true at (length line) u)) ∙ ap number_of (on_first at a ea (eqb-false a 44 v)) ∙ first_no_digit a (first (drop (at + 1) line)) h

  -- a digit stands within the line
  pub starts : (at a : ℕ) → a ≡ get_or line at 44 → is_digit a ≡ true → at < length line
  starts at a ea da = inside at a ea (digit_no_comma a da)

-- ---- what the field at a place is, by its bytes a, b, c and d, of which a is a digit
module _ {line : List ℕ} {at a b c d : ℕ} (bytes : Bytes line at a b c d) (da : is_digit a ≡ true) where
  fields_one : fields_from line at ≡ (a ∷ first (drop (at + 1) line)) ∷ others (drop (at + 1) line)
  fields_one =
      let h = starts line at a bytes.first da in
      let l : at ≤ length line = omega arith in
      from line at l ∙ rw (on_first line at a bytes.first (digit_no_comma a da), on_others line at a bytes.first (digit_no_comma a da))

  pub found_one : (n : ℕ) → n ≡ a - 48 → b ≡ 44
      → (n < 1000) × ((first_number (fields_from line at) ≡ some n) × (later_fields (fields_from line at) ≡ fields_from line (at + 2)))
  found_one n en e =
      let r = digit_range a da in
      let h = starts line at a bytes.first da in
      let l : at + 1 ≤ length line = omega arith in
      let two : at + 1 + 1 ≡ at + 2 = omega arith in (
        omega arith,
        (
          ap first_number fields_one ∙ ap (λ (f : List ℕ). number_of (a ∷ f)) (end_first line (at + 1) (sym bytes.second ∙ e)) ∙ one_digit a da ∙ ap some (sym en),
          ap later_fields fields_one ∙ end_others line (at + 1) l (sym bytes.second ∙ e) ∙ ap (fields_from line) two,
        ),
      )

  module _ (nb : b ≡ 44 → ⊥) where
    fields_two : fields_from line at ≡ (a ∷ b ∷ first (drop (at + 2) line)) ∷ others (drop (at + 2) line)
    fields_two =
        let two : at + 1 + 1 ≡ at + 2 = omega arith in
        fields_one ∙ rw (on_first line (at + 1) b bytes.second nb, on_others line (at + 1) b bytes.second nb, two)

    pub found_zero : a ≡ 48 → first_number (fields_from line at) ≡ none
    found_zero z = ap first_number fields_two ∙ zero_then_more a b (first (drop (at + 2) line)) z

    pub found_second : is_digit b ≡ false → first_number (fields_from line at) ≡ none
    found_second h = ap first_number fields_two ∙ second_no_digit a b (first (drop (at + 2) line)) h

  module _ (two : Two a b) where
    pub found_two : (m n : ℕ) → m ≡ a - 48 → n ≡ b - 48 → c ≡ 44
        → (m * 10 + n < 1000) × ((first_number (fields_from line at) ≡ some (m * 10 + n)) × (later_fields (fields_from line at) ≡ fields_from line (at + 3)))
    found_two m n em en e =
        let r = digit_range a da in
        let s = digit_range b two.digit in
        let h = inside line (at + 1) b bytes.second two.more in
        let l : at + 2 ≤ length line = omega arith in
        let three : at + 2 + 1 ≡ at + 3 = omega arith in (
          omega arith,
          (
            ap first_number (fields_two two.more) ∙ ap (λ (f : List ℕ). number_of (a ∷ b ∷ f)) (end_first line (at + 2) (sym bytes.third ∙ e))
                ∙ two_digits a b da two.leading two.digit
                ∙ rw (← em, ← en),
            ap later_fields (fields_two two.more) ∙ end_others line (at + 2) l (sym bytes.third ∙ e) ∙ ap (fields_from line) three,
          ),
        )

    module _ (nc : c ≡ 44 → ⊥) where
      fields_three : fields_from line at ≡ (a ∷ b ∷ c ∷ first (drop (at + 3) line)) ∷ others (drop (at + 3) line)
      fields_three =
          let three : at + 2 + 1 ≡ at + 3 = omega arith in
          fields_two two.more ∙ rw (on_first line (at + 2) c bytes.third nc, on_others line (at + 2) c bytes.third nc, three)

      pub found_third : is_digit c ≡ false → first_number (fields_from line at) ≡ none
      found_third h = ap first_number fields_three ∙ third_no_digit a b c (first (drop (at + 3) line)) h

      module _ (dc : is_digit c ≡ true) where
        pub found_three : (m n p : ℕ) → m ≡ a - 48 → n ≡ b - 48 → p ≡ c - 48 → d ≡ 44
            → (m * 100 + n * 10 + p < 1000)
            × ((first_number (fields_from line at) ≡ some (m * 100 + n * 10 + p)) × (later_fields (fields_from line at) ≡ fields_from line (at + 4)))
        found_three m n p em en ep e =
            let r = digit_range a da in
            let s = digit_range b two.digit in
            let t = digit_range c dc in
            let h = inside line (at + 2) c bytes.third nc in
            let l : at + 3 ≤ length line = omega arith in
            let four : at + 3 + 1 ≡ at + 4 = omega arith in (
              omega arith,
              (
                ap first_number fields_three ∙ ap (λ (f : List ℕ). number_of (a ∷ b ∷ c ∷ f)) (end_first line (at + 3) (sym bytes.fourth ∙ e))
                    ∙ three_digits_lem a b c da two.leading two.digit dc
                    ∙ rw (← em, ← en, ← ep),
                ap later_fields fields_three ∙ end_others line (at + 3) l (sym bytes.fourth ∙ e) ∙ ap (fields_from line) four,
              ),
            )

        pub found_four : (d ≡ 44 → ⊥) → first_number (fields_from line at) ≡ none
        found_four n =
            ap first_number fields_three ∙ ap (λ (f : List ℕ). number_of (a ∷ b ∷ c ∷ f)) (on_first line (at + 3) d bytes.fourth n)
            ∙ four_digits a b c d (first (drop (at + 3 + 1) line))
