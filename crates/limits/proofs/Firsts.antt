-- A test of the first n numbers of a list, and of those after them, one number after the other: one on (`first_goes`, `rest_goes`) and at the end (`none_left`). Over any
-- such test. Assumes nothing.
use mathlib.Core.Path.{◌≡◌, sym, ap, ◌∙◌}
use mathlib.Core.Bool.{Bool, true, ◌&&◌}
use mathlib.Core.List.{List, [], ◌∷◌}
use Prim.Native.Nat.{ℕ, suc, ◌+◌, ◌-◌, ◌≤◌, ◌<◌}
use native.Mathlib.Numerals.{add-one}
use native.Mathlib.Omega.{arith}
use lib.ListN.{length, get_or, drop, drop_of_length-le}
use lib.Seq.{drop-cons}

-- what such a test says of the numbers from an index on
abbrev pub left : (ℕ → List ℕ → Bool) → ℕ → List ℕ → ℕ → Bool
left held n xs i = held (n - i) (drop i xs)

-- a test of each number, one of the first and one of the others
pub record Tests (held : ℕ → List ℕ → Bool) (first rest : ℕ → Bool) : Type 0 where
  pub at_end : (n : ℕ) → held n [] ≡ true
  pub at_first : (n x : ℕ) (xs : List ℕ) → held (suc n) (x ∷ xs) ≡ (first x && held n xs)
  pub at_rest : (x : ℕ) (xs : List ℕ) → held 0 (x ∷ xs) ≡ (rest x && held 0 xs)

module _ {held : ℕ → List ℕ → Bool} {first rest : ℕ → Bool} (t : Tests held first rest) (n : ℕ) (xs : List ℕ) (i : ℕ) where
  pub first_goes : (b : Bool) → i < length xs → i < n → first (get_or xs i 0) ≡ b → left held n xs i ≡ (b && left held n xs (i + 1))
  first_goes b at h e =
      let f : n - i ≡ suc (n - (i + 1)) = omega arith in
      ap (held (n - i)) (drop-cons xs i 0 at)
      ∙ ap (λ (m : ℕ). held m (get_or xs i 0 ∷ drop (suc i) xs)) f
      ∙ t.at_first (n - (i + 1)) (get_or xs i 0) (drop (suc i) xs)
      ∙ ap (λ (m : ℕ). first (get_or xs i 0) && held (n - (i + 1)) (drop m xs)) (sym (add-one i))
      ∙ ap (λ (c : Bool). c && left held n xs (i + 1)) e

  pub rest_goes : (b : Bool) → i < length xs → n ≤ i → rest (get_or xs i 0) ≡ b → left held n xs i ≡ (b && left held n xs (i + 1))
  rest_goes b at h e =
      let f : n - i ≡ 0 = omega arith in
      let g : 0 ≡ n - (i + 1) = omega arith in
      ap (held (n - i)) (drop-cons xs i 0 at)
      ∙ ap (λ (m : ℕ). held m (get_or xs i 0 ∷ drop (suc i) xs)) f
      ∙ t.at_rest (get_or xs i 0) (drop (suc i) xs)
      ∙ ap (λ (m : ℕ). rest (get_or xs i 0) && held m (drop (suc i) xs)) g
      ∙ ap (λ (m : ℕ). rest (get_or xs i 0) && held (n - (i + 1)) (drop m xs)) (sym (add-one i))
      ∙ ap (λ (c : Bool). c && left held n xs (i + 1)) e

  pub none_left : length xs ≤ i → left held n xs i ≡ true
  none_left h = ap (held (n - i)) (drop_of_length-le xs h) ∙ t.at_end (n - i)
