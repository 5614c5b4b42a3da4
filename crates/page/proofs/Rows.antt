-- The rows of a page: the page of k hues has 41 × (5 + k) bytes, and 82 with none so far (`page_long`); and the rows of hues, one more at a time. Assumes nothing.
use mathlib.Core.Path.{◌≡◌, refl, ap, ◌∙◌}
use mathlib.Core.Bool.{true}
use mathlib.Core.List.{List, [], ◌∷◌, ◌++◌, map}
use Prim.Native.Nat.{ℕ, ◌+◌, ◌≤◌, ◌<◌}
use native.Mathlib.Numerals.{add-one}
use native.Mathlib.Omega.{arith}
use lib.ListN.{length, take, get_or, length-map}
use lib.Seq.{length-take-le, take-suc}
use Rattle.search_rules.specs.declared.Best.{Best}
use Rattle.search_rules.specs.declared.Best.TheVariants.{None, Found}
use Rattle.search_rules.specs.declared.Job.{Job}
use Rattle.search_rules.specs.Job.{unbroken}
use Rattle.search_rules.proofs.Unbroken.{unbroken_exactly}
use Rattle.text.specs.Put.{PutIn}
use Rattle.page_lines.specs.Lines.{Row, row, line_of, lines_of}
use Rattle.page_lines.proofs.Rows.{puts_next, Short, rows_long}
use Rattle.page.specs.Page.{hue_word, hue_rows, rows_with, page_of, bytes_with}

-- ---- how long a page is
hues_short : (hues : List ℕ) → Short (hue_rows hues)
hues_short [] = tt
hues_short (h ∷ hues) = (omega arith, hues_short hues)

pub bytes_are : (k : ℕ) (best : Best) (hues : List ℕ) → k ≤ length hues → length (lines_of (rows_with k best hues)) ≡ bytes_with k best
bytes_are k None hues h = rows_long (rows_with k None hues) (omega arith, (omega arith, tt))
bytes_are k (Found c d l) hues h =
    let m : length (hue_rows (take k hues)) ≡ k = length-map (take k hues) (row hue_word) ∙ length-take-le k hues h in
    rows_long (rows_with k (Found c d l) hues) (omega arith, (omega arith, (omega arith, (omega arith, (omega arith, hues_short (take k hues)))))) ∙ omega arith

pub few : (j : Job) → unbroken j ≡ true → j.settings.k ≤ 16
few j u = ((unbroken_exactly j).0 u).hue_count.1

pub page_long : (j : Job) → length j.hues ≡ 16 → unbroken j ≡ true → length (page_of j) ≡ bytes_with j.settings.k j.best
unfolding page_of
page_long j n u = let k = few j u in bytes_are j.settings.k j.best j.hues (omega arith)

-- ---- the rows of the hues
hues_next : (hues : List ℕ) (i : ℕ) → i < length hues → hue_rows (take (i + 1) hues) ≡ hue_rows (take i hues) ++ row hue_word (get_or hues i 0) ∷ []
hues_next hues i h = ap (λ (k : ℕ). hue_rows (take k hues)) (add-one i) ∙ ap hue_rows (take-suc hues i 0 h) ∙ mapped (take i hues)
  where
    mapped : (xs : List ℕ) → map (row hue_word) (xs ++ get_or hues i 0 ∷ []) ≡ map (row hue_word) xs ++ row hue_word (get_or hues i 0) ∷ []
    mapped [] = refl
    mapped (x ∷ xs) = ap (λ (l : List Row). row hue_word x ∷ l) (mapped xs)

pub puts_hue : {a b c : List ℕ} {at m n : ℕ} (hues : List ℕ) (i : ℕ) → i < length hues → PutIn a at (lines_of (hue_rows (take i hues))) b m → PutIn b m (line_of (row hue_word (get_or hues i 0))) c n
    → PutIn a at (lines_of (hue_rows (take (i + 1) hues))) c n
puts_hue hues i h p q = rw (hues_next hues i h) (puts_next (hue_rows (take i hues)) (row hue_word (get_or hues i 0)) p q)
