-- The parts of a page put one after the other, and the whole page laid over the front of a buffer, or refused. Assumes nothing.
use mathlib.Core.Path.{◌≡◌, ap, subst}
use mathlib.Core.Bool.{true, false}
use mathlib.Core.List.{List, [], ◌∷◌, ◌++◌}
use Prim.Native.Nat.{ℕ, ◌*◌, ◌/◌, ◌%◌, ◌≤◌, ◌<◌}
use native.Mathlib.Omega.{arith}
use lib.Dec.{leb}
use lib.Ieee.{Float}
use lib.ListN.{length, take}
use borrow.Author.Tests.{le-leb, lt-leb}
use Rattle.limits.specs.Answers.{value, refused}
use Rattle.search_rules.specs.declared.Best.{Best}
use Rattle.search_rules.specs.declared.Best.TheVariants.{None, Found}
use Rattle.search_rules.specs.declared.Job.{Job}
use Rattle.search_rules.specs.Job.{unbroken}
use Rattle.search_rules.specs.Accepted.{BestWithin}
use Rattle.search_rules.proofs.Unbroken.{unbroken_exactly}
use Rattle.text.specs.Put.{PutIn}
use Rattle.text.proofs.Put.{puts_over}
use Rattle.page.specs.Chroma.{units_of, hundredths, remainder}
use Rattle.page_lines.specs.Lines.{row, line_of, lines_of}
use Rattle.page_lines.proofs.Rows.{puts_two, puts_rows}
use Rattle.page.specs.Page.{hues_word, dark_word, light_word, chroma_word, rest_word, hue_rows, rows_with, rows_of, page_of, bytes_with, page_says, page_after}
use Rattle.page.specs.Inner.{ChromaWithin}
use Rattle.page.proofs.Rows.{page_long}

-- the chroma and its rest
pub puts_chroma : {a b d : List ℕ} {at m r : ℕ} (c : Float) (n h t : ℕ) → n ≡ 100 * units_of c → PutIn a at (line_of (row chroma_word h)) b m → h ≡ n / 262144 → PutIn b m (line_of (row rest_word t)) d r → t ≡ n % 262144
    → PutIn a at (lines_of (row chroma_word (hundredths c) ∷ row rest_word (remainder c) ∷ [])) d r
unfolding hundredths remainder
puts_chroma {a} {b} {d} {at} {m} {r} c n h t e p f q g =
    let both = puts_two (row chroma_word h) (row rest_word t) p q in
    rw (← e) (subst (λ (x : ℕ). PutIn a at (lines_of (row chroma_word (n / 262144) ∷ row rest_word x ∷ [])) d r) g (subst (λ (x : ℕ). PutIn a at (lines_of (row chroma_word x ∷ row rest_word t ∷ [])) d r) f both))

-- the three parts of a page
pub puts_found : {a b d e : List ℕ} {i j r : ℕ} (k dark light : ℕ) (c : Float) (hues : List ℕ) → PutIn a 0 (lines_of (row hues_word k ∷ row dark_word dark ∷ row light_word light ∷ [])) b i
    → PutIn b i (lines_of (row chroma_word (hundredths c) ∷ row rest_word (remainder c) ∷ [])) d j → PutIn d j (lines_of (hue_rows (take k hues))) e r
    → PutIn a 0 (lines_of (rows_with k (Found c dark light) hues)) e r
puts_found k dark light c hues p q u =
    let first = row hues_word k ∷ row dark_word dark ∷ row light_word light ∷ [] in
    let second = row chroma_word (hundredths c) ∷ row rest_word (remainder c) ∷ [] in
    puts_rows (first ++ second) (hue_rows (take k hues)) (puts_rows first second p q) u

-- ---- what is known of a record that is not broken
module _ (j : Job) (u : unbroken j ≡ true) where
  pub within : ChromaWithin j.best
  within = go j.best ((unbroken_exactly j).0 u).best
    where
      go : (best : Best) → BestWithin j.levels best → ChromaWithin best
      go None w = tt
      go (Found c d l) w = (w.0, w.1.0)

-- ---- the whole page, or a refusal
module _ (j : Job) (before : List ℕ) where
  pub lays_broken : unbroken j ≡ false → (refused 15 ≡ page_says j (length before)) × (before ≡ page_after j before)
  unfolding page_says page_after
  lays_broken u = (rw u, rw u)

  module _ (long : length j.hues ≡ 16) (u : unbroken j ≡ true) where
    pub lays_short : length before < bytes_with j.settings.k j.best → (refused 19 ≡ page_says j (length before)) × (before ≡ page_after j before)
    unfolding page_says page_after
    lays_short h =
        let l = page_long j long u in
        let t : leb (length (page_of j)) (length before) ≡ false = lt-leb (length (page_of j)) (length before) (omega arith) in
        (rw (u, t), rw (u, t))

    pub lays_page : {after : List ℕ} {r : ℕ} → bytes_with j.settings.k j.best ≤ length before → PutIn before 0 (lines_of (rows_of j)) after r → (value r ≡ page_says j (length before)) × (after ≡ page_after j before)
    unfolding page_says page_after page_of
    lays_page {after} {r} h p =
        let l : length (lines_of (rows_of j)) ≡ bytes_with j.settings.k j.best = page_long j long u in
        let m : length (lines_of (rows_of j)) ≤ length before = omega arith in
        let t : leb (length (lines_of (rows_of j))) (length before) ≡ true = le-leb (length (lines_of (rows_of j))) (length before) m in
        let o = puts_over m p in
        (rw (u, t) (ap value o.counts), rw (u, t) o.holds)
