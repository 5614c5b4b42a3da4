-- A row is its 720 entries: the entry at each hue, and a row that has them all. Assumes nothing.
use mathlib.Core.Path.{◌≡◌, refl, sym, ap, ◌∙◌}
use mathlib.Core.List.{List}
use Prim.Native.Nat.{ℕ, zero, suc, ◌+◌, ◌<◌}
use native.Mathlib.Nat.{add-zero, zero-add, add-suc, suc-add, le_of_suc-le-suc, not-suc-le-zero}
use native.Mathlib.Omega.{arith}
use lib.Ieee.{Float, nan}
use lib.ListN.{length, get_or}
use lib.Seq.{ext_get_or}
use Rattle.gamut.specs.Gamut.{max_chroma, entries_from, row_of}

module _ (l : Float) (cs ss : List Float) where
  -- the entry at hue k
  abbrev pub entry : ℕ → Float
  entry k = max_chroma l (get_or cs k nan) (get_or ss k nan)

  entries_long : (n j : ℕ) → length (entries_from l cs ss n j) ≡ n
  unfolding entries_from
  entries_long zero j = refl
  entries_long (suc n) j = ap suc (entries_long n (suc j))

  entries_at : (n j k : ℕ) → k < n → get_or (entries_from l cs ss n j) k nan ≡ entry (j + k)
  unfolding entries_from
  entries_at zero j k h = absurd (not-suc-le-zero h)
  entries_at (suc n) j zero h = ap entry (sym (add-zero j))
  entries_at (suc n) j (suc k) h = entries_at n (suc j) k (le_of_suc-le-suc h) ∙ ap entry (suc-add j k ∙ sym (add-suc j k))

  pub row_long : length (row_of l cs ss) ≡ 720
  unfolding row_of
  row_long = entries_long 720 0

  pub row_at : (k : ℕ) → k < 720 → get_or (row_of l cs ss) k nan ≡ entry k
  unfolding row_of
  row_at k h = entries_at 720 0 k h ∙ ap entry (zero-add k)

  pub row_is : (row : List Float) → length row ≡ 720 → ((k : ℕ) → k < 720 → get_or row k nan ≡ entry k) → row ≡ row_of l cs ss
  row_is row e f = ext_get_or nan row (row_of l cs ss) (e ∙ sym row_long) (λ (k : ℕ) (h : k < length row). let u : k < 720 = omega arith in f k u ∙ sym (row_at k u))
