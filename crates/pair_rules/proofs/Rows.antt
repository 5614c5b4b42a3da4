-- The row of least values is its entries, and its entries are taken where those of the rows are; the largest value of a row, one entry on and over entries that
-- are taken. Assumes nothing.
use mathlib.Core.Path.{◌≡◌, refl, sym, ap, ◌∙◌}
use mathlib.Core.Bool.{Bool, true, false, ◌&&◌, cond}
use mathlib.Core.List.{List, [], ◌∷◌}
use Prim.Native.Nat.{ℕ, zero, suc, ◌+◌, ◌≤◌, ◌<◌}
use native.Mathlib.Nat.{add-zero, zero-add, add-suc, suc-add, le_of_suc-le-suc, not-suc-le-zero}
use native.Mathlib.Numerals.{add-one}
use native.Mathlib.Omega.{arith}
use lib.Dec.{leb, eqb}
use lib.Ieee.{Float, nan, inf, fin, lt, of_int}
use lib.ListN.{length, get_or, drop, drop_of_length-le}
use lib.Seq.{drop-cons, ext_get_or}
use borrow.Author.Tests.{eqb-true}
use Rattle.limits.specs.Taken.{f32_of, entry_taken, every}
use Rattle.limits.proofs.HueCount.{both}
use Rattle.halving.proofs.Range.{UpTo, taken_up_to}
use Rattle.pair_rules.specs.Rows.{lesser, greater, least, value_at, each, ring_length, least_row, largest_from, largest, common}
use Rattle.pair_rules.specs.Pair.{alike, lengths_taken, entries_taken}

-- ---- f at n numbers
each_long : (f : ℕ → Float) (n j : ℕ) → length (each f n j) ≡ n
unfolding each
each_long f zero j = refl
each_long f (suc n) j = ap suc (each_long f n (suc j))

each_at : (f : ℕ → Float) (n j i : ℕ) → i < n → get_or (each f n j) i nan ≡ f (j + i)
unfolding each
each_at f zero j i h = absurd (not-suc-le-zero h)
each_at f (suc n) j zero h = ap f (sym (add-zero j))
each_at f (suc n) j (suc i) h = each_at f n (suc j) i (le_of_suc-le-suc h) ∙ ap f (suc-add j i ∙ sym (add-suc j i))

-- ---- the row of least values
module _ (rows : List (List Float)) where
  pub least_long : length (least_row rows) ≡ ring_length rows
  unfolding least_row
  least_long = each_long (value_at rows) (ring_length rows) 0

  pub least_at : (i : ℕ) → i < ring_length rows → get_or (least_row rows) i nan ≡ value_at rows i
  unfolding least_row
  least_at i h = each_at (value_at rows) (ring_length rows) 0 i h ∙ ap (value_at rows) (zero-add i)

  pub least_is : (row : List Float) → length row ≡ ring_length rows → ((i : ℕ) → i < ring_length rows → get_or row i nan ≡ value_at rows i) → row ≡ least_row rows
  least_is row e f =
      let n = ring_length rows in
      ext_get_or nan row (least_row rows) (e ∙ sym least_long) (λ (i : ℕ) (h : i < length row). let u : i < n = omega arith in f i u ∙ sym (least_at i u))

-- the value at a hue of one row, and of two
no_more : (x : Float) → lesser x (inf false) ≡ x
unfolding lesser lt
no_more nan = refl
no_more (inf s) = refl
no_more (fin s m e) = refl

-- one row is its own row of least values
pub least_of_one : (row : List Float) → least_row (row ∷ []) ≡ row
unfolding value_at least
least_of_one row = sym (least_is (row ∷ []) row refl (λ (i : ℕ) (h : i < length row). sym (no_more (get_or row i nan))))

pub of_two : (a b : List Float) (i : ℕ) → value_at (a ∷ b ∷ []) i ≡ lesser (get_or a i nan) (get_or b i nan)
unfolding value_at least
of_two a b i = ap (lesser (get_or a i nan)) (no_more (get_or b i nan))

-- what two hues have in common
pub common_of_two : (rows : List (List Float)) (i j : ℕ) → common rows (i ∷ j ∷ []) ≡ lesser (value_at rows i) (value_at rows j)
unfolding common least
common_of_two rows i j = ap (lesser (value_at rows i)) (no_more (value_at rows j))

-- ---- entries that are taken
pub every_at : (p : Float → Bool) (xs : List Float) (i : ℕ) → every p xs ≡ true → i < length xs → p (get_or xs i nan) ≡ true
unfolding every
every_at p [] i h l = absurd (not-suc-le-zero l)
every_at p (x ∷ xs) zero h l = (both (p x) (every p xs) h).0
every_at p (x ∷ xs) (suc i) h l = every_at p xs i (both (p x) (every p xs) h).1 (le_of_suc-le-suc l)

lesser_taken : (p : Float → Bool) (x y : Float) → p x ≡ true → p y ≡ true → p (lesser x y) ≡ true
unfolding lesser
lesser_taken p x y t u = go (lt y x)
  where
    go : (b : Bool) → p (cond b y x) ≡ true
    go true = u
    go false = t

first_taken : (rows : List (List Float)) (row : List Float) (i n : ℕ) → i < n → alike n (row ∷ rows) ≡ true → entries_taken (row ∷ rows) ≡ true → (entry_taken (get_or row i nan) ≡ true) × (alike n rows ≡ true) × (entries_taken rows ≡ true)
unfolding alike entries_taken
first_taken rows row i n h a e =
    let l = both (eqb (length row) n) (alike n rows) a in
    let t = both (every entry_taken row) (entries_taken rows) e in
    let same : length row ≡ n = eqb-true (length row) n l.0 in
    (every_at entry_taken row i t.0 (omega arith), l.1, t.1)

value_taken : (rows : List (List Float)) (row : List Float) (i n : ℕ) → i < n → alike n (row ∷ rows) ≡ true → entries_taken (row ∷ rows) ≡ true → entry_taken (value_at (row ∷ rows) i) ≡ true
unfolding value_at least
value_taken [] row i n h a e = ap entry_taken (no_more (get_or row i nan)) ∙ (first_taken [] row i n h a e).0
value_taken (next ∷ rows) row i n h a e =
    let t = first_taken (next ∷ rows) row i n h a e in
    lesser_taken entry_taken (get_or row i nan) (value_at (next ∷ rows) i) t.0 (value_taken rows next i n h t.1 t.2)

each_taken : (p : Float → Bool) (f : ℕ → Float) (n j m : ℕ) → j + n ≤ m → ((i : ℕ) → i < m → p (f i) ≡ true) → every p (each f n j) ≡ true
unfolding every each
each_taken p f zero j m h t = refl
each_taken p f (suc n) j m h t =
    let here : p (f j) ≡ true = t j (omega arith) in
    let later : every p (each f n (suc j)) ≡ true = each_taken p f n (suc j) m (omega arith) t in
    rw (here, later)

pub least_taken : (rows : List (List Float)) → lengths_taken rows ≡ true → entries_taken rows ≡ true → every entry_taken (least_row rows) ≡ true
unfolding least_row lengths_taken each every
least_taken [] l e = refl
least_taken (row ∷ rows) l e =
    let n = length row in
    let a = both (alike n (row ∷ rows)) (leb 1 n && leb n 720) l in
    each_taken entry_taken (value_at (row ∷ rows)) n 0 n (omega arith) (λ (i : ℕ) (h : i < n). value_taken rows row i n h a.0 e)

-- ---- the largest value
module _ (xs : List Float) (so : Float) (i : ℕ) (so_far : largest_from so (drop i xs) ≡ largest xs) where
  pub largest_next : i < length xs → largest_from (greater so (get_or xs i nan)) (drop (i + 1) xs) ≡ largest xs
  unfolding largest_from
  largest_next at =
      ap (λ (n : ℕ). largest_from (greater so (get_or xs i nan)) (drop n xs)) (add-one i) ∙ sym (ap (largest_from so) (drop-cons xs i nan at)) ∙ so_far

  pub largest_done : length xs ≤ i → so ≡ largest xs
  unfolding largest_from
  largest_done h = sym (ap (largest_from so) (drop_of_length-le xs h)) ∙ so_far

greater_up_to : (b : ℕ) (x y : Float) → UpTo b x → UpTo b y → UpTo b (greater x y)
unfolding greater
greater_up_to b x y p q = go (lt x y)
  where
    go : (t : Bool) → UpTo b (cond t y x)
    go true = q
    go false = p

entry_up_to : (x : Float) → entry_taken x ≡ true → UpTo 200 x
unfolding entry_taken
entry_up_to x h = taken_up_to 200 x (omega arith) h

from_up_to : (xs : List Float) (so : Float) → UpTo 200 so → every entry_taken xs ≡ true → UpTo 200 (largest_from so xs)
unfolding largest_from every
from_up_to [] so p h = p
from_up_to (x ∷ xs) so p h =
    let t = both (entry_taken x) (every entry_taken xs) h in
    from_up_to xs (greater so x) (greater_up_to 200 so x p (entry_up_to x t.0)) t.1

zero_up_to : UpTo 200 (f32_of 0)
unfolding of_int
zero_up_to = omega arith

pub largest_up_to : (xs : List Float) → every entry_taken xs ≡ true → UpTo 200 (largest xs)
unfolding largest
largest_up_to xs h = from_up_to xs (f32_of 0) zero_up_to h
