-- What is at least c: the least of some numbers, the value of a hue over the rows, what hues have in common. And k hues that are spaced and have at least c are k hues that
-- placement may take at c, over the row of least values and over each row. Assumes nothing.
use mathlib.Core.Path.{◌≡◌, refl, sym, ap, ◌∙◌, subst}
use mathlib.Core.Logic.{◌⊎◌, inl, inr}
use mathlib.Core.Bool.{Bool, true, false, ◌&&◌, cond}
use mathlib.Core.List.{List, [], ◌∷◌, map}
use Prim.Native.Nat.{ℕ, zero, suc, ◌%◌, ◌≤◌, ◌<◌}
use native.Mathlib.Nat.{le_of_suc-le-suc, not-suc-le-zero, mod-eq_of_lt, le_refl}
use native.Mathlib.Omega.{arith}
use lib.Dec.{leb, eqb}
use lib.IntN.{pos}
use lib.Ieee.{Float, nan, inf, binary32, is_nan, to_bits, lt, le, of_int}
use lib.Ieee.Fits.{nan-fits, inf-fits, cond-fits, of_int-fits}
use lib.ListN.{length, get_or}
use borrow.Author.Tests.{eqb-true, le-leb}
use Rattle.limits.specs.Taken.{f32_of, up_to, sign_clear, sign_bit, entry_taken, every}
use Rattle.limits.proofs.HueCount.{both}
use Rattle.limits.specs.Each.{Each, F32}
use Rattle.halving.proofs.Plain.{Plain, le_plain, le_through, not_lt_le, lt_then_le, infinity_above, taken_plain}
use Rattle.placement_rules.specs.Placing.{allowed_at}
use Rattle.placement_rules.specs.Spacing.{Spaced}
use Rattle.pair_rules.specs.Rows.{lesser, greater, least, value_at, ring_length, least_row, largest_from, largest, common}
use Rattle.pair_rules.specs.Pair.{alike, lengths_taken, entries_taken}
use Rattle.pair_rules.specs.Limit.{RowsF32, Hues}
use Rattle.pair_rules.proofs.Rows.{least_long, least_at, every_at, least_taken}

-- ---- each element of a list
pub each_map : {A B : Type 0} (P : B → Type 0) (f : A → B) (xs : List A) → Each (λ x. P (f x)) xs → Each P (map f xs)
each_map P f [] h = tt
each_map P f (x ∷ xs) h = (h.0, each_map P f xs h.1)

pub each_back : {A B : Type 0} (P : B → Type 0) (f : A → B) (xs : List A) → Each P (map f xs) → Each (λ x. P (f x)) xs
each_back P f [] h = tt
each_back P f (x ∷ xs) h = (h.0, each_back P f xs h.1)

pub each_in : (P : ℕ → Type 0) (is : List ℕ) → ((p : ℕ) → p < length is → P (get_or is p 0)) → Each P is
each_in P [] h = tt
each_in P (i ∷ is) h = (h 0 (omega arith), each_in P is (λ (p : ℕ) (l : p < length is). h (suc p) (omega arith)))

pub each_at : (P : ℕ → Type 0) (is : List ℕ) → Each P is → (p : ℕ) → p < length is → P (get_or is p 0)
each_at P [] h p l = absurd (not-suc-le-zero l)
each_at P (i ∷ is) h zero l = h.0
each_at P (i ∷ is) h (suc p) l = each_at P is h.1 p (le_of_suc-le-suc l)

-- ---- the lesser of x and y, which may be the infinity
abbrev Up : Float → Type 0
Up y = Plain y ⊎ (y ≡ inf false)

module _ (c x : Float) (C : Plain c) (X : Plain x) where
  abbrev Both : Float → Type 0
  Both y = (le c x ≡ true) × (le c y ≡ true)

  of_lesser : (y : Float) → Up y → le c (lesser x y) ≡ true → Both y
  unfolding lesser
  of_lesser y (inr e) h =
      let z : lt y x ≡ false = ap (λ (w : Float). lt w x) e ∙ (infinity_above x X).0 in
      (subst (λ (t : Bool). le c (cond t y x) ≡ true) z h, ap (le c) e ∙ (infinity_above c C).1)
  of_lesser y (inl q) h = go (lt y x) refl h
    where
      go : (t : Bool) → lt y x ≡ t → le c (cond t y x) ≡ true → Both y
      go true e h = (le_through c y x C q X h (lt_then_le y x q X e), h)
      go false e h = (h, le_through c x y C X q h (not_lt_le y x q X e))

  to_lesser : (y : Float) → Both y → le c (lesser x y) ≡ true
  unfolding lesser
  to_lesser y h = go (lt y x)
    where
      go : (t : Bool) → le c (cond t y x) ≡ true
      go true = h.1
      go false = h.0

-- ---- the least of some
lesser_plain : (x y : Float) → Plain x → Up y → Plain (lesser x y)
unfolding lesser
lesser_plain x y X (inr e) = let z : lt y x ≡ false = ap (λ (w : Float). lt w x) e ∙ (infinity_above x X).0 in subst (λ (t : Bool). Plain (cond t y x)) (sym z) X
lesser_plain x y X (inl q) = go (lt y x)
  where
    go : (t : Bool) → Plain (cond t y x)
    go true = q
    go false = X

least_up : (xs : List Float) → Each Plain xs → Up (least xs)
unfolding least
least_up [] h = inr refl
least_up (x ∷ xs) h = inl (lesser_plain x (least xs) h.0 (least_up xs h.1))

pub least_plain : (x : Float) (xs : List Float) → Each Plain (x ∷ xs) → Plain (least (x ∷ xs))
unfolding least
least_plain x xs h = lesser_plain x (least xs) h.0 (least_up xs h.1)

pub of_least : (c : Float) (xs : List Float) → Plain c → Each Plain xs → le c (least xs) ≡ true → Each (λ x. le c x ≡ true) xs
unfolding least
of_least c [] C p h = tt
of_least c (x ∷ xs) C p h =
    let b = of_lesser c x C p.0 (least xs) (least_up xs p.1) h in
    (b.0, of_least c xs C p.1 b.1)

pub to_least : (c : Float) (xs : List Float) → Plain c → Each Plain xs → Each (λ x. le c x ≡ true) xs → le c (least xs) ≡ true
unfolding least
to_least c [] C p h = (infinity_above c C).1
to_least c (x ∷ xs) C p h = to_lesser c x C p.0 (least xs) (h.0, to_least c xs C p.1 h.1)

-- ---- the largest of some
pub le_self : (x : Float) → Plain x → le x x ≡ true
le_self x p = le_plain x x p p ∙ le-leb (to_bits binary32 x) (to_bits binary32 x) (le_refl (to_bits binary32 x))

largest_is : (so : Float) (xs : List Float) → Plain so → Each Plain xs → Plain (largest_from so xs) × ((le so (largest_from so xs) ≡ true) × Each (λ x. le x (largest_from so xs) ≡ true) xs)
unfolding largest_from greater
largest_is so [] S p = (S, (le_self so S, tt))
largest_is so (x ∷ xs) S p = go (lt so x) refl (λ (t : Bool) (P : Plain (cond t x so)). largest_is (cond t x so) xs P p.1)
  where
    Above : Float → Type 0
    Above z = Plain z × ((le so z ≡ true) × ((le x z ≡ true) × Each (λ w. le w z ≡ true) xs))

    Rest : Float → Type 0
    Rest y = Plain (largest_from y xs) × ((le y (largest_from y xs) ≡ true) × Each (λ w. le w (largest_from y xs) ≡ true) xs)

    go : (t : Bool) → lt so x ≡ t → ((t : Bool) → Plain (cond t x so) → Rest (cond t x so)) → Above (largest_from (cond t x so) xs)
    go true e rec =
        let r = rec true p.0 in
        (r.0, (le_through so x (largest_from x xs) S p.0 r.0 (lt_then_le so x S p.0 e) r.1.0, (r.1.0, r.1.1)))
    go false e rec =
        let r = rec false S in
        (r.0, (r.1.0, (le_through x so (largest_from so xs) p.0 S r.0 (not_lt_le so x S p.0 e) r.1.0, r.1.1)))

-- ---- f32 in a list, and in rows
f32_at : (xs : List Float) (i : ℕ) → Each F32 xs → F32 (get_or xs i nan)
f32_at [] i h = nan-fits binary32
f32_at (x ∷ xs) zero h = h.0
f32_at (x ∷ xs) (suc i) h = f32_at xs i h.1

least_f32 : (xs : List Float) → Each F32 xs → F32 (least xs)
unfolding least lesser
least_f32 [] h = inf-fits binary32 false
least_f32 (x ∷ xs) h = cond-fits binary32 (lt (least xs) x) (least xs) x (least_f32 xs h.1) h.0

column_f32 : (rows : List (List Float)) (i : ℕ) → RowsF32 rows → Each F32 (map (λ row. get_or row i nan) rows)
column_f32 [] i h = tt
column_f32 (row ∷ rows) i h = (f32_at row i h.0, column_f32 rows i h.1)

taken_is_plain : (x : Float) → F32 x → entry_taken x ≡ true → Plain x
unfolding entry_taken
taken_is_plain x F h = (taken_plain x F h).0

all_plain : (xs : List Float) → Each F32 xs → every entry_taken xs ≡ true → Each Plain xs
unfolding every
all_plain [] F h = tt
all_plain (x ∷ xs) F h =
    let t = both (entry_taken x) (every entry_taken xs) h in
    (taken_is_plain x F.0 t.0, all_plain xs F.1 t.1)

pub zero_plain : Plain (f32_of 0)
unfolding up_to sign_clear sign_bit is_nan of_int lt
zero_plain = (taken_plain (f32_of 0) (of_int-fits binary32 (pos 0)) refl).0

-- ---- rows that are taken
module _ (rows : List (List Float)) (lengths : lengths_taken rows ≡ true) (entries : entries_taken rows ≡ true) (f32 : RowsF32 rows) where
  abbrev n : ℕ
  n = ring_length rows

  abbrev row : List Float
  row = least_row rows

  -- each row is as long as the ring
  pub all_long : Each (λ r. length r ≡ n) rows
  unfolding lengths_taken alike
  all_long = go rows (both (alike n rows) (leb 1 n && leb n 720) lengths).0
    where
      go : (rs : List (List Float)) → alike n rs ≡ true → Each (λ r. length r ≡ n) rs
      go [] h = tt
      go (r ∷ rs) h = let t = both (eqb (length r) n) (alike n rs) h in (eqb-true (length r) n t.0, go rs t.1)

  -- the entries at a hue
  pub column_plain : (i : ℕ) → i < n → Each Plain (map (λ r. get_or r i nan) rows)
  unfolding entries_taken
  column_plain i h = go rows all_long entries f32
    where
      go : (rs : List (List Float)) → Each (λ r. length r ≡ n) rs → entries_taken rs ≡ true → RowsF32 rs → Each Plain (map (λ r. get_or r i nan) rs)
      go [] l e f = tt
      go (r ∷ rs) l e f =
          let t = both (every entry_taken r) (entries_taken rs) e in
          let long = l.0 in
          (taken_is_plain (get_or r i nan) (f32_at r i f.0) (every_at entry_taken r i t.0 (omega arith)), go rs l.1 t.1 f.1)

  pub value_plain : (i : ℕ) → i < n → Plain (value_at rows i)
  unfolding value_at
  value_plain i h =
      let long = least_long rows in
      subst Plain (least_at rows i h)
      (taken_is_plain (get_or row i nan) (subst F32 (sym (least_at rows i h)) (value_f32 i)) (every_at entry_taken row i (least_taken rows lengths entries) (omega arith)))
    where
      value_f32 : (i : ℕ) → F32 (value_at rows i)
      value_f32 i = least_f32 (map (λ r. get_or r i nan) rows) (column_f32 rows i f32)

  -- the largest value
  row_plain : Each Plain row
  row_plain = from row (λ (i : ℕ) (h : i < length row). let long = least_long rows in let u : i < n = omega arith in subst Plain (sym (least_at rows i u)) (value_plain i u))
    where
      from : (xs : List Float) → ((i : ℕ) → i < length xs → Plain (get_or xs i nan)) → Each Plain xs
      from [] h = tt
      from (x ∷ xs) h = (h 0 (omega arith), from xs (λ (i : ℕ) (l : i < length xs). h (suc i) (omega arith)))

  pub most_plain : Plain (largest row)
  unfolding largest
  most_plain = (largest_is (f32_of 0) row zero_plain row_plain).0

  pub value_most : (i : ℕ) → i < n → le (value_at rows i) (largest row) ≡ true
  unfolding largest
  value_most i h =
      let long = least_long rows in
      subst (λ (x : Float). le x (largest row) ≡ true) (least_at rows i h) (at row i (largest_is (f32_of 0) row zero_plain row_plain).1.1 (omega arith))
    where
      at : (xs : List Float) (i : ℕ) → Each (λ x. le x (largest row) ≡ true) xs → i < length xs → le (get_or xs i nan) (largest row) ≡ true
      at [] i h l = absurd (not-suc-le-zero l)
      at (x ∷ xs) zero h l = h.0
      at (x ∷ xs) (suc i) h l = at xs i h.1 (le_of_suc-le-suc l)

  -- ---- at least c
  module _ (c : Float) (C : Plain c) where
    -- a hue over the row of least values, and over each row
    allowed_least : (i : ℕ) → i < n → allowed_at row c i ≡ le c (value_at rows i)
    unfolding allowed_at
    allowed_least i h =
        let e : i % length row ≡ i = ap (λ (m : ℕ). i % m) (least_long rows) ∙ mod-eq_of_lt h in
        ap (λ (j : ℕ). le c (get_or row j nan)) e ∙ ap (le c) (least_at rows i h)

    allowed_row : (r : List Float) → length r ≡ n → (i : ℕ) → i < n → allowed_at r c i ≡ le c (get_or r i nan)
    unfolding allowed_at
    allowed_row r e i h = ap (λ (j : ℕ). le c (get_or r j nan)) (ap (λ (m : ℕ). i % m) e ∙ mod-eq_of_lt h)

    value_entries : (i : ℕ) → i < n → le c (value_at rows i) ≡ true → Each (λ r. le c (get_or r i nan) ≡ true) rows
    unfolding value_at
    value_entries i h l = each_back (λ x. le c x ≡ true) (λ r. get_or r i nan) rows (of_least c (map (λ r. get_or r i nan) rows) C (column_plain i h) l)

    module _ (k step : ℕ) (is : List ℕ) where
      -- spaced hues that have at least c in common may be placed at c
      pub may_be_placed : Hues n k step is → Each (λ i. le c (value_at rows i) ≡ true) is → Spaced (allowed_at row c) n k step is
      may_be_placed s h = record {
        count = s.count;
        within = s.within;
        allowed = λ (p : ℕ) (l : p < k). let e = s.count in allowed_least (get_or is p 0) (s.within p l) ∙ each_at (λ i. le c (value_at rows i) ≡ true) is h p (omega arith);
        apart = s.apart;
      }

      -- and the other way round
      pub spaced_hues : Spaced (allowed_at row c) n k step is → Hues n k step is
      spaced_hues s = record { count = s.count; within = s.within; allowed = λ (p : ℕ) (l : p < k). refl; apart = s.apart }

      pub spaced_values : Spaced (allowed_at row c) n k step is → Each (λ i. le c (value_at rows i) ≡ true) is
      spaced_values s =
          let e = s.count in
          each_in (λ i. le c (value_at rows i) ≡ true) is (λ (p : ℕ) (l : p < length is). let u : p < k = omega arith in sym (allowed_least (get_or is p 0) (s.within p u)) ∙ s.allowed p u)

      pub spaced_rows : Spaced (allowed_at row c) n k step is → Each (λ r. Spaced (allowed_at r c) n k step is) rows
      spaced_rows s = go rows all_long (λ (p : ℕ) (l : p < k). value_entries (get_or is p 0) (s.within p l) (sym (allowed_least (get_or is p 0) (s.within p l)) ∙ s.allowed p l))
        where
          go : (rs : List (List Float)) → Each (λ r. length r ≡ n) rs → ((p : ℕ) → p < k → Each (λ r. le c (get_or r (get_or is p 0) nan) ≡ true) rs) → Each (λ r. Spaced (allowed_at r c) n k step is) rs
          go [] l h = tt
          go (r ∷ rs) l h = (
            record { count = s.count; within = s.within; allowed = λ (p : ℕ) (u : p < k). allowed_row r l.0 (get_or is p 0) (s.within p u) ∙ (h p u).0; apart = s.apart },
            go rs l.1 (λ (p : ℕ) (u : p < k). (h p u).1),
          )

      values_plain : Hues n k step is → Each Plain (map (value_at rows) is)
      values_plain s = let e = s.count in each_map Plain (value_at rows) is (each_in (λ i. Plain (value_at rows i)) is (λ (p : ℕ) (l : p < length is). value_plain (get_or is p 0) (s.within p (omega arith))))

      -- what hues have in common
      pub to_common : Hues n k step is → Each (λ i. le c (value_at rows i) ≡ true) is → le c (common rows is) ≡ true
      unfolding common
      to_common s h = to_least c (map (value_at rows) is) C (values_plain s) (each_map (λ x. le c x ≡ true) (value_at rows) is h)

      pub of_common : Hues n k step is → le c (common rows is) ≡ true → Each (λ i. le c (value_at rows i) ≡ true) is
      unfolding common
      of_common s h = each_back (λ x. le c x ≡ true) (value_at rows) is (of_least c (map (value_at rows) is) C (values_plain s) h)

  pub common_plain : (k step : ℕ) (is : List ℕ) → 1 ≤ k → Hues n k step is → Plain (common rows is)
  unfolding common
  common_plain k step is K s = go is (values_plain (f32_of 0) zero_plain k step is s) s.count
    where
      go : (is : List ℕ) → Each Plain (map (value_at rows) is) → length is ≡ k → Plain (least (map (value_at rows) is))
      go [] p e = absurd (clash e)
        where
          clash : 0 ≡ k → ⊥
          clash e = omega arith
      go (i ∷ is) p e = least_plain (value_at rows i) (map (value_at rows) is) p
