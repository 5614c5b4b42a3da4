-- Two lists of 1 to 8 levels with the same indices have the same answer, refusals included, for every hue count and length of the work buffer, over a table of f32 (`repeats`).
-- Assumes nothing.
use mathlib.Core.Path.{◌≡◌, refl, sym, ap, ◌∙◌, subst}
use mathlib.Core.Logic.{inl, inr}
use mathlib.Core.Bool.{Bool, true, false, cond}
use mathlib.Core.List.{List, [], ◌∷◌, map}
use Prim.Native.Nat.{ℕ, ◌*◌, ◌≤◌, ◌<◌}
use lib.Dec.{leb}
use lib.Ieee.{Float, nan, le}
use lib.ListN.{length, get_or}
use Rattle.limits.specs.Answers.{Said, value, refused}
use Rattle.limits.specs.Taken.{hue_count_taken, entry_taken}
use Rattle.limits.specs.Each.{Each, F32}
use Rattle.halving.proofs.Plain.{Plain, le_both}
use Rattle.gamut.specs.Table.{levels_in, row_at, table_taken}
use Rattle.gamut.proofs.Table.{levelled}
use Rattle.placement_rules.specs.Placing.{work_needed}
use Rattle.pair_rules.specs.Rows.{value_at, ring_length, least_row}
use Rattle.pair_rules.specs.Pair.{Best, entries_taken}
use Rattle.pair_rules.proofs.Rows.{least_long, least_at, least_is}
use Rattle.pair_rules.proofs.Choices.{each_map, each_back, column_plain, value_plain, of_least, to_least, le_self}
use Rattle.level_set_rules.specs.Set.{rows_at, set_over, list_taken, indices_taken, named_checked, set_checked, set_says}
use Rattle.level_set_rules.specs.Meant.{In, Among, SameLevels, Listed}
use Rattle.level_set_rules.proofs.Accepted.{list_taken_lem, indices_in, indices_taken_lem, rows_in, rows_taken}
use Rattle.level_set_rules.proofs.Named.{first_row, rows_lengths, rows_f32}

-- ---- what holds of each element of a list holds of each that stands in it
each_of : (P : ℕ → Type 0) (levels : List ℕ) → Each P levels → (l : ℕ) → In l levels → P l
each_of P [] h l x = elim x [ ]
each_of P (m ∷ levels) h l (inl e) = subst P (sym e) h.0
each_of P (m ∷ levels) h l (inr i) = each_of P levels h.1 l i

of_each : (P : ℕ → Type 0) (levels : List ℕ) → ((l : ℕ) → In l levels → P l) → Each P levels
of_each P [] h = tt
of_each P (m ∷ levels) h = (h m (inl refl), of_each P levels (λ (l : ℕ) (i : In l levels). h l (inr i)))

each_among : (P : ℕ → Type 0) (levels others : List ℕ) → Among others levels → Each P levels → Each P others
each_among P levels others a h = of_each P others (λ (l : ℕ) (i : In l others). each_of P levels h l (a l i))

-- of each row named
rows_among : (Q : List Float → Type 0) (t : List Float) (levels others : List ℕ) → Among others levels → Each Q (rows_at t levels) → Each Q (rows_at t others)
rows_among Q t levels others a h = each_map Q (row_at t) others (each_among (λ l. Q (row_at t l)) levels others a (each_back Q (row_at t) levels h))

-- ---- tests
same_test : (x y : Bool) → (x ≡ true → y ≡ true) → (y ≡ true → x ≡ true) → x ≡ y
same_test true y f g = sym (f refl)
same_test false true f g = g refl
same_test false false f g = refl

-- a refusal stays the same where it applies, and where it does not it is the rest that counts
under : {A : Type 0} (b : Bool) (n : ℕ) (x y : Said A) → (b ≡ true → x ≡ y) → cond b x (refused n) ≡ cond b y (refused n)
under true n x y f = f refl
under false n x y f = refl

module _ (t : List Float) (levels others : List ℕ) (s : SameLevels levels others) where
  same_indices : indices_taken (levels_in t) levels ≡ indices_taken (levels_in t) others
  same_indices =
      same_test (indices_taken (levels_in t) levels) (indices_taken (levels_in t) others)
      (λ (h : indices_taken (levels_in t) levels ≡ true). indices_taken_lem (levels_in t) others (each_among (λ l. l < levels_in t) levels others s.back (indices_in (levels_in t) levels h)))
      (λ (h : indices_taken (levels_in t) others ≡ true). indices_taken_lem (levels_in t) levels (each_among (λ l. l < levels_in t) others levels s.there (indices_in (levels_in t) others h)))

  same_entries : entries_taken (rows_at t levels) ≡ entries_taken (rows_at t others)
  same_entries =
      same_test (entries_taken (rows_at t levels)) (entries_taken (rows_at t others))
      (λ (h : entries_taken (rows_at t levels) ≡ true). rows_taken (rows_at t others) (rows_among (Each (λ x. entry_taken x ≡ true)) t levels others s.back (rows_in (rows_at t levels) h)))
      (λ (h : entries_taken (rows_at t others) ≡ true). rows_taken (rows_at t levels) (rows_among (Each (λ x. entry_taken x ≡ true)) t others levels s.there (rows_in (rows_at t others) h)))

-- ---- the values: of two lists of rows that are taken, the one's value is at most the other's where each of the other's levels stands in the one
module _ (t : List Float) (long : length t ≡ levels_in t * 720) (f32 : Each F32 t) where
  record Fine (levels : List ℕ) : Type 0 where
    some : 1 ≤ length levels
    within : Each (λ l. l < levels_in t) levels
    taken : entries_taken (rows_at t levels) ≡ true

  module _ (levels : List ℕ) (f : Fine levels) (i : ℕ) (h : i < 720) where
    inside : i < ring_length (rows_at t levels)
    inside = subst (λ (n : ℕ). i < n) (sym (first_row t long levels f.some f.within)) h

    plain : Plain (value_at (rows_at t levels) i)
    plain = value_plain (rows_at t levels) (rows_lengths t long levels f.some f.within) f.taken (rows_f32 t levels f32) i inside

    column : Each Plain (map (λ row. get_or row i nan) (rows_at t levels))
    column = column_plain (rows_at t levels) (rows_lengths t long levels f.some f.within) f.taken (rows_f32 t levels f32) i inside

  at_most_lem : (levels others : List ℕ) → Fine levels → Fine others → Among others levels → (i : ℕ) → i < 720 → le (value_at (rows_at t levels) i) (value_at (rows_at t others) i) ≡ true
  unfolding value_at
  at_most_lem levels others f g a i h =
      let c = value_at (rows_at t levels) i in
      let own = of_least c (map (λ row. get_or row i nan) (rows_at t levels)) (plain levels f i h) (column levels f i h) (le_self c (plain levels f i h)) in
      to_least c (map (λ row. get_or row i nan) (rows_at t others)) (plain levels f i h) (column others g i h)
      (each_map (λ x. le c x ≡ true) (λ row. get_or row i nan) (rows_at t others) (rows_among (λ row. le c (get_or row i nan) ≡ true) t levels others a (each_back (λ x. le c x ≡ true) (λ row. get_or row i nan) (rows_at t levels) own)))

  same_row : (levels others : List ℕ) → Fine levels → Fine others → SameLevels levels others → least_row (rows_at t levels) ≡ least_row (rows_at t others)
  same_row levels others f g s =
      let m = first_row t long levels f.some f.within in
      let n = first_row t long others g.some g.within in
      least_is (rows_at t others) (least_row (rows_at t levels)) (least_long (rows_at t levels) ∙ m ∙ sym n)
      (λ (i : ℕ) (h : i < ring_length (rows_at t others)).
      let u : i < 720 = subst (λ (x : ℕ). i < x) n h in
      least_at (rows_at t levels) i (subst (λ (x : ℕ). i < x) (sym m) u)
      ∙ le_both (value_at (rows_at t levels) i) (value_at (rows_at t others) i) (plain levels f i u) (plain others g i u) (at_most_lem levels others f g s.back i u) (at_most_lem others levels g f s.there i u))

-- ---- the theorem
module _ (k : ℕ) (t : List Float) (levels others : List ℕ) (room : ℕ) (f32 : Each F32 t) (a : Listed levels) (b : Listed others) (s : SameLevels levels others) where
  abbrev n : ℕ
  n = levels_in t

  abbrev over : List ℕ → Said Best
  over ls = value (set_over k (least_row (rows_at t ls)))

  abbrev by_entries : List ℕ → Said Best
  by_entries ls = cond (entries_taken (rows_at t ls)) (over ls) (refused 7)

  abbrev by_indices : List ℕ → Said Best
  by_indices ls = cond (indices_taken n ls) (by_entries ls) (refused 11)

  abbrev by_list : List ℕ → Said Best
  by_list ls = cond (list_taken ls) (by_indices ls) (refused 18)

  abbrev by_room : List ℕ → Said Best
  by_room ls = cond (leb (work_needed 720) room) (by_list ls) (refused 8)

  abbrev by_table : List ℕ → Said Best
  by_table ls = cond (table_taken t) (by_room ls) (refused 6)

  same_over : table_taken t ≡ true → indices_taken n others ≡ true → entries_taken (rows_at t others) ≡ true → over levels ≡ over others
  same_over T I E =
      ap (λ (row : List Float). value (set_over k row))
      (same_row t (levelled t T).long f32 levels others
      (record { some = a.0; within = indices_in n levels (same_indices t levels others s ∙ I); taken = same_entries t levels others s ∙ E })
      (record { some = b.0; within = indices_in n others I; taken = E }) s)

  same_by_entries : table_taken t ≡ true → indices_taken n others ≡ true → by_entries levels ≡ by_entries others
  same_by_entries T I = ap (λ (z : Bool). cond z (over levels) (refused 7)) (same_entries t levels others s) ∙ under (entries_taken (rows_at t others)) 7 (over levels) (over others) (same_over T I)

  same_by_indices : table_taken t ≡ true → by_indices levels ≡ by_indices others
  same_by_indices T = ap (λ (z : Bool). cond z (by_entries levels) (refused 11)) (same_indices t levels others s) ∙ under (indices_taken n others) 11 (by_entries levels) (by_entries others) (same_by_entries T)

  same_by_list : table_taken t ≡ true → by_list levels ≡ by_list others
  same_by_list T = rw (list_taken_lem levels a, list_taken_lem others b) (same_by_indices T)

  same_by_table : by_table levels ≡ by_table others
  same_by_table = under (table_taken t) 6 (by_room levels) (by_room others) (λ (T : table_taken t ≡ true). under (leb (work_needed 720) room) 8 (by_list levels) (by_list others) (λ (e : leb (work_needed 720) room ≡ true). same_by_list T))

  pub repeats : set_says k t levels room ≡ set_says k t others room
  unfolding set_says set_checked named_checked
  repeats = under (hue_count_taken k) 1 (by_table levels) (by_table others) (λ (e : hue_count_taken k ≡ true). same_by_table)
