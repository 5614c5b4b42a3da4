-- What the checks of some rows say, whatever a good call says after them: all pass and it is said, or one fails and its number is; and how those of one row are those of a
-- placement, and those of two rows those of each row. Assumes nothing.
use mathlib.Core.Path.{◌≡◌, refl, sym, ap, ◌∙◌}
use mathlib.Core.Bool.{Bool, true, false, ◌&&◌, cond, and-true}
use mathlib.Core.List.{List, [], ◌∷◌}
use Prim.Native.Nat.{ℕ, ◌≤◌}
use native.Mathlib.Omega.{arith}
use lib.Dec.{leb, eqb}
use lib.Ieee.{Float}
use lib.ListN.{length}
use borrow.Author.Tests.{leb-true, eqb-true, eq-eqb, ne_eqb}
use Rattle.limits.specs.Answers.{Said, value, refused, fail, pass}
use Rattle.limits.specs.Taken.{hue_count_taken, chroma_taken, entry_taken, every}
use Rattle.limits.proofs.HueCount.{both}
use Rattle.limits.proofs.Checks.{Check, all_pass, failing}
use Rattle.limits.proofs.Checks as through
use Rattle.placement_rules.specs.Placing.{work_needed, checked}
use Rattle.placement_rules.proofs.Checking.{checks, ring_passes}
use Rattle.placement_rules.proofs.Room.{enough}
use Rattle.pair_rules.specs.Rows.{ring_length, least_row}
use Rattle.pair_rules.specs.Pair.{best_over, alike, lengths_taken, entries_taken, rows_checked, rows_say}
use Rattle.pair_rules.proofs.Rows.{least_long, least_of_one, least_taken}

-- ---- any number of rows
module _ (k step : ℕ) (floor : Float) (rows : List (List Float)) (room : ℕ) where
  abbrev rows_checks : List Check
  rows_checks = checks k step floor (ring_length rows) (lengths_taken rows) (entries_taken rows) room

  -- a call whose check is passed, and one whose check is failed
  pub passing : rows_checked k step floor rows room pass ≡ pass → rows_say k step floor rows room ≡ value (best_over k step floor (least_row rows))
  unfolding rows_say rows_checked
  passing h = through.said rows_checks (value (best_over k step floor (least_row rows))) (all_pass rows_checks pass tt h).0

  pub refusing : (n : ℕ) → rows_checked k step floor rows room pass ≡ refused n → rows_say k step floor rows room ≡ refused n
  unfolding rows_say rows_checked
  refusing n h = failing rows_checks (value (best_over k step floor (least_row rows))) tt n h

  -- rows that are taken are no longer than 720, and placement takes their row of least values
  pub short : rows_checked k step floor rows room pass ≡ pass → (alike (ring_length rows) rows ≡ true) × (ring_length rows ≤ 720)
  unfolding rows_checked lengths_taken
  short h =
      let n = ring_length rows in
      let t = ring_passes k step floor n (lengths_taken rows) (entries_taken rows) room h in
      let l = both (alike n rows) (leb 1 n && leb n 720) t.2 in
      (l.0, leb-true n 720 (both (leb 1 n) (leb n 720) l.1).1)

  pub least_checked : rows_checked k step floor rows room pass ≡ pass → checked k step floor (least_row rows) room pass ≡ pass
  unfolding rows_checked checked lengths_taken
  least_checked h =
      let n = ring_length rows in
      let t = ring_passes k step floor n (lengths_taken rows) (entries_taken rows) room h in
      let l = both (alike n rows) (leb 1 n && leb n 720) t.2 in
      let e = least_taken rows t.2 t.4 in
      rw (least_long rows, t.0, t.1, l.1, t.3, e, t.5)

-- ---- one row: its checks are those of a placement on it
pub one_checked : {A : Type 0} (k step : ℕ) (floor : Float) (row : List Float) (room : ℕ) (x : Said A) → checked k step floor row room x ≡ rows_checked k step floor (row ∷ []) room x
unfolding checked rows_checked lengths_taken alike entries_taken
one_checked k step floor row room x = sym (rw (eq-eqb (length row) (length row) refl, and-true (every entry_taken row)))

module _ (k step : ℕ) (floor : Float) (row : List Float) (room : ℕ) where
  pub one_refusing : (n : ℕ) → checked k step floor row room pass ≡ refused n → rows_say k step floor (row ∷ []) room ≡ refused n
  one_refusing n h = refusing k step floor (row ∷ []) room n (sym (one_checked k step floor row room pass) ∙ h)

  pub one_passing : checked k step floor row room pass ≡ pass → rows_say k step floor (row ∷ []) room ≡ value (best_over k step floor row)
  one_passing h = passing k step floor (row ∷ []) room (sym (one_checked k step floor row room pass) ∙ h) ∙ ap (λ (x : List Float). value (best_over k step floor x)) (least_of_one row)

-- ---- two rows
-- six checks with the entries of two rows, by those of each row
abbrev six : Bool → Bool → Bool → Bool → Bool → Bool → Said (Unit {0})
six a b c d e f = cond a (cond b (cond c (cond d (cond e (cond f pass (fail 8)) (fail 7)) (fail 5)) (fail 4)) (fail 3)) (fail 1)

second_fails : (a b c d e e' f f' : Bool) (w : ℕ) → (c ≡ true → f' ≡ true) → six a b c d e' f' ≡ fail w → six a b c d (e && (e' && true)) f ≡ fail w
second_fails false b c d e e' f f' w g h = h
second_fails true false c d e e' f f' w g h = h
second_fails true true false d e e' f f' w g h = h
second_fails true true true false e e' f f' w g h = h
second_fails true true true true true false f f' w g h = h
second_fails true true true true false false f f' w g h = h
second_fails true true true true e true f true w g h = absurd (let z : ◌≡◌ {A = ℕ} 0 1 = cc in omega arith)
second_fails true true true true e true f false w g h = absurd (let y : ◌≡◌ {A = Bool} false true = g refl in let z : ◌≡◌ {A = ℕ} 0 1 = cc in omega arith)

first_left : (e e' : Bool) → e' ≡ true → (e && (e' && true)) ≡ e
first_left true e' h = rw h
first_left false e' h = refl

few : (n : ℕ) → (leb 1 n && leb n 720) ≡ true → leb (work_needed n) 720 ≡ true
few n h = enough n 720 (leb-true n 720 (both (leb 1 n) (leb n 720) h).1)

module _ (k step : ℕ) (floor : Float) (a b : List Float) (room : ℕ) where
  abbrev both_rows : Said (Unit {0})
  both_rows = rows_checked k step floor (a ∷ b ∷ []) room pass

  -- rows of unequal length are refused as a row without entries is
  pub unequal : (length a ≡ length b → ⊥) → checked k step floor [] room pass ≡ both_rows
  unfolding rows_checked lengths_taken alike checked
  unequal f = rw (eq-eqb (length a) (length a) refl, ne_eqb (length b) (length a) (λ (h : length b ≡ length a). f (sym h)))

  module _ (same : length a ≡ length b) where
    -- what the second row is refused by, with room for any ring that is taken, both are
    pub second_refused : (n : ℕ) → checked k step floor b 720 pass ≡ refused n → both_rows ≡ refused n
    unfolding rows_checked lengths_taken alike entries_taken checked
    second_refused w h =
        let n = length b in
        let o = leb 1 n && leb n 720 in
        rw (same, eq-eqb n n refl) (second_fails (hue_count_taken k) (chroma_taken floor) o (leb 1 step && leb step n) (every entry_taken a) (every entry_taken b) (leb (work_needed n) room) (leb (work_needed n) 720) w (few n) h)

    -- where it is not, both are refused by what the first is
    pub first_says : checked k step floor b 720 pass ≡ pass → checked k step floor a room pass ≡ both_rows
    unfolding rows_checked lengths_taken alike entries_taken checked
    first_says h =
        let n = length b in
        let t = ring_passes k step floor n (leb 1 n && leb n 720) (every entry_taken b) 720 h in
        rw (same, eq-eqb n n refl, first_left (every entry_taken a) (every entry_taken b) t.4)

-- two rows that are alike are of one length
pub two_alike : (a b : List Float) → alike (length a) (a ∷ b ∷ []) ≡ true → length b ≡ length a
unfolding alike
two_alike a b h =
    let n = length a in
    let t = both (eqb n n) (eqb (length b) n && true) h in
    eqb-true (length b) n (both (eqb (length b) n) true t.1).0
