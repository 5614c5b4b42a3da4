-- The rows of the levels that an accepted call names are rows that the best over some rows takes, from a floor of 0 and with the step for k (`rows_say_lem`, over any number of rows
-- of 720); and their values. Assumes nothing.
use mathlib.Core.Path.{◌≡◌, refl}
use mathlib.Core.Bool.{true, ◌&&◌}
use mathlib.Core.List.{List, [], ◌∷◌}
use Prim.Native.Nat.{ℕ, ◌*◌, ◌≤◌, ◌<◌}
use native.Mathlib.Nat.{not-suc-le-zero}
use lib.Dec.{leb}
use lib.IntN.{pos}
use lib.Ieee.{Float, binary32, is_nan, of_int, lt}
use lib.Ieee.Fits.{of_int-fits}
use lib.ListN.{length}
use borrow.Author.Tests.{eq-eqb}
use Rattle.limits.specs.Answers.{value}
use Rattle.limits.specs.Taken.{f32_of, chroma_taken, up_to, sign_clear, sign_bit}
use Rattle.limits.specs.Each.{Each, F32}
use Rattle.limits.proofs.Checks.{said}
use Rattle.limits.proofs.HueCount.{count_taken}
use Rattle.gamut.specs.Table.{levels_in, row_at}
use Rattle.gamut.proofs.Table.{row_long, row_f32}
use Rattle.placement_rules.specs.Placing.{step_for, work_needed}
use Rattle.placement_rules.proofs.Checking.{checks}
use Rattle.placement_rules.proofs.Room.{enough}
use Rattle.placement_rules.proofs.Step.{step_taken}
use Rattle.pair_rules.specs.Rows.{ring_length, least_row}
use Rattle.pair_rules.specs.Pair.{best_over, alike, lengths_taken, entries_taken, rows_checked, rows_say}
use Rattle.pair_rules.specs.Limit.{RowsF32}
use Rattle.level_set_rules.specs.Set.{rows_at}
use Rattle.level_set_rules.specs.Meant.{SetTaken}
use Rattle.level_set_rules.proofs.Accepted.{rows_taken}

-- ---- the floor
pub zero_f32 : F32 (f32_of 0)
zero_f32 = of_int-fits binary32 (pos 0)

pub zero_taken : chroma_taken (f32_of 0) ≡ true
unfolding chroma_taken up_to sign_clear sign_bit is_nan of_int lt
zero_taken = refl

-- ---- any rows of 720
pub rows_say_lem : (k : ℕ) (rows : List (List Float)) (room : ℕ) → (1 ≤ k) × (k ≤ 16) → ring_length rows ≡ 720 → lengths_taken rows ≡ true → entries_taken rows ≡ true → 720 ≤ room
    → rows_say k (step_for k) (f32_of 0) rows room ≡ value (best_over k (step_for k) (f32_of 0) (least_row rows))
unfolding rows_say rows_checked
rows_say_lem k rows room hues ring lengths entries long =
    said (checks k (step_for k) (f32_of 0) (ring_length rows) (lengths_taken rows) (entries_taken rows) room) (value (best_over k (step_for k) (f32_of 0) (least_row rows)))
    (count_taken k hues, (zero_taken, (lengths, (spacing, (entries, (work, tt))))))
  where
    spacing : (leb 1 (step_for k) && leb (step_for k) (ring_length rows)) ≡ true
    spacing = rw ring (step_taken k (count_taken k hues))

    work : leb (work_needed (ring_length rows)) room ≡ true
    work = rw ring (enough 720 room long)

-- ---- the rows named
module _ (t : List Float) (long : length t ≡ levels_in t * 720) where
  pub first_row : (levels : List ℕ) → 1 ≤ length levels → Each (λ l. l < levels_in t) levels → ring_length (rows_at t levels) ≡ 720
  first_row [] some h = absurd (not-suc-le-zero some)
  first_row (l ∷ levels) some h = row_long t (levels_in t) l long h.0

  all_alike : (levels : List ℕ) → Each (λ l. l < levels_in t) levels → alike 720 (rows_at t levels) ≡ true
  unfolding alike
  all_alike [] h = refl
  all_alike (l ∷ levels) h = rw (eq-eqb (length (row_at t l)) 720 (row_long t (levels_in t) l long h.0)) (all_alike levels h.1)

  pub rows_lengths : (levels : List ℕ) → 1 ≤ length levels → Each (λ l. l < levels_in t) levels → lengths_taken (rows_at t levels) ≡ true
  unfolding lengths_taken
  rows_lengths levels some h = rw (first_row levels some h) (rw (all_alike levels h))

pub rows_f32 : (t : List Float) (levels : List ℕ) → Each F32 t → RowsF32 (rows_at t levels)
rows_f32 t [] f = tt
rows_f32 t (l ∷ levels) f = (row_f32 t l f, rows_f32 t levels f)

-- ---- of a call that is accepted
module _ (k : ℕ) (t : List Float) (levels : List ℕ) (room : ℕ) (taken : SetTaken k t levels room) where
  pub ring : ring_length (rows_at t levels) ≡ 720
  ring = first_row t taken.whole_levels levels taken.listed.0 taken.within

  pub lengths : lengths_taken (rows_at t levels) ≡ true
  lengths = rows_lengths t taken.whole_levels levels taken.listed.0 taken.within

  pub entries : entries_taken (rows_at t levels) ≡ true
  entries = rows_taken (rows_at t levels) taken.entries

  pub as_rows : rows_say k (step_for k) (f32_of 0) (rows_at t levels) room ≡ value (best_over k (step_for k) (f32_of 0) (least_row (rows_at t levels)))
  as_rows = rows_say_lem k (rows_at t levels) room taken.hue_count ring lengths entries taken.room_enough
