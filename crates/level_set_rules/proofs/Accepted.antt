-- The call is accepted exactly on its conditions (`set_exactly`), and what it then says. Assumes nothing.
use mathlib.Core.Path.{◌≡◌, refl}
use mathlib.Core.Logic.{◌↔◌}
use mathlib.Core.Bool.{true}
use mathlib.Core.List.{List, [], ◌∷◌}
use Prim.Native.Nat.{ℕ, ◌<◌}
use lib.Dec.{leb, ltb}
use lib.Ieee.{Float}
use lib.ListN.{length}
use borrow.Author.Tests.{leb-true, le-leb, ltb-true, lt-ltb}
use Rattle.limits.specs.Answers.{value}
use Rattle.limits.specs.Taken.{hue_count_taken, entry_taken, every}
use Rattle.limits.specs.Each.{Each}
use Rattle.limits.proofs.Checks.{Check, check, AllPass, all_pass, said, same_value}
use Rattle.limits.proofs.HueCount.{both, hue_count, count_taken}
use Rattle.limits.proofs.Lists.{each_true, every_true}
use Rattle.gamut.specs.Table.{levels_in, table_taken}
use Rattle.gamut.proofs.Table.{levelled, table_taken_lem}
use Rattle.placement_rules.specs.Placing.{work_needed}
use Rattle.placement_rules.proofs.Room.{one_lap, enough}
use Rattle.pair_rules.specs.Rows.{least_row}
use Rattle.pair_rules.specs.Pair.{Best, entries_taken}
use Rattle.level_set_rules.specs.Set.{rows_at, set_over, list_taken, indices_taken, named_checked, set_checked, set_says}
use Rattle.level_set_rules.specs.Meant.{Listed, SetTaken}

-- ---- tests of each element, written out
listed : (levels : List ℕ) → list_taken levels ≡ true → Listed levels
unfolding list_taken
listed levels h = let t = both (leb 1 (length levels)) (leb (length levels) 8) h in (leb-true 1 (length levels) t.0, leb-true (length levels) 8 t.1)

pub list_taken_lem : (levels : List ℕ) → Listed levels → list_taken levels ≡ true
unfolding list_taken
list_taken_lem levels h = rw (le-leb 1 (length levels) h.0, le-leb (length levels) 8 h.1)

pub indices_in : (n : ℕ) (levels : List ℕ) → indices_taken n levels ≡ true → Each (λ l. l < n) levels
unfolding indices_taken
indices_in n [] h = tt
indices_in n (l ∷ levels) h = let t = both (ltb l n) (indices_taken n levels) h in (ltb-true l n t.0, indices_in n levels t.1)

pub indices_taken_lem : (n : ℕ) (levels : List ℕ) → Each (λ l. l < n) levels → indices_taken n levels ≡ true
unfolding indices_taken
indices_taken_lem n [] h = refl
indices_taken_lem n (l ∷ levels) h = rw (lt-ltb l n h.0) (indices_taken_lem n levels h.1)

abbrev pub RowsTaken : List (List Float) → Type 0
RowsTaken rows = Each (Each (λ x. entry_taken x ≡ true)) rows

pub rows_in : (rows : List (List Float)) → entries_taken rows ≡ true → RowsTaken rows
unfolding entries_taken
rows_in [] h = tt
rows_in (row ∷ rows) h = let t = both (every entry_taken row) (entries_taken rows) h in (each_true entry_taken row t.0, rows_in rows t.1)

pub rows_taken : (rows : List (List Float)) → RowsTaken rows → entries_taken rows ≡ true
unfolding entries_taken
rows_taken [] h = refl
rows_taken (row ∷ rows) h = rw (every_true entry_taken row h.0) (rows_taken rows h.1)

-- ---- the call
module _ (k : ℕ) (t : List Float) (levels : List ℕ) (room : ℕ) where
  -- the checks after the first, in their order, and all of them
  abbrev pub named_checks : List Check
  named_checks = check (table_taken t) 6 ∷ check (leb (work_needed 720) room) 8 ∷ check (list_taken levels) 18 ∷ check (indices_taken (levels_in t) levels) 11 ∷ check (entries_taken (rows_at t levels)) 7 ∷ []

  abbrev set_checks : List Check
  set_checks = check (hue_count_taken k) 1 ∷ named_checks

  abbrev pub over : Best
  over = set_over k (least_row (rows_at t levels))

  pub in_words : hue_count_taken k ≡ true → AllPass named_checks → SetTaken k t levels room
  in_words one p =
      let l = levelled t p.0 in
      record {
        hue_count = hue_count k one;
        whole_levels = l.long;
        levels_in_range = (l.some_level, l.few_levels);
        room_enough = (one_lap 720 room).0 (leb-true (work_needed 720) room p.1.0);
        listed = listed levels p.1.1.0;
        within = indices_in (levels_in t) levels p.1.1.1.0;
        entries = rows_in (rows_at t levels) p.1.1.1.1.0;
      }

  pub set_only : (b : Best) → set_says k t levels room ≡ value b → SetTaken k t levels room × (over ≡ b)
  unfolding set_says set_checked named_checked
  set_only b h =
      let f = all_pass set_checks (value over) b h in
      (in_words f.0.0 f.0.1, same_value over b f.1)

  pub set_given : SetTaken k t levels room → set_says k t levels room ≡ value over
  unfolding set_says set_checked named_checked
  set_given h =
      said set_checks (value over) (
        count_taken k h.hue_count,
        (
          table_taken_lem t (record { long = h.whole_levels; some_level = h.levels_in_range.0; few_levels = h.levels_in_range.1 }),
          (enough 720 room h.room_enough, (list_taken_lem levels h.listed, (indices_taken_lem (levels_in t) levels h.within, (rows_taken (rows_at t levels) h.entries, tt)))),
        ),
      )

  pub set_exactly : ((b : Best) × (set_says k t levels room ≡ value b)) ↔ SetTaken k t levels room
  set_exactly = (λ (a : (b : Best) × (set_says k t levels room ≡ value b)). (set_only a.0 a.1).0, λ (h : SetTaken k t levels room). (over, set_given h))
