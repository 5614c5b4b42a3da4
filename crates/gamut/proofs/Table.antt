-- The shape of a table that is taken (`levelled`), how many levels a table of whole rows has (`levels_by`), and its rows: how long they are, which of the table's entries theirs
-- are, that they are taken where the table's are, and that they are f32 where the table's are. Assumes nothing.
use mathlib.Core.Path.{◌≡◌, ap, ◌∙◌}
use mathlib.Core.Bool.{true, ◌&&◌}
use mathlib.Core.List.{List}
use Prim.Native.Nat.{ℕ, suc, ◌+◌, ◌-◌, ◌*◌, ◌/◌, ◌≤◌, ◌<◌}
use native.Mathlib.Nat.{mul-le-mul_right, suc-mul, mul-div_cancel, min-eq_left}
use native.Mathlib.Omega.{arith}
use lib.Dec.{leb, eqb}
use lib.Ieee.{Float, nan}
use lib.ListN.{length, get_or, take, drop, length-take, length-drop}
use lib.Seq.{get_or-take, get_or-drop}
use borrow.Author.Tests.{leb-true, eqb-true, le-leb, eq-eqb}
use Rattle.limits.specs.Taken.{entry_taken, every}
use Rattle.limits.specs.Each.{Each, F32}
use Rattle.limits.proofs.HueCount.{both}
use Rattle.limits.proofs.Lists.{each_take, each_drop, every_take, every_drop}
use Rattle.gamut.specs.Table.{levels_in, row_at, table_taken}

-- ---- a table that is taken
pub record Levelled (table : List Float) : Type 0 where
  pub long : length table ≡ levels_in table * 720
  pub some_level : 1 ≤ levels_in table
  pub few_levels : levels_in table ≤ 169

pub levelled : (table : List Float) → table_taken table ≡ true → Levelled table
unfolding table_taken
levelled table h =
    let n = levels_in table in
    let t = both (eqb (length table) (n * 720)) (leb 1 n && leb n 169) h in
    let u = both (leb 1 n) (leb n 169) t.1 in
    record { long = eqb-true (length table) (n * 720) t.0; some_level = leb-true 1 n u.0; few_levels = leb-true n 169 u.1 }

pub table_taken_lem : (table : List Float) → Levelled table → table_taken table ≡ true
unfolding table_taken
table_taken_lem table h =
    let n = levels_in table in
    rw (eq-eqb (length table) (n * 720) h.long, le-leb 1 n h.some_level, le-leb n 169 h.few_levels)

-- a table of n rows has n levels
pub levels_by : (table : List Float) (n : ℕ) → length table ≡ n * 720 → levels_in table ≡ n
unfolding levels_in
levels_by table n long = ap (λ (x : ℕ). x / 720) long ∙ mul-div_cancel n (omega arith)

-- ---- its rows
pub row_long : (table : List Float) (n i : ℕ) → length table ≡ n * 720 → i < n → length (row_at table i) ≡ 720
unfolding row_at
row_long table n i e h =
    let x : suc i * 720 ≤ n * 720 = mul-le-mul_right 720 h in
    let y : suc i * 720 ≡ i * 720 + 720 = suc-mul i 720 in
    let z : length (drop (i * 720) table) ≡ length table - i * 720 = length-drop (i * 720) table in
    length-take 720 (drop (i * 720) table) ∙ min-eq_left (omega arith)

-- a row as code lends it, from its first place to that and 720
abbrev pub part : List Float → ℕ → List Float
part table i = take (i * 720 + 720 - i * 720) (drop (i * 720) table)

pub part_row : (table : List Float) (i : ℕ) → part table i ≡ row_at table i
unfolding row_at
part_row table i = let e : i * 720 + 720 - i * 720 ≡ 720 = omega arith in ap (λ (n : ℕ). take n (drop (i * 720) table)) e

pub row_entry : (table : List Float) (i h : ℕ) → h < 720 → get_or (row_at table i) h nan ≡ get_or table (i * 720 + h) nan
unfolding row_at
row_entry table i h u = rw (get_or-take, get_or-drop)

pub row_taken : (table : List Float) (i : ℕ) → every entry_taken table ≡ true → every entry_taken (row_at table i) ≡ true
unfolding row_at
row_taken table i h = every_take entry_taken 720 (drop (i * 720) table) (every_drop entry_taken (i * 720) table h)

pub row_f32 : (table : List Float) (i : ℕ) → Each F32 table → Each F32 (row_at table i)
unfolding row_at
row_f32 table i h = each_take F32 720 (drop (i * 720) table) (each_drop F32 (i * 720) table h)
