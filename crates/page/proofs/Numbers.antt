-- The numbers on the page of a record that is not broken: H is at most 20,000 (`hundredths_most`), and none is above 262,143, which is 2^18 - 1 (`page_numbers`), so that
-- `numeral_read` reads each of them back. Assumes nothing.
use mathlib.Core.Path.{◌≡◌}
use mathlib.Core.Bool.{true, false}
use mathlib.Core.List.{List, [], ◌∷◌}
use Prim.Native.Nat.{ℕ, zero, suc, ◌*◌, ◌/◌, ◌^◌, ◌≤◌}
use native.Mathlib.Nat.{le_of_mul-le-mul_right, div-mul-le_self}
use native.Mathlib.Omega.{arith}
use lib.Dec.{leb}
use lib.Ieee.{Float, nan, inf, fin, le, up, down}
use lib.Ieee.Fits.{down_pos}
use lib.ListN.{take}
use borrow.Author.Tests.{leb-true}
use Rattle.limits.specs.Taken.{f32_of, chroma_taken}
use Rattle.limits.proofs.HueCount.{both}
use Rattle.halving.proofs.Range.{UpTo, taken_up_to}
use Rattle.search_rules.specs.declared.Best.{Best}
use Rattle.search_rules.specs.declared.Best.TheVariants.{None, Found}
use Rattle.search_rules.specs.declared.Job.{Job}
use Rattle.search_rules.specs.Job.{hues_held, handed, unbroken}
use Rattle.search_rules.specs.Accepted.{BestWithin}
use Rattle.search_rules.proofs.Floor.{chroma_between}
use Rattle.search_rules.proofs.Unbroken.{sound, best_in}
use Rattle.page.specs.Chroma.{units_of, hundredths, remainder}
use Rattle.page_lines.specs.Lines.{Row, row}
use Rattle.page.specs.Page.{hue_rows, rows_with, rows_of}
use Rattle.page.proofs.Rows.{few}

-- ---- H
units_most : (c : Float) → UpTo 200 c → units_of c ≤ 200 * 2 ^ 18
unfolding units_of
units_most nan h = absurd h
units_most (inf s) h = absurd h
units_most (fin true m e) h = absurd h
units_most (fin false m e) h =
    let x = m * up e in
    let d = down e in
    let f : x * 262144 / d * d ≤ x * 262144 = div-mul-le_self (x * 262144) d in
    let g : x * 262144 / d * d ≤ 52428800 * d = omega arith in
    le_of_mul-le-mul_right g (down_pos e)

pub hundredths_most : (c : Float) → le (f32_of 35) c ≡ true → le c (f32_of 200) ≡ true → hundredths c ≤ 20000
unfolding hundredths chroma_taken
hundredths_most c l h = let u = units_most c (taken_up_to 200 c (omega arith) (chroma_between c l h)) in omega arith

-- ---- all of them
-- each number of these rows is at most m
abbrev pub AtMost : ℕ → List Row → Type 0
AtMost m [] = Unit
AtMost m (row word n ∷ rows) = (n ≤ m) × AtMost m rows

hues_most : (k : ℕ) (hues : List ℕ) → hues_held k hues ≡ true → AtMost 262143 (hue_rows (take k hues))
unfolding hues_held
hues_most zero hues h = tt
hues_most (suc k) [] h = tt
hues_most (suc k) (x ∷ hues) h =
    let t = both (leb x 719) (hues_held k hues) h in
    let l = leb-true x 719 t.0 in
    (omega arith, hues_most k hues t.1)

rows_most : (k n : ℕ) (best : Best) (hues : List ℕ) → k ≤ 16 → n ≤ 169 → BestWithin n best → hues_held (handed k best) hues ≡ true → AtMost 262143 (rows_with k best hues)
unfolding remainder
rows_most k n None hues g f b h = (omega arith, (omega arith, tt))
rows_most k n (Found c d l) hues g f b h =
    let m = hundredths_most c b.0 b.1.0 in
    let x = b.1.1.0 in
    let y = b.1.1.1 in
    (omega arith, (omega arith, (omega arith, (omega arith, (omega arith, hues_most k hues h)))))

pub page_numbers : (j : Job) → unbroken j ≡ true → AtMost 262143 (rows_of j)
page_numbers j u =
    let s = sound j u in
    rows_most j.settings.k j.levels j.best j.hues (few j u) s.few_levels (best_in j.levels j.best s.best_held_lem) s.hues_held_lem
