-- Lists of calls that meet what `whole_runs` asks: over a table of one row repeated, of any number of levels from 1 to 169, a start that takes its settings and all its steps
-- are accepted, from any job record (`any_levels`), and so are document 01's start and all its steps (`any_kept`). Two of them, with two hues: for a kept job a gap of 0 over
-- three levels of 50 (`kept_met`), and for a new one a gap of 40 over 83 (`new_met`), the fewest over which a pair is far enough apart; in both there is something to choose
-- (`kept_choice`, `new_choice`). Assumes nothing.
use mathlib.Core.Path.{◌≡◌, refl, sym, subst}
use mathlib.Core.Bool.{true}
use mathlib.Core.List.{List, ◌∷◌}
use Prim.Native.Nat.{ℕ, suc, ◌*◌, ◌≤◌, ◌<◌}
use native.Mathlib.Nat.{mul-le-mul_right}
use native.Mathlib.Omega.{arith}
use lib.IntN.{pos}
use lib.Ieee.{Float, binary32, round, add, sub, mul, of_int, is_nan, lt, le, eq}
use lib.Ieee.Fits.{of_int-fits}
use lib.ListN.{length, replicate, length-replicate}
use Rattle.limits.specs.Taken.{f32_of, gap_taken, up_to, sign_clear, sign_bit, entry_taken}
use Rattle.limits.specs.Each.{Each, F32}
use Rattle.limits.proofs.HueCount.{count_taken}
use Rattle.limits.proofs.Lists.{each_same, every_true}
use Rattle.gamut.specs.Gamut.{level_of}
use Rattle.gamut.proofs.Table.{levelled}
use Rattle.gamut.proofs.Stacked.{stacked, stacked_each, stacked_levels, stacked_taken}
use Rattle.placement_rules.specs.Placing.{step_for, work_needed}
use Rattle.pair_rules.proofs.Evenly.{evenly, some_hues}
use Rattle.search_rules.specs.declared.Settings.{Settings}
use Rattle.search_rules.specs.declared.Job.{Job}
use Rattle.search_rules.specs.Job.{far_enough, qualifies}
use Rattle.search_rules.specs.Runs.{Call, start, began, since, history, OverOneTable, Choice, steps}
use Rattle.search_rules.specs.Accepted.{Between, EachTaken, TakenWith, FromForty, FromZero}
use Rattle.search_rules.proofs.Apart.{far_apart}
use Rattle.search_rules.proofs.Rows.{Good}
use Rattle.search_rules.proofs.Goes.{all_accepted, all_kept}

abbrev pub work : List ℕ
work = replicate (work_needed 720) 0

room : work_needed 720 ≤ length work
room = subst (λ (n : ℕ). work_needed 720 ≤ n) (sym (length-replicate (work_needed 720) 0)) (omega arith)

-- this call, with so many steps behind it: all are accepted
abbrev AllIn : Settings → List Float → Call → ℕ → Job → Type 0
AllIn s t c n j = (history (c ∷ steps n t work) j ≡ since s n) × OverOneTable t (c ∷ steps n t work) j

-- what `whole_runs` asks of such a list, over a table of f32
abbrev pub Met : Settings → List Float → Call → ℕ → Job → Type 0
Met s t c n j = Each F32 t × AllIn s t c n j

-- ---- a row that is taken, repeated
module _ (row : List Float) (long : length row ≡ 720) (taken : EachTaken row) (f32 : Each F32 row) (n : ℕ) (some : 1 ≤ n) (few : n ≤ 169) where
  abbrev table : List Float
  table = stacked n row

  entries : EachTaken table
  entries = stacked_each (λ (x : Float). entry_taken x ≡ true) n row taken

  good : Good table
  good = record { levels_taken_lem = stacked_taken row long n some few; entries_taken_lem = every_true entry_taken table entries; entries_f32 = stacked_each F32 n row f32 }

  module _ (s : Settings) (count : Between 1 16 s.k) where
    asked : (Gap : Float → Type 0) → Gap s.gap → TakenWith Gap s table
    asked Gap gap =
        let l = levelled table good.levels_taken_lem in
        record { hue_count = count; gap = gap; whole_levels = l.long; levels = (l.some_level, l.few_levels); entries = entries }

    -- n levels have n * n pairs, and all steps are accepted
    pub any_levels : FromForty s.gap → (j : Job) → Met s table (start s table) (n * n) j
    any_levels gap j = (good.entries_f32, subst (λ (m : ℕ). AllIn s table (start s table) (m * m) j) (stacked_levels row long n) (all_accepted table good work room s (asked FromForty gap) j))

    pub any_kept : FromZero s.gap → (j : Job) → Met s table (began s table) (n * n) j
    any_kept gap j = (good.entries_f32, subst (λ (m : ℕ). AllIn s table (began s table) (m * m) j) (stacked_levels row long n) (all_kept table good work room s (asked FromZero gap) j))

-- ---- two hues, levels of 50
abbrev pub two_hues : Float → Settings
two_hues gap = record { k = 2; gap = gap }

abbrev fifty : List Float
fifty = replicate 720 (f32_of 50)

abbrev pub levels_of_50 : ℕ → List Float
levels_of_50 n = stacked n fifty

long_50 : length fifty ≡ 720
long_50 = length-replicate 720 (f32_of 50)

taken_50 : EachTaken fifty
unfolding entry_taken up_to sign_clear sign_bit is_nan lt of_int
taken_50 = each_same (λ (x : Float). entry_taken x ≡ true) 720 (f32_of 50) refl

f32_50 : Each F32 fifty
f32_50 = each_same F32 720 (f32_of 50) (of_int-fits binary32 (pos 50))

-- a kept job with a gap of 0 over three levels: nine steps
pub kept_met : (j : Job) → Met (two_hues (f32_of 0)) (levels_of_50 3) (began (two_hues (f32_of 0)) (levels_of_50 3)) 9 j
unfolding gap_taken up_to sign_clear sign_bit is_nan lt of_int
kept_met j = any_kept fifty long_50 taken_50 f32_50 3 (omega arith) (omega arith) (two_hues (f32_of 0)) (omega arith, omega arith) refl j

-- a new one with a gap of 40 over 83 levels: 6,889 steps
pub new_met : (j : Job) → Met (two_hues (f32_of 40)) (levels_of_50 83) (start (two_hues (f32_of 40)) (levels_of_50 83)) 6889 j
unfolding gap_taken up_to sign_clear sign_bit is_nan lt le eq of_int
new_met j = any_levels fifty long_50 taken_50 f32_50 83 (omega arith) (omega arith) (two_hues (f32_of 40)) (omega arith, omega arith) (refl, refl) j

-- ---- a choice in each
-- the first and the last of n + 1 levels, with the hues 0 and 301
there : (gap : Float) (n : ℕ) → FromZero gap → 0 < n → n < 169 → qualifies (two_hues gap) 0 n ≡ true → Choice (levels_of_50 (suc n)) (two_hues gap) (suc n * suc n)
there gap n held some few far =
    let e = stacked_levels fifty long_50 (suc n) in
    let m = mul-le-mul_right (suc n) some in
    record {
      dark = 0;
      light = n;
      hues = evenly (step_for 2) 2 0;
      dark_in = omega arith;
      light_in = omega arith;
      gone_through = omega arith;
      far = far_apart (two_hues gap) held 0 n (omega arith) few far;
      spaced = some_hues 2 (count_taken 2 (omega arith, omega arith));
    }

pub kept_choice : Choice (levels_of_50 3) (two_hues (f32_of 0)) 9
unfolding gap_taken up_to sign_clear sign_bit is_nan lt of_int qualifies far_enough level_of sub add mul round
kept_choice = there (f32_of 0) 2 refl (omega arith) (omega arith) refl

pub new_choice : Choice (levels_of_50 83) (two_hues (f32_of 40)) 6889
unfolding gap_taken up_to sign_clear sign_bit is_nan lt of_int qualifies far_enough level_of sub add mul round
new_choice = there (f32_of 40) 82 refl (omega arith) (omega arith) refl
