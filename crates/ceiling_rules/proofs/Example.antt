-- What the call says, computed, of a kept job with a gap of 0 over three levels, of which the one pair that qualifies, the first level and the last, stands at position 2. Over zeros
-- the ceiling is 0 at 0, 1 and 2, and at 3 and at the end no pair is left (`ceilings`). Where the first row has 50 at one hue and the last 60 at another, it is 50 (`peaks`). NaN
-- in the row between is refused by 7, a table of no entries by 6, and a broken record by 15 whatever the table (`refusals`). Assumes nothing.
use mathlib.Core.Path.{◌≡◌, refl}
use mathlib.Core.List.{List, [], ◌∷◌, ◌++◌}
use Prim.Native.Nat.{ℕ}
use lib.Ieee.{Float, nan, round, add, sub, mul, of_int, is_nan, lt, le, eq}
use lib.ListN.{replicate}
use Rattle.limits.specs.Answers.{Said, value, refused}
use Rattle.limits.specs.Taken.{f32_of, hue_count_taken, gap_taken, up_to, sign_clear, sign_bit, entry_taken, every}
use Rattle.gamut.specs.Gamut.{level_of}
use Rattle.gamut.specs.Table.{row_at}
use Rattle.pair_rules.specs.Rows.{lesser, greater, largest_from, largest}
use Rattle.search_rules.specs.declared.Best.{Best}
use Rattle.search_rules.specs.declared.Best.TheVariants.{None}
use Rattle.search_rules.specs.declared.Job.{Job}
use Rattle.search_rules.specs.Job.{unbroken, hues_held, far_enough, qualifies}
use Rattle.search_rules.specs.Loops.{loop}
use Rattle.ceiling_rules.specs.Ceiling.{Ceiling, none_left, at_most, top_at, with_pair, ceiling_from, outlook_checked, outlook_says}

-- so many entries of this value
abbrev of : ℕ → ℕ → List Float
of n v = replicate n (f32_of v)

abbrev zeros : List Float
zeros = of 2160 0

abbrev job : ℕ → Job
job p = record { settings = record { k = 2; gap = f32_of 0 }; levels = 3; position = p; best = None; hues = replicate 16 0; tightest = 0 }

abbrev Says : ℕ → List Float → Said (Best × Ceiling) → Type 0
Says p table said = outlook_says (job p) table ≡ said

abbrev at_most_lem : ℕ → Said (Best × Ceiling)
at_most_lem v = value (None, at_most (f32_of v))

abbrev no_pair : Said (Best × Ceiling)
no_pair = value (None, none_left)

pub ceilings : Says 0 zeros (at_most_lem 0) × (Says 1 zeros (at_most_lem 0) × (Says 2 zeros (at_most_lem 0) × (Says 3 zeros no_pair × Says 9 zeros no_pair)))
unfolding outlook_says outlook_checked unbroken hue_count_taken gap_taken entry_taken every up_to sign_clear sign_bit is_nan hues_held ceiling_from loop with_pair qualifies far_enough level_of top_at largest largest_from lesser greater row_at add sub mul round of_int lt le eq
ceilings = (refl, (refl, (refl, (refl, refl))))

pub peaks : Says 0 (f32_of 50 ∷ of 1799 10 ++ f32_of 60 ∷ of 359 10) (at_most_lem 50)
unfolding outlook_says outlook_checked unbroken hue_count_taken gap_taken entry_taken every up_to sign_clear sign_bit is_nan hues_held ceiling_from loop with_pair qualifies far_enough level_of top_at largest largest_from lesser greater row_at add sub mul round of_int lt le eq
peaks = refl

pub refusals : Says 0 (of 725 10 ++ nan ∷ of 1434 10) (refused 7) × (Says 0 [] (refused 6) × (Says 10 [] (refused 15) × Says 10 (nan ∷ []) (refused 15)))
unfolding outlook_says outlook_checked unbroken hue_count_taken gap_taken entry_taken every up_to sign_clear sign_bit is_nan hues_held ceiling_from loop with_pair qualifies far_enough level_of top_at largest largest_from lesser greater row_at add sub mul round of_int lt le eq
refusals = (refl, (refl, (refl, refl)))
