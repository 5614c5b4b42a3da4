-- What the calls say is what document 01 marks: R1 to R8, P1, P2 and S1 to S4, in one lemma over the list of them. Assumes nothing.
use mathlib.Core.Path.{refl}
use mathlib.Core.List.{List, [], ◌∷◌}
use Prim.Native.Nat.{ℕ}
use lib.Ieee.{of_int, add, mul, le, lt, is_nan}
use Rattle.limits.specs.Taken.{hue_count_taken, chroma_taken, entry_taken, up_to, sign_clear, sign_bit, every}
use Rattle.halving.specs.Midpoint.{midpoint, halved, halve}
use Rattle.placement_rules.specs.Ring.{earliest, onward, from_start, first_from, placement}
use Rattle.placement_rules.specs.Placing.{allowed_at, step_for, step_says, stores, work_needed, checked, placement_says}
use Rattle.pair_rules.specs.Rows.{lesser, greater, least, value_at, each, least_row, largest_from, largest}
use Rattle.pair_rules.specs.Pair.{placed_at, placeable, best_over, alike, lengths_taken, entries_taken, rows_checked, rows_say}
use Rattle.pair_rules.specs.Marked.{Agrees, P1, P2, marked, All}

-- the hues that P1 and P2 come with
abbrev two_hues : List ℕ
two_hues = 0 ∷ 301 ∷ 0 ∷ 0 ∷ 0 ∷ 0 ∷ 0 ∷ 0 ∷ 0 ∷ 0 ∷ 0 ∷ 0 ∷ 0 ∷ 0 ∷ 0 ∷ 0 ∷ []

p1 : Agrees P1
unfolding placement first_from from_start onward earliest allowed_at checked placement_says step_for step_says stores of_int le lt lesser greater least value_at each least_row largest_from largest placed_at placeable best_over alike lengths_taken entries_taken rows_checked rows_say midpoint halved halve hue_count_taken chroma_taken entry_taken up_to sign_clear sign_bit every work_needed add mul is_nan
p1 = (two_hues, refl)

p2 : Agrees P2
unfolding placement first_from from_start onward earliest allowed_at checked placement_says step_for step_says stores of_int le lt lesser greater least value_at each least_row largest_from largest placed_at placeable best_over alike lengths_taken entries_taken rows_checked rows_say midpoint halved halve hue_count_taken chroma_taken entry_taken up_to sign_clear sign_bit every work_needed add mul is_nan
p2 = (two_hues, refl)

pub marked_agree : All marked
unfolding placement first_from from_start onward earliest allowed_at checked placement_says step_for step_says stores of_int le lt lesser greater least value_at each least_row largest_from largest placed_at placeable best_over alike lengths_taken entries_taken rows_checked rows_say midpoint halved halve hue_count_taken chroma_taken entry_taken up_to sign_clear sign_bit every work_needed add mul is_nan
marked_agree = (refl, (refl, (refl, (refl, (refl, (refl, (refl, (refl, (p1, (p2, (refl, (refl, (refl, (refl, tt))))))))))))))
