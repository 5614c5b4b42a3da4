-- Some lines and what they ask, computed from the definitions. Assumes nothing.
use mathlib.Core.Path.{◌≡◌, refl}
use mathlib.Core.List.{[], ◌∷◌}
use Rattle.ring_reading.specs.Numbers.{is_digit}
use Rattle.lamp_input.specs.Ask.{malformed, asks, gap_of, goes_on, decimals_from, whole_from, gap_from, count_from, numbers_of, is_ask, ask_of}

-- `ask 2 40`
whole_gap : ask_of (97 ∷ 115 ∷ 107 ∷ 32 ∷ 50 ∷ 32 ∷ 52 ∷ 48 ∷ []) ≡ asks 2 (gap_of 400000)
unfolding is_digit goes_on decimals_from whole_from gap_from count_from numbers_of is_ask ask_of
whole_gap = refl

-- `ask 16 40.5`
half_gap : ask_of (97 ∷ 115 ∷ 107 ∷ 32 ∷ 49 ∷ 54 ∷ 32 ∷ 52 ∷ 48 ∷ 46 ∷ 53 ∷ []) ≡ asks 16 (gap_of 405000)
unfolding is_digit goes_on decimals_from whole_from gap_from count_from numbers_of is_ask ask_of
half_gap = refl

-- `ask 1 0.0625`
small_gap : ask_of (97 ∷ 115 ∷ 107 ∷ 32 ∷ 49 ∷ 32 ∷ 48 ∷ 46 ∷ 48 ∷ 54 ∷ 50 ∷ 53 ∷ []) ≡ asks 1 (gap_of 625)
unfolding is_digit goes_on decimals_from whole_from gap_from count_from numbers_of is_ask ask_of
small_gap = refl

-- `ask 2 40.00001`
five_decimals : ask_of (97 ∷ 115 ∷ 107 ∷ 32 ∷ 50 ∷ 32 ∷ 52 ∷ 48 ∷ 46 ∷ 48 ∷ 48 ∷ 48 ∷ 48 ∷ 49 ∷ []) ≡ malformed
unfolding is_digit goes_on decimals_from whole_from gap_from count_from numbers_of is_ask ask_of
five_decimals = refl

-- `ask 02 40`
leading_zero : ask_of (97 ∷ 115 ∷ 107 ∷ 32 ∷ 48 ∷ 50 ∷ 32 ∷ 52 ∷ 48 ∷ []) ≡ malformed
unfolding is_digit goes_on decimals_from whole_from gap_from count_from numbers_of is_ask ask_of
leading_zero = refl

-- `ask 2 40.`
bare_point : ask_of (97 ∷ 115 ∷ 107 ∷ 32 ∷ 50 ∷ 32 ∷ 52 ∷ 48 ∷ 46 ∷ []) ≡ malformed
unfolding is_digit goes_on decimals_from whole_from gap_from count_from numbers_of is_ask ask_of
bare_point = refl

-- `ask 2 4o`
letter : ask_of (97 ∷ 115 ∷ 107 ∷ 32 ∷ 50 ∷ 32 ∷ 52 ∷ 111 ∷ []) ≡ malformed
unfolding is_digit goes_on decimals_from whole_from gap_from count_from numbers_of is_ask ask_of
letter = refl

-- `ask 2 -1`
sign : ask_of (97 ∷ 115 ∷ 107 ∷ 32 ∷ 50 ∷ 32 ∷ 45 ∷ 49 ∷ []) ≡ malformed
unfolding is_digit goes_on decimals_from whole_from gap_from count_from numbers_of is_ask ask_of
sign = refl
