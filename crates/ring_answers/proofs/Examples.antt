-- Document 01's whole example is what the definitions give, line by line and as one input. Assumes nothing.
use mathlib.Core.Path.{◌≡◌, refl}
use mathlib.Core.List.{[]}
use lib.Ieee.{of_int, le, lt, is_nan}
use Rattle.limits.specs.Taken.{sign_bit, sign_clear, hue_count_taken, up_to, chroma_taken, entry_taken, every}
use Rattle.placement_rules.specs.Ring.{earliest, onward, from_start, first_from, placement}
use Rattle.placement_rules.specs.Placing.{allowed_at, work_needed, stores, checked, placement_says}
use Rattle.text.specs.Decimal.{decimal}
use Rattle.ring_reading.specs.Numbers.{is_digit, is_leading, number_of}
use Rattle.ring_reading.specs.Fields.{cut, lines_of, fields_of, numbers_of, line_of}
use Rattle.ring_answers.specs.Answers.{line_says, after_commas, parted, answer_text, answer_bytes, answer_of, answers_to, answers_of}
use Rattle.ring_answers.specs.Example.{All, example, input_of, output_of}

pub example_agrees : All example
unfolding answer_of answer_bytes answer_text parted after_commas line_says line_of numbers_of fields_of cut decimal number_of is_leading is_digit placement_says checked stores work_needed allowed_at placement first_from from_start onward earliest every entry_taken chroma_taken up_to hue_count_taken sign_clear sign_bit of_int le lt is_nan
example_agrees = (refl, (refl, (refl, (refl, (refl, tt)))))

-- the five lines as one input
pub example_answers : answers_of (input_of example) ≡ output_of example
unfolding answers_of answers_to lines_of answer_of answer_bytes answer_text parted after_commas line_says line_of numbers_of fields_of cut decimal number_of is_leading is_digit placement_says checked stores work_needed allowed_at placement first_from from_start onward earliest every entry_taken chroma_taken up_to hue_count_taken sign_clear sign_bit of_int le lt is_nan
example_answers = refl

-- "empty input writes nothing"
pub empty_input : answers_of [] ≡ []
unfolding answers_of answers_to lines_of cut
empty_input = refl
