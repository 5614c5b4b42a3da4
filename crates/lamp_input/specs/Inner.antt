-- What a caller is handed, and what the private functions that read a line promise among themselves. Definitions only.
use Rattle.std.specs.Prelude.{Option, Some, None, List, ℕ, ◌+◌, ◌*◌, ◌≤◌, ◌<◌}
use Rattle.lamp_input.specs.declared.Ask.{Ask}
use Rattle.lamp_input.specs.declared.Part.{Part}
use Rattle.lamp_input.specs.declared.Part.TheVariants.{Start, Count, Between, Whole, Decimals}
use Rattle.lamp_input.specs.Ask.{Line, malformed, asks, numbers_of, count_from, gap_from, whole_from, decimals_from}

-- what is handed over
abbrev pub ask_said : Option Ask → Line
ask_said None = malformed
ask_said (Some a) = asks a.k a.gap

-- what a line asks by what was read of it, where it may still ask something, and by the rest of its bytes
abbrev pub rest : Option Part → List ℕ → Line
rest None text = malformed
rest (Some Start) text = numbers_of text
rest (Some (Count k)) text = count_from k text
rest (Some (Between k)) text = gap_from k text
rest (Some (Whole k n)) text = whole_from k n text
rest (Some (Decimals k n unit)) text = decimals_from k n unit text

-- three digits before the point, and what four behind it can come to
abbrev pub Within : Option Part → Type 0
Within None = Unit {0}
Within (Some Start) = Unit {0}
Within (Some (Count k)) = Unit {0}
Within (Some (Between k)) = Unit {0}
Within (Some (Whole k n)) = n < 1000
Within (Some (Decimals k n unit)) = n + 10 * unit ≤ 10000000
