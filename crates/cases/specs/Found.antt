-- What a line is, by what was read of it. Definitions only.
use Rattle.std.specs.Prelude.{Bool, true, false}
use Rattle.cases.specs.declared.Stage.{Stage}
use Rattle.cases.specs.declared.Stage.TheVariants.{Start, Operation, Words, Comment, Unreadable}
use Rattle.cases.specs.declared.Found.{Found}
use Rattle.cases.specs.declared.Found.TheVariants.{Open, Nothing, Case, Malformed}

-- whether its newline was read, and what the bytes before that were
abbrev pub found_of : Bool → Stage → Found
found_of false s = Open
found_of true Start = Nothing
found_of true Comment = Nothing
found_of true Operation = Case
found_of true Words = Case
found_of true Unreadable = Malformed

-- the same where the list ends: what has bytes of a case and no newline is malformed
abbrev pub left_of : Bool → Stage → Found
left_of true s = Nothing
left_of false Start = Nothing
left_of false Comment = Nothing
left_of false Operation = Malformed
left_of false Words = Malformed
left_of false Unreadable = Malformed
