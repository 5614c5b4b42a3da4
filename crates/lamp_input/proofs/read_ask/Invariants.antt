-- `lamp_input::read_ask` meets its contract: what was read, with the rest of the line, says what the line asks. Assumes nothing.
use mathlib.Core.Path.{◌≡◌}
use lib.ListN.{drop}
use Rattle.std.specs.Prelude.{Some}
use Rattle.lamp_input.specs.Ask.{ask_of}
use Rattle.lamp_input.specs.Inner.{rest, Within}
use Rattle.lamp_input.proofs.read_ask.Given as goal

abbrev pub invariant-loop-byte : goal.invariant-loop-byte
invariant-loop-byte l = Within (Some l.part) × (rest (Some l.part) (drop l.byte-index l.text) ≡ ask_of l.line)
