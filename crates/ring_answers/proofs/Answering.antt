-- What is said to a line, by what was read of it, and the answer. Assumes nothing.
use mathlib.Core.Path.{◌≡◌, ap, ◌∙◌}
use mathlib.Core.List.{List}
use Prim.Native.Nat.{ℕ}
use lib.Ieee.{Float}
use native.Mathlib.Omega.{arith}
use lib.ListN.{length, take}
use Rattle.std.specs.Prelude.{Option, Some, None, Result, Err}
use Rattle.limits.specs.declared.Refusal.{Refusal}
use Rattle.limits.specs.declared.Refusal.TheVariants.{Line}
use Rattle.limits.specs.Answers.{Said, refused}
use Rattle.placement_rules.specs.Ring.{Places}
use Rattle.placement_rules.specs.Placing.{placement_says, placement_said}
use Rattle.text.specs.Put.{PutIn, Laid}
use Rattle.text.proofs.Put.{puts_over}
use Rattle.ring_reading.specs.Fields.{line_of}
use Rattle.ring_reading.specs.declared.Asked.{Asked}
use Rattle.ring_reading.specs.Reads.{LineRead}
use Rattle.placement_rules.specs.declared.Placement.{Placement}
use Rattle.ring_answers.specs.declared.Saying.{Saying}
use Rattle.ring_answers.specs.Answers.{room, line_says, answer_bytes, answer_of}
use Rattle.ring_answers.specs.Inner.{Says}
use Rattle.ring_answers.proofs.Writing.{answer_few, bytes_few}

-- a work buffer that is as long as number 8 asks
pub in_room : {said : Said Places} (k step : ℕ) (c : Float) (row : List Float) (space : ℕ) → space ≡ room → said ≡ placement_says k step c row space
    → said ≡ placement_says k step c row room
in_room k step c row space e s = s ∙ ap (placement_says k step c row) e

module _ (line : List ℕ) where
  -- a malformed line
  pub says_malformed : LineRead (line_of line) None → Says line (record { k = 0; found = Err Line })
  unfolding line_says
  says_malformed read = let l = read.asking in record { count = rw (← l); said = rw (← l) }

  -- any other
  pub says_asked : {found : Result (Option Placement) Refusal} (a : Asked) → LineRead (line_of line) (Some a) → placement_said found ≡ placement_says a.k a.step a.c (take a.length a.row) room
      → Says line (record { k = a.k; found = found })
  unfolding line_says
  says_asked a read s = let l = read.asking in record { count = rw (← l); said = rw (← l) s }

-- the answer to a line is what is said to it, and a text of 64 bytes has room for it
pub answer_said : {line before after : List ℕ} {w : ℕ} {r : Saying} → Says line r → length before ≡ 64
    → PutIn before 0 (answer_bytes r.k (placement_said r.found)) after w → Laid before (answer_of line) after w
unfolding answer_of
answer_said {line} s n p =
    let few = answer_few line in
    puts_over (omega arith) (rw (← s.count, ← s.said) p)

pub malformed_said : {before after : List ℕ} {w : ℕ} → length before ≡ 64 → PutIn before 0 (answer_bytes 0 (refused 17)) after w → Laid before (answer_bytes 0 (refused 17)) after w
malformed_said n p = let few = bytes_few 0 (refused 17) tt in puts_over (omega arith) p
