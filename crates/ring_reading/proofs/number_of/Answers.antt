-- `ring_reading::number_of` meets its contract: each return of a number has its law of the bytes that led there, and the tactics find the others. Assumes nothing.
use mathlib.Core.Path.{sym, ◌∙◌}
use native.Mathlib.Omega.{arith}
use Rattle.ring_reading.proofs.Places.{found_one, found_two, found_three}
use Rattle.ring_reading.proofs.number_of.Goals as goal

pub returns-then-b-eq44 : goal.returns-then-b-eq44
returns-then-b-eq44 c = λ line bytes. found_one bytes c.requires.0 _ c.value-number.ensures c.if-b-eq44.true

pub returns-then-c-eq44 : goal.returns-then-c-eq44
returns-then-c-eq44 c =
    λ line bytes. found_two bytes c.requires.0 (record { more = c.if-b-eq44.false; leading = omega arith; digit = sym c.is_digit.ensures ∙ c.if-not-is_digit.false }) _ _
    c.value.ensures
    c.value-then-c-eq44.ensures
    c.if-c-eq44.true

pub returns : goal.returns
returns c =
    λ line bytes. found_three bytes c.requires.0 (record { more = c.if-b-eq44.false; leading = omega arith; digit = sym c.is_digit.ensures ∙ c.if-not-is_digit.false }) c.if-c-eq44.false
    (sym c.is_digit-2.ensures ∙ c.if-not-is_digit-2.false) _ _ _
    c.value-2.ensures
    c.value-3.ensures
    c.value-4.ensures
    c.if-d-ne44.false
