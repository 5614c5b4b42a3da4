-- `color::lab_f_inv` meets its contract, by its test. Assumes nothing.
use lib.Ieee.{of_bits, of_int, div, round}
use Rattle.color.specs.Constants.{delta, offset}
use Rattle.color.specs.Color.{lab_fInv}
use Rattle.color.proofs.lab_f_inv.Goals as goal

pub returns-then-t-delta : goal.returns-then-t-delta
unfolding lab_fInv delta offset of_bits of_int div round
returns-then-t-delta c = rw c.if-t-delta.true

pub returns : goal.returns
unfolding lab_fInv delta offset of_bits of_int div round
returns c = rw c.if-t-delta.false
