-- `ring_reading::head_of` meets its contract: the numbers that were found, one more at each step. Assumes nothing.
use native.Mathlib.Omega.{arith}
use Rattle.ring_reading.proofs.Shape.{begins, begins_next, begins_missing, begins_entries}
use Rattle.ring_reading.proofs.head_of.Goals as goal

pub returns-in_err-length : goal.returns-in_err-length
returns-in_err-length c = rw c.from_residual.ensures (begins_missing (begins _) (omega arith) c.in_err-length.ensures)

pub returns-in_err-k : goal.returns-in_err-k
returns-in_err-k c =
    let one = begins_next (begins _) _ c.in_ok-length.ensures in
    rw c.from_residual-in_err-k.ensures (begins_missing one (omega arith) c.in_err-k.ensures)

pub returns-in_err-step : goal.returns-in_err-step
returns-in_err-step c =
    let one = begins_next (begins _) _ c.in_ok-length.ensures in
    let two = begins_next one _ c.in_ok-k.ensures in
    rw c.from_residual-in_err-step.ensures (begins_missing two (omega arith) c.in_err-step.ensures)

pub returns-in_err-c : goal.returns-in_err-c
returns-in_err-c c =
    let one = begins_next (begins _) _ c.in_ok-length.ensures in
    let two = begins_next one _ c.in_ok-k.ensures in
    let three = begins_next two _ c.in_ok-step.ensures in
    rw c.from_residual-in_err-c.ensures (begins_missing three (omega arith) c.in_err-c.ensures)

pub returns : goal.returns
returns c =
    let one = begins_next (begins _) _ c.in_ok-length.ensures in
    let two = begins_next one _ c.in_ok-k.ensures in
    let three = begins_next two _ c.in_ok-step.ensures in
    (c.in_ok-length.ensures.0, begins_entries (begins_next three _ c.in_ok-c.ensures))
