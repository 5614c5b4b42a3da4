-- `ring_reading::read_entries` meets its contract. The invariant: the entries so far are read, and what the fields that are left must be is known. Assumes nothing.
use native.Mathlib.Omega.{arith}
use Rattle.ring_reading.proofs.Entries.{read_begins, read_fails, read_next, read_whole, read_more}
use Rattle.ring_reading.proofs.Shape.{wrong_entries, well_formed}
use Rattle.ring_reading.proofs.read_entries.Goals as goal

pub loop-entry-init : goal.loop-entry-init
loop-entry-init c = read_begins _ _ _ _ c.requires (omega arith) c.no_row-row.ensures

pub returns-in_err-field : goal.returns-in_err-field
returns-in_err-field c =
    let s = c.loop-entry.invariant in
    let l = s.long in
    let h = c.loop-entry-test.true in
    rw c.from_residual.ensures (wrong_entries _ _ _ (read_fails s (omega arith) c.in_err-field.ensures))

pub loop-entry-preserved : goal.loop-entry-preserved
loop-entry-preserved c =
    let f = c.in_ok-field.ensures in
    let s = c.loop-entry.invariant in
    let l = s.long in
    let h = c.loop-entry-test.true in
    read_next s _ _ (omega arith) f.1.0 f.1.1

pub returns-then-at-line : goal.returns-then-at-line
returns-then-at-line c =
    let s = c.loop-entry.invariant in
    let l = s.long in
    let h = c.loop-entry-test.false in
    wrong_entries _ _ _ (read_more _ _ s (omega arith) c.if-at-line.true)

pub returns : goal.returns
returns c =
    let s = c.loop-entry.invariant in
    let l = s.long in
    let h = c.loop-entry-test.false in
    well_formed _ _ c.requires (omega arith) s.long c.no_row-row.ensures (read_whole _ _ s (omega arith) c.if-at-line.false)
