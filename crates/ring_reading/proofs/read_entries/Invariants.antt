-- `ring_reading::read_entries` meets its contract. The invariant: the entries so far are read, and what the fields that are left must be is known. Assumes nothing.
use Rattle.ring_reading.specs.Inner.{fields_from, entries_of}
use Rattle.ring_reading.proofs.Entries.{SoFar}
use Rattle.ring_reading.proofs.read_entries.Given as goal

abbrev pub invariant-loop-entry : goal.invariant-loop-entry
invariant-loop-entry l = SoFar (entries_of l.length (fields_from l.line l.head.entries)) l.length l.entry-index l.entry-items (fields_from l.line l.at)
