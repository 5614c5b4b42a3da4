-- `page_lines::numbered` meets its contract. The invariant: the last digits stand. Assumes nothing.
use Rattle.page_lines.proofs.Line.{Writing}
use Rattle.page_lines.proofs.numbered.Given as goal

abbrev pub invariant-loop-at : goal.invariant-loop-at
invariant-loop-at l = Writing l.initial.to l.n l.to l.rest l.at
