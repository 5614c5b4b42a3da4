-- `roots::root_digits` meets its contract. The invariant is `Taken` of `proofs/Digits.antt`: what was taken of w is root ^ n and the rest, and the root is the greatest. Assumes nothing.
use Rattle.roots.proofs.Digits.{Taken}
use Rattle.roots.proofs.root_digits.Given as goal

abbrev pub invariant-loop : goal.invariant-loop
invariant-loop l = Taken l.n l.w l.counter l.root l.rest l.tail
