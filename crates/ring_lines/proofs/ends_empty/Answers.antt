-- `ring_lines::ends_empty` meets its contract. Assumes nothing.
use Rattle.std.proofs.Common.{rules}
use Rattle.ring_lines.proofs.Taking.{end_empty}
use Rattle.ring_lines.proofs.ends_empty.Goals as goal

pub returns : goal.returns
returns c = end_empty _ _ (search rules)
