-- `Ring::ahead` meets its contract. Assumes nothing.
use Rattle.placement.proofs.Table.{round_again}
use Rattle.placement.proofs.Ring.ahead.Goals as goal

pub returns-else-from-n : goal.returns-else-from-n
returns-else-from-n c = let r = c.args.self.now in round_again r.m.now r.c c.args.next.now c.requires.0 c.args.from c.if-from-n.false c.requires.1
