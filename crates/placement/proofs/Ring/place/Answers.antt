-- `Ring::place` meets its contract: where an index is allowed the table is filled and the starts are tried, and where none is nothing is placed. Assumes nothing.
use mathlib.Core.Path.{sym, ap, ◌∙◌}
use Rattle.placement_rules.specs.Placing.{sixteen}
use Rattle.placement.proofs.Table.{is_there, is_none}
use Rattle.placement.proofs.First.{none_allowed}
use Rattle.placement.proofs.Placing.{hands_none}
use Rattle.placement.proofs.Ring.place.Goals as goal

pub returns-then-first : goal.returns-then-first
returns-then-first c =
    let a = c.args.self.now in
    let none = is_none a.m.now a.c a.asked.short (sym c.if-first.true ∙ c.first_allowed-first.ensures) in
    hands_none _ _ (ap sixteen (none_allowed a.m.now a.c a.k a.step a.asked none))

pub fill-requires : goal.fill-requires
fill-requires c =
    let there = is_there c.args.self.now.m.now c.args.self.now.c c.first_allowed-first.result c.first_allowed-first.ensures c.if-first.false in
    record { short = c.args.self.now.asked.short; is_first = there.0; there = there.1; long = c.requires }
