-- `level_set::takes_rows` meets its contract: each row passes the test where all of them do. Assumes nothing.
use mathlib.Core.Path.{◌∙◌}
use Rattle.std.proofs.Common.{rules, tests}
use Rattle.std.proofs.lemmas.Iterator.{YieldsList-from_slice}
use Rattle.std.proofs.lemmas.Iterator.Search.{all_from_yields_List}
use Rattle.std.proofs.lemmas.Iterator.Adapters.{serves_from_places}
use Rattle.limits.specs.Taken.{entry_taken, every}
use Rattle.gamut.specs.Table.{row_at}
use Rattle.level_set.proofs.Naming.{all_rows, level_of}
use Rattle.level_set.proofs.takes_rows.Goals as goal

pub all-requires-clause-callable : goal.all-requires-clause-callable
all-requires-clause-callable c =
    serves_from_places (YieldsList-from_slice c.args.levels.now cc) (λ x q k. search rules) (λ x k h e. let f = level_of c.args.table.now c.args.levels.now c.requires x.now k h e in search (rules, f))

pub returns : goal.returns
returns c =
    let t = c.args.table.now in
    let levels = c.args.levels.now in
    all_from_yields_List (λ l. every entry_taken (row_at t l)) _ _ _ c.all.ensures.ran (YieldsList-from_slice levels cc) (λ x b q k. search (rules, tests)) ∙ all_rows t levels
