-- `level_set::takes_indices` meets its contract: each index passes the test where all of them do. Assumes nothing.
use mathlib.Core.Path.{◌∙◌}
use lib.Dec.{ltb}
use Rattle.std.proofs.Common.{rules, tests}
use Rattle.std.proofs.lemmas.Iterator.{YieldsList-from_slice}
use Rattle.std.proofs.lemmas.Iterator.Search.{all_from_yields_List}
use Rattle.level_set.proofs.Naming.{all_indices}
use Rattle.level_set.proofs.takes_indices.Goals as goal

pub returns : goal.returns
returns c =
    let n = c.args.n in
    let levels = c.args.levels.now in
    all_from_yields_List (λ l. ltb l n) _ _ _ c.all.ensures.ran (YieldsList-from_slice levels cc) (λ x b q k. search (rules, tests)) ∙ all_indices n levels
