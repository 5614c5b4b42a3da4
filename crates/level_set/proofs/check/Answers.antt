-- `level_set::check` reads the rows named, once the table, the list and its indices are taken. Assumes nothing.
use mathlib.Core.Path.{sym, ◌∙◌}
use native.Mathlib.Omega.{arith}
use Rattle.std.proofs.lemmas.Bool.Decides.{nat_tests}
use Rattle.gamut.specs.Table.{levels_in}
use Rattle.gamut.proofs.Table.{levelled}
use Rattle.level_set_rules.proofs.Accepted.{indices_in}
use Rattle.level_set.proofs.check.Goals as goal

pub takes_rows-requires : goal.takes_rows-requires
unfolding levels_in
takes_rows-requires c =
    let some = sym c.is_empty.ensures ∙ c.if-is_empty.false in
    let l = levelled c.args.table.now (sym c.takes_table.ensures ∙ c.if-not-takes_table.false) in
    record { long = l.long; few_levels = l.few_levels; some_level = grind (arith, nat_tests, some); within = indices_in _ _ (sym c.takes_indices.ensures ∙ c.if-not-takes_indices.false) }
