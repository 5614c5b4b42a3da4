-- `search_checks::holds_hues` meets its contract: its two tests are those of the two parts. Assumes nothing.
use Rattle.std.proofs.Common.{rules}
use Rattle.std.proofs.lemmas.Iterator.{YieldsList-from_slice, YieldsList-from_take}
use Rattle.std.proofs.lemmas.Iterator.Adapters.{YieldsList-from_skip}
use Rattle.std.proofs.lemmas.Iterator.Search.{all_from_yields_List}
use borrow.Author.Tests.{tests}
use lib.Dec.{leb, eqb}
use Rattle.search_checks.proofs.Held.{by_others, by_first}
use Rattle.search_checks.proofs.holds_hues.Goals as goal

pub returns-then-all : goal.returns-then-all
returns-then-all c =
    let n = c.args.n in
    let hues = c.args.hues in
    by_others n hues
    (all_from_yields_List (λ h. leb h 719) _ _ c.all.result c.all.ensures.ran (YieldsList-from_take n (YieldsList-from_slice hues cc) cc) (λ x b q k. search (rules, tests)))
    c.if-all.true
    (all_from_yields_List (λ h. eqb h 0) _ _ c.all-then-all.result c.all-then-all.ensures.ran (YieldsList-from_skip n (YieldsList-from_slice hues cc) cc) (λ x b q k. search (rules, tests)))

pub returns-else-all : goal.returns-else-all
returns-else-all c =
    let n = c.args.n in
    let hues = c.args.hues in
    by_first n hues
    (all_from_yields_List (λ h. leb h 719) _ _ c.all.result c.all.ensures.ran (YieldsList-from_take n (YieldsList-from_slice hues cc) cc) (λ x b q k. search (rules, tests)))
    c.if-all.false
