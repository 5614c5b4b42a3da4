-- `page::lay_out` meets its contract: a broken record, a buffer that is too short, and the page. Assumes nothing.
use mathlib.Core.Path.{◌≡◌, sym, ◌∙◌}
use mathlib.Core.Bool.{true}
use lib.ListN.{length}
use borrow.Author.Rules.{rules}
use Rattle.search_rules.specs.Job.{unbroken}
use Rattle.page.proofs.Laying.{lays_broken, lays_short, lays_page}
use Rattle.page.proofs.lay_out.Goals as goal

pub returns-then-not-is_unbroken : goal.returns-then-not-is_unbroken
returns-then-not-is_unbroken c = lays_broken _ _ (sym c.is_unbroken.ensures ∙ c.if-not-is_unbroken.true)

pub returns-then-page-bytes_with : goal.returns-then-page-bytes_with
returns-then-page-bytes_with c =
    let long : length c.args.job.hues ≡ 16 = search rules in
    let whole : unbroken c.args.job ≡ true = sym c.is_unbroken.ensures ∙ c.if-not-is_unbroken.false in
    lays_short _ _ long whole (rw c.bytes_with.ensures at c.if-page-bytes_with.true)

pub returns : goal.returns
returns c =
    let long : length c.args.job.hues ≡ 16 = search rules in
    let whole : unbroken c.args.job ≡ true = sym c.is_unbroken.ensures ∙ c.if-not-is_unbroken.false in
    lays_page _ _ long whole (rw c.bytes_with.ensures at c.if-page-bytes_with.false) c.put_page.ensures
