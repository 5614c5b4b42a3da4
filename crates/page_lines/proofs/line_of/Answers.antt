-- `page_lines::line_of` meets its contract. Assumes nothing.
use mathlib.Core.Path.{refl}
use borrow.Author.Rules.{rules}
use Rattle.page_lines.proofs.Line.{line_made}
use Rattle.page_lines.proofs.line_of.Goals as goal

pub returns : goal.returns
returns c =
    let p = c.before.before in
    line_made _ _ (search rules) p.put_bytes.ensures refl c.numbered.ensures
