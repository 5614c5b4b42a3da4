-- `page::put_none` meets its contract. Assumes nothing.
use mathlib.Core.Path.{refl}
use Rattle.page_lines.specs.Lines.{row}
use Rattle.page_lines.proofs.Rows.{puts_word, puts_two}
use Rattle.page.specs.Page.{hues_word, none_word}
use Rattle.page.proofs.put_none.Goals as goal

pub returns : goal.returns
returns c =
    puts_two (row hues_word _) (row none_word _) c.put_row-next.ensures (puts_word none_word _ c.put_row.ensures refl)
