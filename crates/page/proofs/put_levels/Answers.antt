-- `page::put_levels` meets its contract. Assumes nothing.
use Rattle.page_lines.specs.Lines.{row}
use Rattle.page_lines.proofs.Rows.{puts_three}
use Rattle.page.specs.Page.{hues_word, dark_word, light_word}
use Rattle.page.proofs.put_levels.Goals as goal

pub returns : goal.returns
returns c =
    puts_three (row hues_word _) (row dark_word _) (row light_word _) c.put_row-first.ensures c.put_row-second.ensures c.put_row.ensures
