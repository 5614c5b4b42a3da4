-- `page::put_found` meets its contract. Assumes nothing.
use Rattle.page.proofs.Laying.{puts_found}
use Rattle.page.proofs.put_found.Goals as goal

pub returns : goal.returns
returns c =
    puts_found _ _ _ _ _ c.put_levels-levels.ensures c.put_chroma-chroma.ensures c.put_hues.ensures
