-- `page::put_chroma` meets its contract. Assumes nothing.
use mathlib.Core.Path.{refl}
use Rattle.page.proofs.Laying.{puts_chroma}
use Rattle.page.proofs.put_chroma.Goals as goal

pub returns : goal.returns
returns c =
    puts_chroma _ _ _ _ c.hundredfold-n.ensures c.put_row-next.ensures refl c.put_row.ensures refl
