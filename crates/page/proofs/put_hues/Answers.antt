-- `page::put_hues` meets its contract. The invariant: the hues so far are put. Assumes nothing.
use Rattle.page_lines.proofs.Rows.{puts_no_row}
use Rattle.page.proofs.Rows.{puts_hue}
use Rattle.page.proofs.put_hues.Goals as goal

pub loop-hue-init : goal.loop-hue-init
loop-hue-init c = puts_no_row _ _ c.requires.1

pub loop-hue-preserved : goal.loop-hue-preserved
loop-hue-preserved c = puts_hue _ c.loop-hue.hue-index c.loop-hue-test.true c.loop-hue.invariant c.put_hue-to.ensures
