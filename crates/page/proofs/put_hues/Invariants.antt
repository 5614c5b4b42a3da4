-- `page::put_hues` meets its contract. The invariant: the hues so far are put. Assumes nothing.
use lib.ListN.{take}
use Rattle.text.specs.Put.{PutIn}
use Rattle.page_lines.specs.Lines.{lines_of}
use Rattle.page.specs.Page.{hue_rows}
use Rattle.page.proofs.put_hues.Given as goal

abbrev pub invariant-loop-hue : goal.invariant-loop-hue
invariant-loop-hue l = PutIn l.initial.page l.at (lines_of (hue_rows (take l.hue-index l.hue-items))) l.page l.to
