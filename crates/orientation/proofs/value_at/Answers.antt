-- `orientation::value_at` meets its contract: its two entries are those of the rows. Assumes nothing.
use Prim.Native.Nat.{◌<◌}
use Rattle.std.proofs.Common.{rules}
use native.Mathlib.Omega.{arith}
use Rattle.gamut.proofs.Table.{row_entry}
use Rattle.pair_rules.proofs.Rows.{of_two}
use Rattle.orientation.proofs.value_at.Goals as goal

pub returns : goal.returns
returns c =
    let a = c.args in
    let h : a.hue < 720 = let u = c.requires.hue_in in omega arith in
    rw (of_two, row_entry a.table.now a.dark a.hue h, row_entry a.table.now a.light a.hue h) (search rules)
