-- `roots::gain` meets its contract at degree 3, by the laws of `proofs/Powers.antt`. Assumes nothing.
use Prim.Native.Nat.{◌+◌, ◌*◌, ◌<◌}
use Rattle.roots.proofs.Powers.{third, cube_gain, cube_gain_small}
use Rattle.roots.proofs.gain.Goals as goal

small : (c : goal.Else-n-eq2) → (12 * c.args.a + 6) * c.args.a + 1 < 4503599627370496
small c = cube_gain_small c.args.a c.requires.1

pub returns-else-n-eq2 : goal.returns-else-n-eq2
returns-else-n-eq2 c = rw (third _ c.requires.0 c.if-n-eq2.false) (cube_gain c.args.a, small c)
