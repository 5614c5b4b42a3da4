-- `page::hundredfold` meets its contract, by the three ranges of the pattern. Assumes nothing.
use mathlib.Core.Path.{sym, subst}
use lib.Dec.{T}
use Rattle.page.proofs.Chroma.{units_low, units_middle, units_high, chroma_number}
use Rattle.page.proofs.hundredfold.Goals as goal

pub float_to_bits-bits : goal.float_to_bits-bits
float_to_bits-bits c = rw (chroma_number _ (subst T (sym c.well_formed.0.1) tt) c.requires.0 c.requires.1) tt

pub returns-then-bits-lt1115684864 : goal.returns-then-bits-lt1115684864
returns-then-bits-lt1115684864 c = units_low _ (subst T (sym c.well_formed.0.1) tt) c.requires.0 c.requires.1 c.if-bits-lt1115684864.true

pub returns-then-bits-lt1124073472 : goal.returns-then-bits-lt1124073472
returns-then-bits-lt1124073472 c = units_middle _ (subst T (sym c.well_formed.0.1) tt) c.requires.0 c.requires.1 c.if-bits-lt1115684864.false c.if-bits-lt1124073472.true

pub returns : goal.returns
returns c = units_high _ (subst T (sym c.well_formed.0.1) tt) c.requires.0 c.requires.1 c.if-bits-lt1124073472.false
