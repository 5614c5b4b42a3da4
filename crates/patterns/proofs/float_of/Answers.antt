-- `patterns::float_of` meets its contract: a NaN's pattern stands for the NaN. Assumes nothing.
use mathlib.Core.Path.{◌≡◌, refl, sym, ◌∙◌}
use mathlib.Core.Bool.{true}
use lib.Ieee.{Float, nan, inf, fin, binary32, of_bits, is_nan}
use lib.Ieee.Bits.{nan_bits_is}
use Rattle.patterns.proofs.float_of.Goals as goal

-- ---- only the NaN is one
nan_is : (x : Float) → is_nan x ≡ true → nan ≡ x
unfolding is_nan
nan_is nan e = refl
nan_is (inf s) e = cc
nan_is (fin s m k) e = cc

pub returns-then-is_nan_pattern : goal.returns-then-is_nan_pattern
unfolding of_bits
returns-then-is_nan_pattern c = nan_is _ (sym (c.is_nan_pattern.ensures ∙ nan_bits_is binary32 _) ∙ c.if-is_nan_pattern.true)
