-- `patterns::is_nan_pattern` meets its contract: without its sign's bit, a NaN's pattern is above the infinity's. Assumes nothing.
use mathlib.Core.Path.{sym}
use lib.Ieee.{binary32}
use lib.Ieee.Bits.{nan_bits_above}
use Rattle.patterns.proofs.is_nan_pattern.Goals as goal

pub returns : goal.returns
returns c = sym (nan_bits_above binary32 c.args.bits)
