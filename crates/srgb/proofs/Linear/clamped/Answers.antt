-- `srgb::Linear::clamped` meets its contract: the library's `clamp` tests as the definition does. Assumes nothing.
use lib.Ieee.{of_bits, of_int}
use Rattle.srgb.specs.Channels.{clamp_to, clamped_of}
use Rattle.srgb.proofs.Linear.clamped.Goals as goal

pub returns : goal.returns
unfolding clamped_of clamp_to of_bits of_int
returns c = rw (c.clamp.ensures.value, c.clamp-2.ensures.value, c.clamp-3.ensures.value)
