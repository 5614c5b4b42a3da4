-- `srgb::channel_in_gamut` meets its contract, by its two tests. Assumes nothing.
use lib.Ieee.{of_bits, of_int, neg, round}
use Rattle.srgb.specs.Channels.{gamut_low, gamut_high}
use Rattle.srgb.specs.Channels.{gamut_channel}
use Rattle.srgb.proofs.channel_in_gamut.Goals as goal

pub returns-then-v : goal.returns-then-v
unfolding gamut_channel gamut_low gamut_high of_bits of_int neg round
returns-then-v c = rw c.if-v.true

pub returns-else-v : goal.returns-else-v
unfolding gamut_channel gamut_low gamut_high of_bits of_int neg round
returns-else-v c = rw c.if-v.false
