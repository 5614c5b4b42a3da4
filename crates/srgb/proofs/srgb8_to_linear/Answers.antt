-- `srgb::srgb8_to_linear` meets its contract. Assumes nothing.
use Rattle.srgb.specs.Channels.{srgb8_to_linear}
use Rattle.srgb.proofs.srgb8_to_linear.Goals as goal

pub returns : goal.returns
unfolding srgb8_to_linear
returns c = rw (c.decode.ensures, c.decode-2.ensures, c.decode-3.ensures)
