-- `srgb::linear_to_srgb8` meets its contract. Assumes nothing.
use Rattle.srgb.specs.Channels.{linear_to_srgb8}
use Rattle.srgb.proofs.linear_to_srgb8.Goals as goal

pub returns : goal.returns
unfolding linear_to_srgb8
returns c = rw (c.encode.ensures, c.encode-2.ensures, c.encode-3.ensures)
