-- `color::Lab::chroma` meets its contract. Assumes nothing.
use Rattle.color.specs.Color.{chroma_of}
use Rattle.color.proofs.Lab.chroma.Goals as goal

pub returns : goal.returns
unfolding chroma_of
returns c = c.sqrt_inside.ensures
