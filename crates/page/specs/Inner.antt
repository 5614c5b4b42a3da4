-- What the private functions promise among themselves. Nothing here is a promise to a caller. Definitions only.
use Rattle.std.specs.Prelude.{◌≡◌, true, Float}
use Rattle.std.specs.Float.Ieee.{le}
use Rattle.limits.specs.Taken.{f32_of}
use Rattle.search_rules.specs.declared.Best.{Best}
use Rattle.search_rules.specs.declared.Best.TheVariants.{None, Found}

-- a chroma from 35 to 200
abbrev pub InRange : Float → Type 0
InRange c = (le (f32_of 35) c ≡ true) × (le c (f32_of 200) ≡ true)

-- that of a best, where it has one
abbrev pub ChromaWithin : Best → Type 0
ChromaWithin None = Unit
ChromaWithin (Found c d l) = InRange c
