-- Two slices that are taken as directions are 720 long. Assumes nothing.
use mathlib.Core.Path.{◌≡◌, refl}
use mathlib.Core.Bool.{Bool, true, false, ◌&&◌}
use mathlib.Core.List.{List}
use lib.Dec.{eqb}
use lib.Ieee.{Float}
use lib.ListN.{length}
use borrow.Author.Tests.{eqb-true}
use Rattle.limits.proofs.Floats.{never}
use Rattle.limits.specs.Taken.{every, direction_taken, directions_taken}

pub directions_long : (cs ss : List Float) → directions_taken cs ss ≡ true → (length cs ≡ 720) × (length ss ≡ 720)
unfolding directions_taken
directions_long cs ss h = go (eqb (length cs) 720) (eqb (length ss) 720) (eqb-true (length cs) 720) (eqb-true (length ss) 720) h
  where
    go : (a b : Bool) → (a ≡ true → length cs ≡ 720) → (b ≡ true → length ss ≡ 720) → (a && (b && (every direction_taken cs && every direction_taken ss))) ≡ true → (length cs ≡ 720) × (length ss ≡ 720)
    go true true f g e = (f refl, g refl)
    go true false f g e = never e
    go false b f g e = never e
