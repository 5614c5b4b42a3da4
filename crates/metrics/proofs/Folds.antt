-- The folds of the definitions are the library's; and what is left of the pairs of some hues. Assumes nothing.
use mathlib.Core.Path.{◌≡◌, refl, sym, ap}
use mathlib.Core.List.{List, [], ◌∷◌}
use Prim.Native.Nat.{ℕ, ◌+◌, ◌≤◌, ◌<◌}
use native.Mathlib.Numerals.{add-one}
use lib.Ieee.{Float, nan}
use lib.ListN.{length, get_or, drop, drop_of_length-le}
use lib.Seq.{drop-cons}
use Rattle.std.specs.List.{fold}
use Rattle.metrics.specs.Metrics.{folded, least_from, least_apart}

pub folded_is : (f : Float → Float → Float) (so : Float) (xs : List Float) → fold f so xs ≡ folded f so xs
unfolding folded
folded_is f so [] = refl
folded_is f so (x ∷ xs) = folded_is f (f so x) xs

-- the hue at place i, with those after it
pub apart_next : (xs : List Float) (so : Float) (i : ℕ) → i < length xs → least_apart (least_from so (get_or xs i nan) (drop (i + 1) xs)) (drop (i + 1) xs) ≡ least_apart so (drop i xs)
unfolding least_apart
apart_next xs so i h = rw (add-one, drop-cons xs i nan h)

-- and none after the last
pub apart_done : (xs : List Float) (so : Float) (i : ℕ) → length xs ≤ i → so ≡ least_apart so (drop i xs)
unfolding least_apart
apart_done xs so i h = sym (ap (least_apart so) (drop_of_length-le xs h))
