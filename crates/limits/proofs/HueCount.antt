-- What a hue count that is taken is, and that such a one is taken. Assumes nothing.
use mathlib.Core.Path.{◌≡◌, refl}
use mathlib.Core.Bool.{Bool, true, false, ◌&&◌}
use Prim.Native.Nat.{ℕ, ◌≤◌}
use lib.Dec.{leb}
use borrow.Author.Tests.{leb-true, le-leb}
use Rattle.limits.specs.Taken.{hue_count_taken}
use Rattle.limits.proofs.Floats.{never}

-- two tests that both pass
pub both : (a b : Bool) → (a && b) ≡ true → (a ≡ true) × (b ≡ true)
both true b h = (refl, h)
both false b h = never h

pub hue_count : (k : ℕ) → hue_count_taken k ≡ true → (1 ≤ k) × (k ≤ 16)
unfolding hue_count_taken
hue_count k h = let t = both (leb 1 k) (leb k 16) h in (leb-true 1 k t.0, leb-true k 16 t.1)

pub count_taken : (k : ℕ) → (1 ≤ k) × (k ≤ 16) → hue_count_taken k ≡ true
unfolding hue_count_taken
count_taken k h = rw (le-leb 1 k h.0, le-leb k 16 h.1)
