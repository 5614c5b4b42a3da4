-- `pair::best` meets its contract: the row of least values is the front of the array, with its largest. Assumes nothing.
use mathlib.Core.Path.{◌≡◌, sym, ◌∙◌}
use mathlib.Core.List.{List, [], ◌∷◌}
use lib.Ieee.{Float}
use lib.ListN.{length, take, replicate, length-replicate}
use Rattle.std.proofs.lemmas.List.{length-take-le}
use native.Mathlib.Omega.{arith}
use Prim.Native.Nat.{ℕ, ◌≤◌}
use Rattle.pair.specs.Inner.{Taken}
use Rattle.pair.proofs.Checking.{short, least_checked, two_alike}
use Rattle.pair.proofs.best.Goals as goal

-- rows that are taken are of one length, no longer than the array
module _ (k step : ℕ) (floor : Float) (a b : List Float) (room : ℕ) (taken : Taken k step floor (a ∷ b ∷ []) room) where
  fits : length a ≤ 720
  fits = (short k step floor (a ∷ b ∷ []) room taken).1

  same : length b ≡ length a
  same = two_alike a b (short k step floor (a ∷ b ∷ []) room taken).0

  front : (x : Float) → length a ≡ length (take (length a) (replicate 720 x))
  front x = let h = fits in sym (length-take-le (length a) (replicate 720 x) (omega (arith, length-replicate 720 x)))

pub slice_bounds-least-end : goal.slice_bounds-least-end
slice_bounds-least-end c = let a = c.args in fits a.k a.step a.floor a.a.now a.b.now (length a.work.now) c.requires

pub slice_bounds-row-end : goal.slice_bounds-row-end
slice_bounds-row-end c = let a = c.args in front a.k a.step a.floor a.a.now a.b.now (length a.work.now) c.requires _

pub lesser_row-most-requires : goal.lesser_row-most-requires
lesser_row-most-requires c =
    let a = c.args in
    let e = front a.k a.step a.floor a.a.now a.b.now (length a.work.now) c.requires _ in
    (e, same a.k a.step a.floor a.a.now a.b.now (length a.work.now) c.requires ∙ e)

pub best-requires : goal.best-requires
best-requires c =
    let a = c.args in
    rw c.lesser_row-most.ensures.0 (least_checked a.k a.step a.floor (a.a.now ∷ a.b.now ∷ []) (length a.work.now) c.requires)
