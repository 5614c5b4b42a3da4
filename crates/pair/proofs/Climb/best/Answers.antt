-- `Climb::best` meets its contract: the largest is below the floor, or is climbed to. Assumes nothing.
use mathlib.Core.Path.{sym, ap, ◌∙◌}
use lib.Ieee.{Float, lt}
use Rattle.pair.proofs.Climbing.{too_high}
use Rattle.pair.proofs.Climb.best.Goals as goal

pub returns-then-self : goal.returns-then-self
returns-then-self c =
    let a = c.args.self in
    too_high a.k a.step a.floor a.row.now (ap (λ (x : Float). lt x a.floor) (sym a.top) ∙ c.if-self.true)

pub above-requires : goal.above-requires
above-requires c = record { fine = c.requires; top = c.args.self.top; above = c.if-self.false }
