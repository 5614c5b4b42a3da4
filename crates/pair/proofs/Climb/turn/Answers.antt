-- `Climb::turn` meets its contract: the midpoint is an end and nothing moves, or hues are placed there, or none are. Assumes nothing.
use Rattle.halving.proofs.Meeting.{no_nan}
use Rattle.pair.proofs.Climbing.{mid_met, mid_fine, at_low, up, at_high, down}
use Rattle.pair.proofs.Climb.turn.Goals as goal

pub float_to_bits-mid : goal.float_to_bits-mid
float_to_bits-mid c = rw (no_nan (mid_met c.requires c.midpoint-mid.ensures)) tt

pub float_to_bits-at : goal.float_to_bits-at
float_to_bits-at c = rw (no_nan c.requires.low) tt

pub returns-then-mid-at : goal.returns-then-mid-at
returns-then-mid-at c = at_low c.requires c.midpoint-mid.ensures c.if-mid-at.true

pub place-requires : goal.place-requires
place-requires c = mid_fine c.requires c.midpoint-mid.ensures

pub float_to_bits-mid-2 : goal.float_to_bits-mid-2
float_to_bits-mid-2 c = rw (no_nan (mid_met c.requires c.midpoint-mid.ensures)) tt

pub float_to_bits-at-2 : goal.float_to_bits-at-2
float_to_bits-at-2 c = rw (no_nan c.requires.high) tt

pub returns-in-Some : goal.returns-in-Some
returns-in-Some c = up c.requires c.midpoint-mid.ensures c.in-Some.placed c.in-Some.ensures

pub returns-then-mid-at-2 : goal.returns-then-mid-at-2
returns-then-mid-at-2 c = at_high c.requires c.midpoint-mid.ensures c.in_default.ensures c.if-mid-at-2.true

pub returns : goal.returns
returns c = down c.requires c.midpoint-mid.ensures c.in_default.ensures
