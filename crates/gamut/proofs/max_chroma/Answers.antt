-- `gamut::max_chroma` meets its contract. The invariant: what is left of the 40 halvings, from lo to hi, ends where all of them do, and lo and hi are f32 from 0 to 200. A round
-- whose midpoint is an end and moves nothing leaves the rest unchanged. Assumes nothing.
use mathlib.Core.Path.{◌≡◌, refl, sym, ap, ◌∙◌}
use mathlib.Core.Bool.{Bool, true, false}
use Prim.Native.Nat.{ℕ, ◌+◌, ◌-◌, ◌≤◌, ◌<◌}
use native.Mathlib.Omega.{arith}
use lib.IntN.{pos}
use lib.Ieee.{Float, binary32, to_bits, of_bits, of_int, is_nan, lt}
use lib.Ieee.Fits.{of_int-fits}
use Rattle.limits.specs.Taken.{f32_of, up_to, sign_clear, sign_bit}
use Rattle.halving.specs.Midpoint.{midpoint, halve}
use Rattle.halving.proofs.Halve.{turn_up, turn_down, turned, stays_low, stays_high}
use Rattle.halving.proofs.Meeting.{Met, no_nan, midpoint_met, same_pattern}
use Rattle.halving.proofs.Range.{taken_up_to}
use Rattle.color.specs.Color.{lch_in_gamut}
use Rattle.gamut.specs.Gamut.{max_chroma}
use Rattle.gamut.proofs.max_chroma.Goals as goal
use Rattle.gamut.proofs.max_chroma.Goals.{then-lch_in_gamut-2+else-mid-lo, else-lch_in_gamut-2+else-mid-hi}

-- both ends at the start
lowest : Met (f32_of 0)
unfolding up_to sign_clear sign_bit is_nan lt of_int
lowest = record { up_to_lem = taken_up_to 200 (f32_of 0) (omega arith) refl; f32 = of_int-fits binary32 (pos 0) }

highest : Met (f32_of 200)
unfolding up_to sign_clear sign_bit is_nan lt of_int
highest = record { up_to_lem = taken_up_to 200 (f32_of 200) (omega arith) refl; f32 = of_int-fits binary32 (pos 200) }

pub returns-then-lch_in_gamut : goal.returns-then-lch_in_gamut
unfolding max_chroma of_bits of_int
returns-then-lch_in_gamut c = rw (sym c.lch_in_gamut.ensures ∙ c.if-lch_in_gamut.true)

pub loop-init : goal.loop-init
unfolding of_bits of_int
loop-init c = ((lowest, highest), refl)

-- the loop's end is the function's
ended : (l cos sin lo : Float) → lch_in_gamut l cos sin (f32_of 200) ≡ false → lo ≡ halve (lch_in_gamut l cos sin) 40 (f32_of 0) (f32_of 200) → lo ≡ max_chroma l cos sin
unfolding max_chroma
ended l cos sin lo f e = e ∙ rw f

-- one round, from lo to hi after i of the 40 halvings: what is known of the midpoint
module _ (ok : Float → Bool) (i : ℕ) (lo hi end : Float) (low : Met lo) (high : Met hi) (rest : halve ok (40 - i) lo hi ≡ end) (mid : Float) (is : mid ≡ midpoint lo hi) where
  mid_met : Met mid
  mid_met = rw is (midpoint_met low high)

  -- the rest of the rounds change nothing where the midpoint is lo and in gamut, or hi and not
  at_low : ok mid ≡ true → to_bits binary32 mid ≡ to_bits binary32 lo → lo ≡ end
  at_low t b =
      let same : mid ≡ lo = same_pattern mid_met low b in
      sym (stays_low ok (40 - i) lo hi (sym is ∙ same) (ap ok (sym same) ∙ t)) ∙ rest

  at_high : ok mid ≡ false → to_bits binary32 mid ≡ to_bits binary32 hi → lo ≡ end
  at_high f b =
      let same : mid ≡ hi = same_pattern mid_met high b in
      sym (stays_high ok (40 - i) lo hi (sym is ∙ same) (ap ok (sym same) ∙ f)) ∙ rest

  up : i < 40 → ok mid ≡ true → (Met mid × Met hi) × (halve ok (40 - (i + 1)) mid hi ≡ end)
  up h t = ((mid_met, high), rw is (turn_up ok 40 i lo hi end rest h (ap ok (sym is) ∙ t)))

  down : i < 40 → ok mid ≡ false → (Met lo × Met mid) × (halve ok (40 - (i + 1)) lo mid ≡ end)
  down h f = ((low, mid_met), rw is (turn_down ok 40 i lo hi end rest h (ap ok (sym is) ∙ f)))

pub float_to_bits-mid : goal.float_to_bits-mid
float_to_bits-mid c =
    let v = c.loop.invariant in
    rw (no_nan (mid_met _ _ _ _ _ v.0.0 v.0.1 v.1 _ c.midpoint-mid.ensures)) tt

pub float_to_bits-lo : goal.float_to_bits-lo
float_to_bits-lo c = rw (no_nan c.loop.invariant.0.0) tt

pub returns-then-mid-lo : goal.returns-then-mid-lo
unfolding of_bits of_int
returns-then-mid-lo c =
    let v = c.loop.invariant in
    ended _ _ _ _ (sym c.lch_in_gamut.ensures ∙ c.if-lch_in_gamut.false)
    (at_low _ _ _ _ _ v.0.0 v.0.1 v.1 _ c.midpoint-mid.ensures (sym c.lch_in_gamut-in-loop.ensures ∙ c.if-lch_in_gamut-2.true) c.if-mid-lo.true)

pub float_to_bits-mid-else-lch_in_gamut-2 : goal.float_to_bits-mid-else-lch_in_gamut-2
float_to_bits-mid-else-lch_in_gamut-2 c =
    let v = c.loop.invariant in
    rw (no_nan (mid_met _ _ _ _ _ v.0.0 v.0.1 v.1 _ c.midpoint-mid.ensures)) tt

pub float_to_bits-hi : goal.float_to_bits-hi
float_to_bits-hi c = rw (no_nan c.loop.invariant.0.1) tt

pub returns-then-mid-hi : goal.returns-then-mid-hi
unfolding of_bits of_int
returns-then-mid-hi c =
    let v = c.loop.invariant in
    ended _ _ _ _ (sym c.lch_in_gamut.ensures ∙ c.if-lch_in_gamut.false)
    (at_high _ _ _ _ _ v.0.0 v.0.1 v.1 _ c.midpoint-mid.ensures (sym c.lch_in_gamut-in-loop.ensures ∙ c.if-lch_in_gamut-2.false) c.if-mid-hi.true)

pub loop-preserved : goal.loop-preserved
loop-preserved c =
    let v = c.loop.invariant in
    let h : c.loop.counter < 40 = let k = c.loop-test.true in omega arith in
    elim c.if-lch_in_gamut-2.branch [
      | then-lch_in_gamut-2+else-mid-lo w ↦ rw (w.lo-is, w.hi-is) (up _ _ _ _ _ v.0.0 v.0.1 v.1 _ c.midpoint-mid.ensures h (sym c.lch_in_gamut-in-loop.ensures ∙ w.if-lch_in_gamut-2.true))
      | else-lch_in_gamut-2+else-mid-hi w ↦ rw (w.lo-is, w.hi-is) (down _ _ _ _ _ v.0.0 v.0.1 v.1 _ c.midpoint-mid.ensures h (sym c.lch_in_gamut-in-loop.ensures ∙ w.if-lch_in_gamut-2.false))
    ]

pub returns : goal.returns
unfolding of_bits of_int
returns c =
    let last : 40 ≤ c.loop.counter = let k = c.loop-test.false in omega arith in
    ended _ _ _ _ (sym c.lch_in_gamut.ensures ∙ c.if-lch_in_gamut.false) (turned (lch_in_gamut c.args.l c.args.cos c.args.sin) 40 c.loop.counter c.loop.lo c.loop.hi _ c.loop.invariant.1 last)
