-- The first finding, by the tests in the order of the findings, with the literals as the code has them. Assumes nothing.
use mathlib.Core.Path.{◌≡◌}
use mathlib.Core.Bool.{true, false}
use Prim.Native.Nat.{ℕ, ◌≤◌, ◌<◌}
use lib.Ieee.{Float, binary32, div, lt, of_bits, of_int}
use borrow.Author.Tests.{le-leb, lt-leb}
use Rattle.limits.specs.Taken.{f32_of}
use Rattle.metrics.specs.declared.Metrics.{Metrics}
use Rattle.palette.specs.Validation.{Judgement, passed, finding, findings, first_of}

module _ (k : ℕ) (m : Metrics) where
  abbrev first : Judgement
  first = first_of (findings k m)

  gap_found : lt m.gap (f32_of 40) ≡ true → finding 1 ≡ first
  unfolding findings first_of
  gap_found t = rw t

  module _ (one : lt m.gap (f32_of 40) ≡ false) where
    spread_found : lt (f32_of 12) m.spread ≡ true → finding 2 ≡ first
    unfolding findings first_of
    spread_found t = rw (one, t)

    module _ (two : lt (f32_of 12) m.spread ≡ false) where
      one_hue : k < 2 → passed ≡ first
      unfolding findings first_of
      one_hue h = rw (one, two, lt-leb 2 k h)

      module _ (more : 2 ≤ k) where
        separation_found : lt m.separation (div binary32 (f32_of 300) (f32_of k)) ≡ true → finding 3 ≡ first
        unfolding findings first_of
        separation_found t = rw (one, two, le-leb 2 k more, t)

        module _ (three : lt m.separation (div binary32 (f32_of 300) (f32_of k)) ≡ false) where
          chroma_found : lt m.chroma (f32_of 35) ≡ true → finding 4 ≡ first
          unfolding findings first_of
          chroma_found t = rw (one, two, le-leb 2 k more, three, t)

          none_found : lt m.chroma (f32_of 35) ≡ false → passed ≡ first
          unfolding findings first_of
          none_found t = rw (one, two, le-leb 2 k more, three, t)

-- ---- the same by the patterns of 40, 12, 300 and 35
abbrev f40 : Float
f40 = of_bits binary32 1109393408

abbrev f12 : Float
f12 = of_bits binary32 1094713344

abbrev least : ℕ → Float
least k = div binary32 (of_bits binary32 1133903872) (f32_of k)

abbrev f35 : Float
f35 = of_bits binary32 1108082688

pub finds_gap : (k : ℕ) (m : Metrics) → lt m.gap f40 ≡ true → finding 1 ≡ first_of (findings k m)
unfolding of_bits of_int
finds_gap k m a = gap_found k m a

pub finds_spread : (k : ℕ) (m : Metrics) → lt m.gap f40 ≡ false → lt f12 m.spread ≡ true → finding 2 ≡ first_of (findings k m)
unfolding of_bits of_int
finds_spread k m a b = spread_found k m a b

pub passes_one : (k : ℕ) (m : Metrics) → lt m.gap f40 ≡ false → lt f12 m.spread ≡ false → k < 2 → passed ≡ first_of (findings k m)
unfolding of_bits of_int
passes_one k m a b h = one_hue k m a b h

pub finds_separation : (k : ℕ) (m : Metrics) → lt m.gap f40 ≡ false → lt f12 m.spread ≡ false → 2 ≤ k → lt m.separation (least k) ≡ true
    → finding 3 ≡ first_of (findings k m)
unfolding of_bits of_int
finds_separation k m a b h d = separation_found k m a b h d

pub finds_chroma : (k : ℕ) (m : Metrics) → lt m.gap f40 ≡ false → lt f12 m.spread ≡ false → 2 ≤ k → lt m.separation (least k) ≡ false
    → lt m.chroma f35 ≡ true → finding 4 ≡ first_of (findings k m)
unfolding of_bits of_int
finds_chroma k m a b h d e = chroma_found k m a b h d e

pub passes_more : (k : ℕ) (m : Metrics) → lt m.gap f40 ≡ false → lt f12 m.spread ≡ false → 2 ≤ k → lt m.separation (least k) ≡ false
    → lt m.chroma f35 ≡ false → passed ≡ first_of (findings k m)
unfolding of_bits of_int
passes_more k m a b h d e = none_found k m a b h d e
