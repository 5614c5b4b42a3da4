-- What a halving between f32 from 0 to 200 meets: f32 from 0 to 200, no NaN among them, and equal where their patterns are. Assumes nothing.
use mathlib.Core.Path.{◌≡◌, refl, sym, ap, ◌∙◌}
use mathlib.Core.Bool.{false}
use native.Mathlib.Omega.{arith}
use lib.Dec.{T}
use lib.Ieee.{Float, nan, inf, fin, binary32, of_bits, to_bits, is_nan, fits, round, add}
use lib.Ieee.Bits.{of_bits-to_bits}
use lib.Ieee.Fits.{mul-fits}
use Rattle.halving.specs.Midpoint.{midpoint}
use Rattle.halving.proofs.Range.{UpTo, midpoint_up_to}

pub record Met (c : Float) : Type 0 where
  pub up_to_lem : UpTo 200 c
  pub f32 : T (fits binary32 c)

pub no_nan : {c : Float} → Met c → is_nan c ≡ false
unfolding is_nan
no_nan {c} m = go c m.up_to_lem
  where
    go : (x : Float) → UpTo 200 x → is_nan x ≡ false
    go nan p = absurd p
    go (inf s) p = refl
    go (fin s m e) p = refl

pub midpoint_met : {lo hi : Float} → Met lo → Met hi → Met (midpoint lo hi)
unfolding midpoint
midpoint_met {lo} {hi} l h = record { up_to_lem = midpoint_up_to 200 lo hi (omega arith) l.up_to_lem h.up_to_lem; f32 = mul-fits binary32 (round binary32 false 1 2) (add binary32 lo hi) }

-- equal patterns are equal numbers
pub same_pattern : {x y : Float} → Met x → Met y → to_bits binary32 x ≡ to_bits binary32 y → x ≡ y
same_pattern {x} {y} p q h = sym (of_bits-to_bits binary32 x p.f32) ∙ ap (of_bits binary32) h ∙ of_bits-to_bits binary32 y q.f32
