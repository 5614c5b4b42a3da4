-- Where back-off ends, for any chroma up to 200 and with no bound on how many chromas are tried: at a chroma below 35 (`untried`), at one without a finding (`passing`),
-- and else where it ends from the chroma lowered by 0.05 (`lowering`). Assumes nothing.
use mathlib.Core.Path.{◌≡◌, refl, sym, ap, ◌∙◌}
use mathlib.Core.Bool.{Bool, true, false}
use Prim.Native.Nat.{ℕ, zero, suc, ◌≤◌, ◌<◌}
use native.Mathlib.Nat.{le_refl}
use native.Mathlib.Omega.{arith}
use lib.Dec.{T}
use lib.Ieee.{Float, binary32, to_bits, fits}
use Rattle.limits.specs.Taken.{chroma_taken}
use Rattle.halving.proofs.Plain.{Plain, taken_plain}
use Rattle.halving.proofs.Lower.{lower_falls}
use Rattle.palette.specs.Validation.{Judgement, passed, finding}
use Rattle.palette.specs.BackOff.{lower, tried, passes, lastly, end_from, end_after}

-- an f32 from 0 to 200
pub record Low (c : Float) : Type 0 where
  pub plain : Plain c
  pub below : to_bits binary32 c ≤ 1128792064

pub taken_low : (c : Float) → T (fits binary32 c) → chroma_taken c ≡ true → Low c
unfolding chroma_taken
taken_low c F h = let r = taken_plain c F h in record { plain = r.0; below = r.1 }

-- a chroma that is tried is lowered to one with a smaller pattern
pub lowered : (c : Float) → Low c → tried c ≡ true → Low (lower c) × (to_bits binary32 (lower c) < to_bits binary32 c)
unfolding tried lower
lowered c l t =
    let r = lower_falls c l.plain t l.below in
    let below = l.below in
    let less = r.1 in
    (record { plain = r.0; below = omega arith }, r.1)

module _ (judge : Float → Judgement) where
  -- a chroma that is not tried
  stops : (n : ℕ) (j : Judgement) (c : Float) (last : ℕ) → end_from judge n false j c last ≡ lastly last
  unfolding end_from
  stops zero j c last = refl
  stops (suc n) j c last = refl

  -- two bounds that are no less than the pattern give the same end
  same : (m n : ℕ) (c : Float) (last : ℕ) → Low c → to_bits binary32 c ≤ m → to_bits binary32 c ≤ n
      → (b : Bool) → tried c ≡ b → (j : Judgement) → end_from judge m b j c last ≡ end_from judge n b j c last
  unfolding end_from
  same zero n c last l h k false t j = sym (stops n j c last)
  same zero n c last l h k true t j = absurd (let r = (lowered c l t).1 in omega arith)
  same (suc m) zero c last l h k false t j = refl
  same (suc m) zero c last l h k true t j = absurd (let r = (lowered c l t).1 in omega arith)
  same (suc m) (suc n) c last l h k false t j = refl
  same (suc m) (suc n) c last l h k true t passed = refl
  same (suc m) (suc n) c last l h k true t (finding f) =
      let r = lowered c l t in
      let less = r.1 in
      same m n (lower c) f r.0 (omega arith) (omega arith) (tried (lower c)) refl (judge (lower c))

  pub untried : (c : Float) (last : ℕ) → tried c ≡ false → end_after judge c last ≡ lastly last
  unfolding end_after
  untried c last t = ap (λ (b : Bool). end_from judge (to_bits binary32 c) b (judge c) c last) t ∙ stops (to_bits binary32 c) (judge c) c last

  pub passing : (c : Float) (last : ℕ) → Low c → tried c ≡ true → judge c ≡ passed → end_after judge c last ≡ passes c
  unfolding end_after end_from
  passing c last l t p = rw (t, p) (go (to_bits binary32 c) (lowered c l t).1)
    where
      go : (n : ℕ) → to_bits binary32 (lower c) < n → end_from judge n true passed c last ≡ passes c
      go zero h = absurd (omega arith)
      go (suc n) h = refl

  pub lowering : (c : Float) (last f : ℕ) → Low c → tried c ≡ true → judge c ≡ finding f → end_after judge c last ≡ end_after judge (lower c) f
  unfolding end_after end_from
  lowering c last f l t p = rw (t, p) (go (to_bits binary32 c) (lowered c l t).1)
    where
      go : (n : ℕ) → to_bits binary32 (lower c) < n → end_from judge n true (finding f) c last ≡ end_from judge (to_bits binary32 (lower c)) (tried (lower c)) (judge (lower c)) (lower c) f
      go zero h = absurd (omega arith)
      go (suc n) h = same n (to_bits binary32 (lower c)) (lower c) f (lowered c l t).0 (omega arith) (le_refl (to_bits binary32 (lower c))) (tried (lower c)) refl (judge (lower c))
