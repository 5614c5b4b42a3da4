-- Chroma in hundredths: every f32 from 35 to 200 is a whole number of units of 2^-18, `units_of` is that number, read off the pattern in three ranges, and so H and R are
-- what the request says (`chroma_exactly`), and nothing else is (`chroma_once`). Assumes nothing.
use mathlib.Core.Path.{◌≡◌, sym, ap, ◌∙◌}
use mathlib.Core.Logic.{inl, inr}
use mathlib.Core.Bool.{true, false}
use Prim.Native.Nat.{ℕ, ◌+◌, ◌*◌, ◌/◌, ◌%◌, ◌^◌, ◌≤◌, ◌<◌}
use native.Mathlib.Nat.{mul_assoc, mul-div_cancel}
use native.Mathlib.Omega.{arith}
use lib.Pow.{pow_pos, pow-add}
use lib.Ieee.{Float, nan, inf, fin, binary32, to_bits, le, down, is_nan}
use lib.Ieee.Exact.{HasValue}
use lib.Ieee.Fits.{down_pos}
use Rattle.limits.specs.Each.{F32}
use Rattle.limits.specs.Taken.{f32_of, chroma_taken}
use Rattle.halving.specs.Patterns.{worth}
use Rattle.limits.proofs.Numbers.{below_or_not}
use Rattle.halving.proofs.Patterns.{worth_normal}
use Rattle.halving.proofs.Midway.{revalue}
use Rattle.halving.proofs.Plain.{Plain, plain_units, taken_plain}
use Rattle.halving.proofs.Range.{taken_up_to}
use Rattle.halving.proofs.EndState.{from_35}
use Rattle.halving.proofs.Meeting.{no_nan}
use Rattle.search_rules.proofs.Floor.{chroma_between}
use Rattle.page.specs.Chroma.{units_of, hundredths, remainder, Exactly}

-- a number of units is `units_of`
units_are : (c : Float) (n : ℕ) → HasValue c false n (2 ^ 18) → units_of c ≡ n
unfolding units_of
units_are nan n v = absurd v
units_are (inf s) n v = absurd v
units_are (fin s m e) n v = ap (λ (x : ℕ). x / down e) v.1 ∙ mul-div_cancel n (down_pos e)

module _ (c : Float) (F : F32 c) (l : le (f32_of 35) c ≡ true) (h : le c (f32_of 200) ≡ true) where
  abbrev b : ℕ
  b = to_bits binary32 c

  in_range : Plain c × (b ≤ 1128792064)
  unfolding chroma_taken
  in_range = taken_plain c F (chroma_between c l h)

  pub chroma_number : is_nan c ≡ false
  unfolding chroma_taken
  chroma_number = no_nan (record { up_to_lem = taken_up_to 200 c (omega arith) (chroma_between c l h); f32 = F })

  bits_from : 1108082688 ≤ b
  bits_from = from_35 c in_range.0 l

  -- of the leading digits q, so many places above those of 35
  scaled : (i q : ℕ) → b ≡ (131 + i) * 8388608 + q → 8388608 ≤ q → q ≤ 16777216 → HasValue c false (q * 2 ^ i) (2 ^ 18)
  scaled i q e f g =
      revalue c (worth b) (2 ^ 149) (q * 2 ^ i) (2 ^ 18) (pow_pos 149)
      (ap (λ (x : ℕ). x * 2 ^ 18) (ap worth e ∙ worth_normal (131 + i) q f g)
      ∙ mul_assoc q (2 ^ (131 + i)) (2 ^ 18)
      ∙ ap (λ (x : ℕ). q * x) (sym (pow-add 2 (131 + i) 18) ∙ ap (λ (k : ℕ). 2 ^ k) (omega arith) ∙ pow-add 2 i 149)
      ∙ sym (mul_assoc q (2 ^ i) (2 ^ 149)))
      (plain_units c in_range.0)

  -- ---- below 64, below 128, and from there on
  abbrev q : ℕ
  q = b % 8388608 + 8388608

  low : b < 1115684864 → HasValue c false (q * 2 ^ 0) (2 ^ 18)
  low u = let f = bits_from in scaled 0 q (omega arith) (omega arith) (omega arith)

  middle : 1115684864 ≤ b → b < 1124073472 → HasValue c false (q * 2 ^ 1) (2 ^ 18)
  middle f u = scaled 1 q (omega arith) (omega arith) (omega arith)

  high : 1124073472 ≤ b → HasValue c false (q * 2 ^ 2) (2 ^ 18)
  high f = let u = in_range.1 in scaled 2 q (omega arith) (omega arith) (omega arith)

  pub units_low : b < 1115684864 → 100 * q ≡ 100 * units_of c
  units_low u = let e = units_are c (q * 2 ^ 0) (low u) in omega arith

  pub units_middle : 1115684864 ≤ b → b < 1124073472 → 200 * q ≡ 100 * units_of c
  units_middle f u = let e = units_are c (q * 2 ^ 1) (middle f u) in omega arith

  pub units_high : 1124073472 ≤ b → 400 * q ≡ 100 * units_of c
  units_high f = let e = units_are c (q * 2 ^ 2) (high f) in omega arith

  -- ---- "N = chroma times 2^18", which is a whole number
  own : (n : ℕ) → HasValue c false n (2 ^ 18) → HasValue c false (units_of c) (2 ^ 18)
  own n v = rw (units_are c n v) v

  pub chroma_units : HasValue c false (units_of c) (2 ^ 18)
  chroma_units = elim (below_or_not b 1115684864) [
    | inl u ↦ own (q * 2 ^ 0) (low u)
    | inr f ↦ elim (below_or_not b 1124073472) [ inl u ↦ own (q * 2 ^ 1) (middle f u) | inr g ↦ own (q * 2 ^ 2) (high g) ]
  ]

  pub chroma_exactly : Exactly c (hundredths c) (remainder c)
  unfolding hundredths remainder
  chroma_exactly = record { n = units_of c; times = chroma_units; parts = omega arith; within = omega arith }

-- no other two numbers are so
pub chroma_once : (c : Float) (h r : ℕ) → Exactly c h r → (h ≡ hundredths c) × (r ≡ remainder c)
unfolding hundredths remainder
chroma_once c h r x =
    let e = units_are c x.n x.times in
    let p = x.parts in
    let w = x.within in
    let a : h ≡ 100 * units_of c / 2 ^ 18 = omega arith in
    (a, omega arith)
