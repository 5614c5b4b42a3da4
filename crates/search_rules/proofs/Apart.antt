-- A pair of levels passes the f32 test of the gap exactly where it is far apart by exact fractions: levels and their differences are exact. Assumes nothing.
use mathlib.Core.Path.{◌≡◌, refl, sym, ap, ◌∙◌, subst}
use mathlib.Core.Logic.{inl, inr}
use mathlib.Core.Bool.{Bool, true, false, not, true≢false}
use Prim.Native.Nat.{ℕ, ◌+◌, ◌-◌, ◌*◌, ◌^◌, ◌≤◌, ◌<◌}
use native.Mathlib.Nat.{le_trans, le_of_eq, lt_of_lt_of_le, mul_assoc, mul_comm, mul-one, mul_right_comm, add-mul, mul-pos, mul-lt-mul_of_pos_right}
use native.Mathlib.Omega.{arith}
use lib.Dec.{ltb}
use lib.Pow.{pow-add, pow_pos}
use lib.Ieee.{Float, nan, inf, fin, binary32, up, down, round, sum, add, sub, neg, mul, lt, of_int}
use lib.Ieee.Back.{round_whole}
use lib.Ieee.Exact.{HasValue, round_exact}
use lib.Ieee.Fits.{down_pos}
use lib.Ieee.Scale.{round_same}
use borrow.Author.Tests.{ltb-false, lt-ltb, le-ltb, not-true}
use Rattle.limits.specs.Taken.{f32_of, gap_taken}
use Rattle.limits.proofs.Numbers.{below_or_not, power, minus}
use Rattle.halving.proofs.Lower.{sub_values}
use Rattle.halving.proofs.Midway.{revalue, add_values}
use Rattle.halving.proofs.Plain.{compared}
use Rattle.halving.proofs.Range.{UpTo, taken_up_to, sum_up_to}
use Rattle.gamut.specs.Gamut.{level_of}
use Rattle.search_rules.specs.declared.Settings.{Settings}
use Rattle.search_rules.specs.Job.{gap_held, far_enough, qualifies}
use Rattle.search_rules.specs.Runs.{FarApart}

-- ---- halves
-- a / 2 is an f32 for an a below 2 ^ 24
half : (s : Bool) (a : ℕ) → a < 16777216 → HasValue (round binary32 s a 2) s a 2
half s a h = round_exact binary32 s a 2 a 148 (omega arith) h (lt_of_lt_of_le (mul-lt-mul_of_pos_right h (pow_pos 148)) (le_trans (le_of_eq (sym (pow-add 2 24 148))) (power 172 277 (omega arith)))) (ap (λ (x : ℕ). a * x) (pow-add 2 148 1) ∙ sym (mul_assoc a (2 ^ 148) 2))

whole_half : (x : Float) (i : ℕ) → HasValue x false i 1 → HasValue x false (i * 2) 2
whole_half x i v = revalue x i 1 (i * 2) 2 (omega arith) (sym (mul-one (i * 2))) v

add_halves : (x y : Float) (a b : ℕ) → a + b < 16777216 → HasValue x false a 2 → HasValue y false b 2 → HasValue (add binary32 x y) false (a + b) 2
add_halves x y a b h v w = subst (λ (z : Float). HasValue z false (a + b) 2) (sym (add_values x y a b 2 (omega arith) v w)) (half false (a + b) h)

times_half : (x : Float) (i : ℕ) → i < 16777216 → HasValue x false i 1 → HasValue (mul binary32 x (round binary32 false 1 2)) false i 2
unfolding mul round
times_half nan i h v = absurd v
times_half (inf s) i h v = absurd v
times_half (fin true m e) i h v = absurd (true≢false v.0)
times_half (fin false m e) i h v = subst (λ (z : Float). HasValue z false i 2) (sym (round_same binary32 false (m * up e * 1) (down e * 2) i 2 (mul-pos (down_pos e) (omega arith)) (omega arith) same)) (half false i h)
  where
    same : m * up e * 1 * 2 ≡ i * (down e * 2)
    same = ap (λ (z : ℕ). z * 2) v.1 ∙ mul_assoc i (down e) 2

-- level i is (24 + i) / 2
pub level_value : (i : ℕ) → i < 1000 → HasValue (level_of i) false (24 + i) 2
unfolding level_of of_int
level_value i h =
    add_halves (f32_of 12) (mul binary32 (f32_of i) (round binary32 false 1 2)) 24 i (omega arith)
    (whole_half (f32_of 12) 12 (round_whole binary32 false 12 (omega arith)))
    (times_half (f32_of i) i (omega arith) (round_whole binary32 false i (omega arith)))

-- ---- the difference of two halves where it is below 0
subtracted_from_less : (x y : Float) (a b : ℕ) → HasValue x false a 2 → HasValue y false b 2 → a < b → sub binary32 x y ≡ round binary32 true (b - a) 2
unfolding sub neg add sum
subtracted_from_less nan y a b v w h = absurd v
subtracted_from_less (inf s) y a b v w h = absurd v
subtracted_from_less (fin true m e) y a b v w h = absurd (true≢false v.0)
subtracted_from_less (fin false m e) nan a b v w h = absurd w
subtracted_from_less (fin false m e) (inf t) a b v w h = absurd w
subtracted_from_less (fin false m e) (fin true n d) a b v w h = absurd (true≢false w.0)
subtracted_from_less (fin false m e) (fin false n d) a b v w h =
    let A = m * up e * down d in
    let B = n * up d * down e in
    let C = down e * down d in
    let c : 0 < C = mul-pos (down_pos e) (down_pos d) in
    let left : A * 2 ≡ a * C = mul_right_comm (m * up e) (down d) 2 ∙ ap (λ (z : ℕ). z * down d) v.1 ∙ mul_assoc a (down e) (down d) in
    let right : B * 2 ≡ b * C = mul_right_comm (n * up d) (down e) 2 ∙ ap (λ (z : ℕ). z * down e) w.1 ∙ mul_assoc b (down d) (down e) ∙ ap (λ (z : ℕ). b * z) (mul_comm (down d) (down e)) in
    let k : a * C < b * C = mul-lt-mul_of_pos_right h c in
    let l : A < B = strict A B (a * C) (b * C) left right k in
    rw (lt-ltb A B l) (round_same binary32 true (B - A) C (b - a) 2 c (omega arith) (off B A (b * C) (a * C) right left ∙ sym (minus b a C)))
  where
    strict : (p q x y : ℕ) → p * 2 ≡ x → q * 2 ≡ y → x < y → p < q
    strict p q x y f g h = omega arith

    off : (p q x y : ℕ) → p * 2 ≡ x → q * 2 ≡ y → (p - q) * 2 ≡ x - y
    off p q x y f g = omega arith

-- a number below 0 is below one that is not
negative_below : (x y : Float) (a b c : ℕ) → HasValue x true a 2 → 0 < a → HasValue y false b c → lt x y ≡ true
unfolding lt
negative_below nan y a b c v h w = absurd v
negative_below (inf s) y a b c v h w = absurd v
negative_below (fin false m e) y a b c v h w = absurd (true≢false (sym v.0))
negative_below (fin true m e) nan a b c v h w = absurd w
negative_below (fin true m e) (inf t) a b c v h w = absurd w
negative_below (fin true m e) (fin true n d) a b c v h w = absurd (true≢false w.0)
negative_below (fin true m e) (fin false n d) a b c v h w =
    let P = m * up e in
    let p : 0 < P = positive P (a * down e) v.1 (mul-pos h (down_pos e)) in
    let q : 0 < P * down d = mul-pos p (down_pos d) in
    lt-ltb 0 (P * down d + n * up d * down e) (omega arith)
  where
    positive : (p x : ℕ) → p * 2 ≡ x → 0 < x → 0 < p
    positive p x e h = omega arith

-- ---- the f32 sum of the gap and 1 is a number, not negative
pub own : (x : Float) (b : ℕ) → UpTo b x → (a : ℕ) × ((c : ℕ) × ((0 < c) × HasValue x false a c))
own nan b u = absurd u
own (inf s) b u = absurd u
own (fin true m e) b u = absurd u
own (fin false m e) b u = (m * up e, (down e, (down_pos e, (refl, refl))))

module _ (gap : Float) (held : gap_taken gap ≡ true) (d l : ℕ) (D : d < 169) (L : l < 169) where
  abbrev total : Float
  total = add binary32 gap (f32_of 1)

  abbrev apart : Float
  apart = sub binary32 (level_of l) (level_of d)

  pub total_value : (a : ℕ) × ((c : ℕ) × ((0 < c) × HasValue total false a c))
  unfolding gap_taken of_int
  total_value = own total 168 (sum_up_to 84 gap (f32_of 1) (omega arith) (taken_up_to 84 gap (omega arith) held) (omega arith))

  difference : (b : ℕ) → b ≡ l - d → d ≤ l → HasValue apart false b 2
  difference b e h =
      let x = sub_values (level_of l) (level_of d) (24 + l) (24 + d) 2 (omega arith) (omega arith) (level_value l (omega arith)) (level_value d (omega arith)) in
      let f : 24 + l - (24 + d) ≡ b = omega arith in
      subst (λ (z : Float). HasValue z false b 2) (sym (x ∙ ap (λ (n : ℕ). round binary32 false n 2) f)) (half false b (omega arith))

  -- the test by the fractions
  tested : (a c : ℕ) → 0 < c → HasValue total false a c → d ≤ l → lt apart total ≡ ltb ((l - d) * c) (a * 2)
  tested a c C v h = (compared apart total (l - d) 2 a c (omega arith) C (difference (l - d) refl h) v).0

  reversed : l < d → lt apart total ≡ true
  reversed h =
      let x = subtracted_from_less (level_of l) (level_of d) (24 + l) (24 + d) (level_value l (omega arith)) (level_value d (omega arith)) (omega arith) in
      let f : 24 + d - (24 + l) ≡ d - l = omega arith in
      let v : HasValue apart true (d - l) 2 = subst (λ (z : Float). HasValue z true (d - l) 2) (sym (x ∙ ap (λ (n : ℕ). round binary32 true n 2) f)) (half true (d - l) (omega arith)) in
      let t = total_value in
      negative_below apart total (d - l) t.0 t.1.0 v (omega arith) t.1.1.1

  split : (c : ℕ) → d ≤ l → (24 + l) * c ≡ (24 + d) * c + (l - d) * c
  split c h = let e : 24 + l ≡ (24 + d) + (l - d) = omega arith in ap (λ (z : ℕ). z * c) e ∙ add-mul (24 + d) (l - d) c

  pub apart_enough : far_enough gap d l ≡ true → FarApart gap d l
  unfolding far_enough
  apart_enough q a c C v = elim (below_or_not l d) [ inl h ↦ absurd (true≢false (sym (reversed h) ∙ not-true (lt apart total) q)) | inr h ↦ there h ]
    where
      there : d ≤ l → (24 + d) * c + a * 2 ≤ (24 + l) * c
      there h =
          let t : a * 2 ≤ (l - d) * c = ltb-false ((l - d) * c) (a * 2) (sym (tested a c C v h) ∙ not-true (lt apart total) q) in
          let e = split c h in
          omega arith

  pub enough : FarApart gap d l → far_enough gap d l ≡ true
  unfolding far_enough
  enough f =
      let t = total_value in
      let a = t.0 in
      let c = t.1.0 in
      let C = t.1.1.0 in
      let v = t.1.1.1 in
      elim (below_or_not l d) [ inl h ↦ absurd (never a c C (f a c C v) h) | inr h ↦ there a c C v (f a c C v) h ]
    where
      never : (a c : ℕ) → 0 < c → (24 + d) * c + a * 2 ≤ (24 + l) * c → l < d → ⊥
      never a c C f h =
          let x : (24 + l) * c < (24 + d) * c = mul-lt-mul_of_pos_right (omega arith) C in
          omega arith

      there : (a c : ℕ) (C : 0 < c) → HasValue total false a c → (24 + d) * c + a * 2 ≤ (24 + l) * c → d ≤ l → not (lt apart total) ≡ true
      there a c C v f h =
          let e = split c h in
          ap not (tested a c C v h ∙ le-ltb ((l - d) * c) (a * 2) (omega arith))

-- ---- the pairs that a job searches
module _ (s : Settings) (held : gap_held s.gap ≡ true) (d l : ℕ) (D : d < 169) (L : l < 169) where
  pub far_apart : qualifies s d l ≡ true → FarApart s.gap d l
  unfolding qualifies
  far_apart q = apart_enough s.gap held d l D L q

  pub qualified : FarApart s.gap d l → qualifies s d l ≡ true
  unfolding qualifies
  qualified f = enough s.gap held d l D L f
