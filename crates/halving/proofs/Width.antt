-- What n halvings leave between lo and hi, by the patterns p ≤ q of two f32 that are not negative and below 2 ^ 126 (so that their sum is no infinity). With e the greatest distance of neighbours between them, in units of
-- 2 ^ -149, what is left, w, has w * 2 ^ n + e ≤ (what there was) + 2 ^ n * e (`width`). With g the least distance of neighbours, and less than (n + 2) * g between lo and hi,
-- n halvings leave them equal or neighbouring (`closed`). Assumes nothing.
use mathlib.Core.Path.{◌≡◌, refl, sym, ap, ◌∙◌, subst}
use mathlib.Core.Logic.{inl, inr}
use mathlib.Core.Bool.{Bool, true, false}
use Prim.Native.Nat.{ℕ, zero, suc, ◌+◌, ◌-◌, ◌*◌, ◌^◌, ◌≤◌, ◌<◌}
use native.Mathlib.Nat.{le_trans, le_of_eq, le_refl, lt_of_le_of_lt, lt_of_lt_of_le, mul_assoc, mul-one, one-mul, suc-mul, pow-suc, pow-succ'}
use native.Mathlib.Omega.{arith}
use lib.Pow.{add-lt-pow}
use lib.Ieee.{Float, nan, inf, fin, binary32, of_bits, to_bits, mul, add, round}
use lib.Ieee.Bits.{of_bits-to_bits}
use lib.Ieee.Fits.{mul-fits}
use Rattle.limits.specs.Taken.{sign_bit, root_operand_taken}
use Rattle.limits.proofs.Floats.{operand_pattern}
use Rattle.halving.specs.Midpoint.{midpoint, halved}
use Rattle.halving.specs.Patterns.{worth}
use Rattle.limits.proofs.Numbers.{below_or_not}
use Rattle.halving.proofs.Closest.{dist}
use Rattle.halving.proofs.Patterns.{worth_normal, worth_next, worth_le, pattern_value}
use Rattle.halving.proofs.Halve.{halved_up, halved_down}
use Rattle.halving.proofs.Midway.{Units, units_once, midway}

pub worth_lt : {a b : ℕ} → a < b → worth a < worth b
worth_lt {a} {b} h = lt_of_lt_of_le (worth_next a) (worth_le h)

-- ---- the midpoint has a pattern, and no pattern is nearer
pub record Middle (p q : ℕ) : Type 0 where
  pub at : ℕ
  pub is : midpoint (of_bits binary32 p) (of_bits binary32 q) ≡ of_bits binary32 at
  pub nearest : (c : ℕ) → dist (worth at * 2) (worth p + worth q) ≤ dist (worth c * 2) (worth p + worth q)

operand : (x : Float) (a : ℕ) → Units x a → root_operand_taken x ≡ true
unfolding root_operand_taken sign_bit
operand nan a v = absurd v
operand (inf s) a v = absurd v
operand (fin s m e) a v = rw v.0

under_top : (p : ℕ) → p < 2122317824 → worth p < 2 ^ 275
under_top p h = lt_of_lt_of_le (worth_lt h) (le_of_eq (worth_normal 252 8388608 (omega arith) (omega arith)))

pub middle : (p q : ℕ) → p < 2122317824 → q < 2122317824 → Middle p q
unfolding midpoint
middle p q P Q =
    let x = of_bits binary32 p in
    let y = of_bits binary32 q in
    let m = midway x y (worth p) (worth q) (pattern_value p (omega arith)) (pattern_value q (omega arith)) (add-lt-pow 275 (under_top p P) (under_top q Q)) in
    let mid = mul binary32 (round binary32 false 1 2) (add binary32 x y) in
    let F = mul-fits binary32 (round binary32 false 1 2) (add binary32 x y) in
    let e : of_bits binary32 (to_bits binary32 mid) ≡ mid = of_bits-to_bits binary32 mid F in
    let b : to_bits binary32 mid < 2139095040 = operand_pattern mid F (operand mid m.amount m.holds) in
    let same : worth (to_bits binary32 mid) ≡ m.amount = units_once mid (worth (to_bits binary32 mid)) m.amount (subst (λ (z : Float). Units z (worth (to_bits binary32 mid))) e (pattern_value (to_bits binary32 mid) b)) m.holds in
    record {
      at = to_bits binary32 mid;
      is = sym e;
      nearest = λ (c : ℕ). subst (λ (a : ℕ). dist (a * 2) (worth p + worth q) ≤ dist (worth c * 2) (worth p + worth q)) (sym same) (m.nearest c);
    }

-- ---- one halving
nearer : (x t a b e : ℕ) → a * 2 ≤ t → t ≤ b * 2 → b ≤ a + e → dist x t ≤ dist (a * 2) t → dist x t ≤ dist (b * 2) t → dist x t ≤ e
nearer x t a b e l u g n1 n2 = close (dist x t) t a b e l u g (le_trans n1 (le_of_eq (low t (a * 2) l))) (le_trans n2 (le_of_eq (high t (b * 2) u)))
  where
    low : (t a : ℕ) → a ≤ t → dist a t ≡ t - a
    low t a l = omega arith

    high : (t b : ℕ) → t ≤ b → dist b t ≡ b - t
    high t b u = omega arith

    close : (d t a b e : ℕ) → a * 2 ≤ t → t ≤ b * 2 → b ≤ a + e → d ≤ t - a * 2 → d ≤ b * 2 - t → d ≤ e
    close d t a b e l u g x y = omega arith

module _ (p q : ℕ) (ordered : p ≤ q) (m : Middle p q) where
  not_below : p ≤ m.at
  not_below = elim (below_or_not m.at p) [ inl h ↦ absurd (clash h) | inr h ↦ h ]
    where
      clash : m.at < p → ⊥
      clash h =
          let a = worth_lt h in
          let b = worth_le ordered in
          let n = m.nearest p in
          omega arith

  not_above : m.at ≤ q
  not_above = elim (below_or_not q m.at) [ inl h ↦ absurd (clash h) | inr h ↦ h ]
    where
      clash : q < m.at → ⊥
      clash h =
          let a = worth_lt h in
          let b = worth_le ordered in
          let n = m.nearest q in
          omega arith

  -- strictly between, where a pattern is
  strictly : suc p < q → (p < m.at) × (m.at < q)
  strictly h = (elim (below_or_not p m.at) [ inl l ↦ l | inr l ↦ absurd (low l) ], elim (below_or_not m.at q) [ inl l ↦ l | inr l ↦ absurd (high l) ])
    where
      a : worth p < worth (suc p)
      a = worth_next p

      b : worth (suc p) < worth q
      b = worth_lt h

      low : m.at ≤ p → ⊥
      low l =
          let x = worth_le l in
          let n = m.nearest (suc p) in
          let a' = a in
          let b' = b in
          omega arith

      high : q ≤ m.at → ⊥
      high l =
          let x = worth_le l in
          let n = m.nearest (suc p) in
          let a' = a in
          let b' = b in
          omega arith

  -- a pattern from p on that is no more than x, with the next no less
  straddle : (d x : ℕ) → worth p * 2 ≤ x → x ≤ worth (p + suc d) * 2 → (c : ℕ) × ((p ≤ c) × ((c < p + suc d) × ((worth c * 2 ≤ x) × (x ≤ worth (suc c) * 2))))
  straddle zero x l u =
      let e : p + 1 ≡ suc p = omega arith in
      (p, (le_refl p, (omega arith, (l, subst (λ (y : ℕ). x ≤ worth y * 2) e u))))
  straddle (suc d) x l u = elim (below_or_not (worth (p + suc d) * 2) x) [ inl h ↦ last h | inr h ↦ earlier (straddle d x l h) ]
    where
      last : worth (p + suc d) * 2 < x → (c : ℕ) × ((p ≤ c) × ((c < p + suc (suc d)) × ((worth c * 2 ≤ x) × (x ≤ worth (suc c) * 2))))
      last h =
          let e : p + suc (suc d) ≡ suc (p + suc d) = omega arith in
          (p + suc d, (omega arith, (omega arith, (omega arith, subst (λ (y : ℕ). x ≤ worth y * 2) e u))))

      earlier : (c : ℕ) × ((p ≤ c) × ((c < p + suc d) × ((worth c * 2 ≤ x) × (x ≤ worth (suc c) * 2)))) → (c : ℕ) × ((p ≤ c) × ((c < p + suc (suc d)) × ((worth c * 2 ≤ x) × (x ≤ worth (suc c) * 2))))
      earlier f = let u' = f.1.1.0 in (f.0, (f.1.0, (omega arith, f.1.1.1)))

  -- off by at most half the distance of neighbours
  half_off : (e : ℕ) → ((b : ℕ) → p ≤ b → b < q → worth (suc b) ≤ worth b + e) → dist (worth m.at * 2) (worth p + worth q) ≤ e
  half_off e gaps = elim (below_or_not p q) [ inl h ↦ apart h | inr h ↦ same h ]
    where
      same : q ≤ p → dist (worth m.at * 2) (worth p + worth q) ≤ e
      same h =
          let a = worth_le h in
          let b = worth_le ordered in
          let n = m.nearest p in
          omega arith

      apart : p < q → dist (worth m.at * 2) (worth p + worth q) ≤ e
      apart h =
          let z : p + suc (q - suc p) ≡ q = omega arith in
          let o = worth_le ordered in
          let s = straddle (q - suc p) (worth p + worth q) (omega arith) (subst (λ (y : ℕ). worth p + worth q ≤ worth y * 2) (sym z) (omega arith)) in
          let c = s.0 in
          let g = gaps c s.1.0 (subst (λ (y : ℕ). c < y) z s.1.1.0) in
          let n1 = m.nearest c in
          let n2 = m.nearest (suc c) in
          let l = s.1.1.1.0 in
          let u = s.1.1.1.1 in
          nearer (worth m.at * 2) (worth p + worth q) (worth c) (worth (suc c)) e l u g n1 n2

-- ---- several halvings
-- neighbours from p to q are at least g apart, and at most e
abbrev pub Gaps : ℕ → ℕ → ℕ → ℕ → Type 0
Gaps g e p q = (b : ℕ) → p ≤ b → b < q → (worth b + g ≤ worth (suc b)) × (worth (suc b) ≤ worth b + e)

pub record After (ok : Float → Bool) (g e n p q : ℕ) : Type 0 where
  pub low : ℕ
  pub high : ℕ
  pub is : halved ok n (of_bits binary32 p) (of_bits binary32 q) ≡ (of_bits binary32 low, of_bits binary32 high)
  pub above : p ≤ low
  pub ordered : low ≤ high
  pub below : high ≤ q
  pub width : (worth high - worth low) * 2 ^ n + e ≤ (worth q - worth p) + 2 ^ n * e
  pub closed : worth q - worth p < (n + 2) * g → high ≤ suc low

-- one halving first, which leaves p' and q'
module _ (ok : Float → Bool) (g e n p q p' q' : ℕ) (rest : After ok g e n p' q') where
  first : halved ok (suc n) (of_bits binary32 p) (of_bits binary32 q) ≡ halved ok n (of_bits binary32 p') (of_bits binary32 q') → p ≤ p' → q' ≤ q
      → (worth q' - worth p') * 2 ≤ (worth q - worth p) + e → (suc p < q → (worth q' - worth p') + g ≤ worth q - worth p) → After ok g e (suc n) p q
  first i l u w s = record {
    low = rest.low;
    high = rest.high;
    is = i ∙ rest.is;
    above = le_trans l rest.above;
    ordered = rest.ordered;
    below = le_trans rest.below u;
    width =
        let x : (worth rest.high - worth rest.low) * 2 ^ suc n ≡ (worth rest.high - worth rest.low) * 2 ^ n * 2 = ap (λ (z : ℕ). (worth rest.high - worth rest.low) * z) (pow-suc 2 n) ∙ sym (mul_assoc (worth rest.high - worth rest.low) (2 ^ n) 2) in
        let y : 2 ^ suc n * e ≡ 2 * (2 ^ n * e) = ap (λ (z : ℕ). z * e) (pow-succ' 2 n) ∙ mul_assoc 2 (2 ^ n) e in
        let r = rest.width in
        rw (x, y) (doubled ((worth rest.high - worth rest.low) * 2 ^ n) (2 ^ n * e) (worth q' - worth p') (worth q - worth p) e r w);
    closed = λ (h : worth q - worth p < (suc n + 2) * g). elim (below_or_not (suc p) q) [ inl k ↦ rest.closed (narrower (s k) h) | inr k ↦ already k ];
  }
    where
      doubled : (A B w' w e : ℕ) → A + e ≤ w' + B → w' * 2 ≤ w + e → A * 2 + e ≤ w + 2 * B
      doubled A B w' w e r h = omega arith

      narrower : (worth q' - worth p') + g ≤ worth q - worth p → worth q - worth p < (suc n + 2) * g → worth q' - worth p' < (n + 2) * g
      narrower k h = let y : suc n + 2 ≡ suc (n + 2) = omega arith in let x : (suc n + 2) * g ≡ (n + 2) * g + g = ap (λ (z : ℕ). z * g) y ∙ suc-mul (n + 2) g in less (worth q' - worth p') (worth q - worth p) ((n + 2) * g) g k (subst (λ (z : ℕ). worth q - worth p < z) x h)
        where
          less : (a b c g : ℕ) → a + g ≤ b → b < c + g → a < c
          less a b c g k h = omega arith

      already : q ≤ suc p → rest.high ≤ suc rest.low
      already k = let a = rest.above in let b = rest.below in omega arith

pub after : (ok : Float → Bool) (g e n p q : ℕ) → p ≤ q → q < 2122317824 → Gaps g e p q → After ok g e n p q
unfolding halved
after ok g e zero p q o u gaps = record {
  low = p;
  high = q;
  is = refl;
  above = le_refl p;
  ordered = o;
  below = le_refl q;
  width = rw (mul-one (worth q - worth p), one-mul e) (le_refl (worth q - worth p + e));
  closed = λ (h : worth q - worth p < 2 * g). elim (below_or_not (suc p) q) [ inl k ↦ absurd (clash h k) | inr k ↦ k ];
}
  where
    clash : worth q - worth p < 2 * g → suc p < q → ⊥
    clash h k =
        let a = (gaps p (le_refl p) (omega arith)).0 in
        let b = (gaps (suc p) (omega arith) k).0 in
        let c : worth (suc (suc p)) ≤ worth q = worth_le k in
        omega arith
after ok g e (suc n) p q o u gaps = go (ok (midpoint (of_bits binary32 p) (of_bits binary32 q))) refl (λ (p' q' : ℕ) (o' : p' ≤ q') (u' : q' < 2122317824) (gaps' : Gaps g e p' q'). after ok g e n p' q' o' u' gaps')
  where
    m : Middle p q
    m = middle p q (omega arith) u

    low : p ≤ m.at
    low = not_below p q o m

    high : m.at ≤ q
    high = not_above p q o m

    off : dist (worth m.at * 2) (worth p + worth q) ≤ e
    off = half_off p q o m e (λ (b : ℕ) (l : p ≤ b) (k : b < q). (gaps b l k).1)

    up_narrow : suc p < q → (worth q - worth m.at) + g ≤ worth q - worth p
    up_narrow k =
        let a = (gaps p (le_refl p) (omega arith)).0 in
        let b : worth (suc p) ≤ worth m.at = worth_le (strictly p q o m k).0 in
        let c : worth m.at ≤ worth q = worth_le high in
        omega arith

    down_narrow : suc p < q → (worth m.at - worth p) + g ≤ worth q - worth p
    down_narrow k =
        let s = (strictly p q o m k).1 in
        let z : suc (q - 1) ≡ q = omega arith in
        let a : worth (q - 1) + g ≤ worth q = subst (λ (x : ℕ). worth (q - 1) + g ≤ worth x) z (gaps (q - 1) (omega arith) (omega arith)).0 in
        let b : worth m.at ≤ worth (q - 1) = worth_le (omega arith) in
        let c : worth p ≤ worth m.at = worth_le low in
        omega arith

    up_wide : (worth q - worth m.at) * 2 ≤ (worth q - worth p) + e
    up_wide = let a = off in let b : worth m.at ≤ worth q = worth_le high in let c = worth_le o in wide (worth m.at) (worth p) (worth q) e a b c
      where
        wide : (x p q e : ℕ) → dist (x * 2) (p + q) ≤ e → x ≤ q → p ≤ q → (q - x) * 2 ≤ (q - p) + e
        wide x p q e a b c = omega arith

    down_wide : (worth m.at - worth p) * 2 ≤ (worth q - worth p) + e
    down_wide = let a = off in let b : worth p ≤ worth m.at = worth_le low in let c = worth_le o in wide (worth m.at) (worth p) (worth q) e a b c
      where
        wide : (x p q e : ℕ) → dist (x * 2) (p + q) ≤ e → p ≤ x → p ≤ q → (x - p) * 2 ≤ (q - p) + e
        wide x p q e a b c = omega arith

    go : (t : Bool) → ok (midpoint (of_bits binary32 p) (of_bits binary32 q)) ≡ t → ((p' q' : ℕ) → p' ≤ q' → q' < 2122317824 → Gaps g e p' q' → After ok g e n p' q') → After ok g e (suc n) p q
    go true t rec =
        first ok g e n p q m.at q (rec m.at q high u (λ (b : ℕ) (l : m.at ≤ b) (k : b < q). gaps b (le_trans low l) k))
        (halved_up ok n (of_bits binary32 p) (of_bits binary32 q) t ∙ ap (λ (x : Float). halved ok n x (of_bits binary32 q)) m.is) low (le_refl q) up_wide up_narrow
    go false t rec =
        first ok g e n p q p m.at (rec p m.at low (lt_of_le_of_lt high u) (λ (b : ℕ) (l : p ≤ b) (k : b < m.at). gaps b l (lt_of_lt_of_le k high)))
        (halved_down ok n (of_bits binary32 p) (of_bits binary32 q) t ∙ ap (λ (x : Float). halved ok n (of_bits binary32 p) x) m.is) (le_refl p) high down_wide down_narrow
