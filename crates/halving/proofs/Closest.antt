-- The whole number nearest a fraction: no multiple of the divisor lies closer to the dividend than the one that rounding gives. Nothing here is about floats. Assumes nothing.
use mathlib.Core.Path.{◌≡◌, refl, sym, ap, ◌∙◌, subst}
use mathlib.Core.Logic.{◌⊎◌, inl, inr}
use mathlib.Core.Bool.{not}
use Prim.Native.Nat.{ℕ, suc, ◌+◌, ◌-◌, ◌*◌, ◌/◌, ◌%◌, ◌≤◌, ◌<◌, compare, Ordering}
use native.Mathlib.Nat.{mul-le-mul_right, suc-mul, div-add-mod', mod-lt}
use native.Mathlib.Omega.{arith}
use lib.Arith.{lt_of_le-ne}
use lib.Dec.{T, is_le, compare_is_eq, eqb, leb→le, nleb→lt, eqb→eq, eqb_refl}
use lib.Ieee.{nearest}
use lib.Ieee.Nearest.{closest}
use Rattle.limits.proofs.Numbers.{below_or_not}

-- how far a and b are apart
abbrev pub dist : ℕ → ℕ → ℕ
dist a b = (a - b) + (b - a)

-- what `compare` says
abbrev Cmp : Ordering → ℕ → ℕ → Type 0
Cmp Ordering.lt a b = a < b
Cmp Ordering.eq a b = a ≡ b
Cmp Ordering.gt a b = b < a

cmp : (a b : ℕ) → Cmp (compare a b) a b
cmp a b = go (compare a b) (leb→le a b) (nleb→lt a b) (eqb→eq a b) (λ (e : a ≡ b). subst (λ (x : ℕ). T (eqb a x)) e (eqb_refl a))
  where
    go : (o : Ordering) → (T (is_le o) → a ≤ b) → (T (not (is_le o)) → b < a) → (T (compare_is_eq o) → a ≡ b) → (a ≡ b → T (compare_is_eq o)) → Cmp o a b
    go Ordering.lt h k e n = lt_of_le-ne (h tt) n
    go Ordering.eq h k e n = e tt
    go Ordering.gt h k e n = k tt

-- a is w times b and r over: what is given for it is off by no more than r, and by no more than what r lacks to b
off : (a b w r wb : ℕ) (o : Ordering) → wb + r ≡ a → r < b → wb ≡ w * b → Cmp o (r * 2) b → (dist (nearest w o * b) a ≤ r) × (dist (nearest w o * b) a + r ≤ b)
off a b w r wb Ordering.lt s l e c = rw (sym e) (omega arith, omega arith)
off a b w r wb Ordering.gt s l e c =
    let x : suc w * b ≡ wb + b = suc-mul w b ∙ ap (λ (z : ℕ). z + b) (sym e) in
    rw x (omega arith, omega arith)
off a b w r wb Ordering.eq s l e c = elim (even_or_odd w) [ inl z ↦ even z | inr z ↦ odd z ]
  where
    even_or_odd : (x : ℕ) → (x + x % 2 ≡ x) ⊎ (x + x % 2 ≡ suc x)
    even_or_odd x = elim (below_or_not (x % 2) 1) [ inl h ↦ inl (omega arith) | inr h ↦ inr (omega arith) ]

    even : w + w % 2 ≡ w → (dist ((w + w % 2) * b) a ≤ r) × (dist ((w + w % 2) * b) a + r ≤ b)
    even z = rw (z, sym e) (omega arith, omega arith)

    odd : w + w % 2 ≡ suc w → (dist ((w + w % 2) * b) a ≤ r) × (dist ((w + w % 2) * b) a + r ≤ b)
    odd z =
        let x : suc w * b ≡ wb + b = suc-mul w b ∙ ap (λ (y : ℕ). y + b) (sym e) in
        rw (z, x) (omega arith, omega arith)

-- any other multiple is off by as much
others : (a b w r j wb jb d : ℕ) → wb + r ≡ a → (j ≤ w → jb ≤ wb) → (w < j → wb + b ≤ jb) → d ≤ r → d + r ≤ b → d ≤ dist jb a
others a b w r j wb jb d s low high x y = elim (below_or_not w j) [ inl h ↦ up (high h) | inr h ↦ down (low h) ]
  where
    up : wb + b ≤ jb → d ≤ dist jb a
    up h = omega arith

    down : jb ≤ wb → d ≤ dist jb a
    down h = omega arith

pub closest_nearest : (a b j : ℕ) → 0 < b → dist (closest a b * b) a ≤ dist (j * b) a
closest_nearest a b j B =
    let w = a / b in
    let r = a % b in
    let s : w * b + r ≡ a = div-add-mod' a b in
    let o = off a b w r (w * b) (compare (r * 2) b) s (mod-lt a B) refl (cmp (r * 2) b) in
    others a b w r j (w * b) (j * b) (dist (closest a b * b) a) s (λ (h : j ≤ w). mul-le-mul_right b h) (λ (h : w < j). more w j h) o.0 o.1
  where
    more : (w j : ℕ) → w < j → w * b + b ≤ j * b
    more w j h = let x : suc w * b ≡ w * b + b = suc-mul w b in subst (λ (z : ℕ). z ≤ j * b) x (mul-le-mul_right b h)
