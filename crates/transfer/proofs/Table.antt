-- A table's rule, as one test that is computed over every entry with its place, holds at each entry. Assumes nothing.
use mathlib.Core.Path.{◌≡◌, sym, ap, ◌∙◌, subst}
use mathlib.Core.Logic.{inl, inr}
use mathlib.Core.Bool.{Bool, true, not, ◌&&◌}
use mathlib.Core.List.{List, [], ◌∷◌}
use Prim.Native.Nat.{ℕ, zero, suc, ◌<◌}
use native.Mathlib.Nat.{le_of_suc-le-suc, not-suc-le-zero, eq-or-lt_of_le}
use native.Mathlib.Omega.{arith}
use lib.Dec.{T, ltb, ltb→lt}
use lib.ListN.{length, get_or}
use lib.Ieee.{Float, nan, binary32, fits, to_bits, of_bits}
use lib.Ieee.Fits.{and_l, and_r}
use lib.Ieee.Bits.{is_true, is_false, of_bits-to_bits}
use Rattle.halving.specs.Patterns.{least}
use Rattle.halving.proofs.Least.{Lasting, least_is, fails_below}
use Rattle.transfer.specs.Transfer.{Lists}

-- the rule passes at each entry and its place
abbrev pub holds : {A : Type 0} → (ℕ → A → Bool) → List A → Bool
holds rule [] = true
holds rule (x ∷ xs) = rule 0 x && holds (λ k. rule (suc k)) xs

-- the one law of a table: what was computed over the whole of it holds at each place
pub entry : {A : Type 0} (rule : ℕ → A → Bool) (xs : List A) (d : A) → T (holds rule xs) → (k : ℕ) → k < length xs → T (rule k (get_or xs k d))
entry rule [] d t k h = absurd (not-suc-le-zero h)
entry rule (x ∷ xs) d t zero h = and_l (rule 0 x) (holds (λ k. rule (suc k)) xs) t
entry rule (x ∷ xs) d t (suc k) h = entry (λ k. rule (suc k)) xs d (and_r (rule 0 x) (holds (λ k. rule (suc k)) xs) t) k (le_of_suc-le-suc h)

-- the test passes at each number below n
abbrev pub throughout : (ℕ → Bool) → ℕ → Bool
throughout test zero = true
throughout test (suc n) = test n && throughout test n

-- and so for a test of numbers alone
pub each : (test : ℕ → Bool) (n : ℕ) → T (throughout test n) → (k : ℕ) → k < n → T (test k)
each test zero t k h = absurd (not-suc-le-zero h)
each test (suc n) t k h = elim (eq-or-lt_of_le (le_of_suc-le-suc h)) [
  | inl e ↦ subst (λ (m : ℕ). T (test m)) (sym e) (and_l (test n) (throughout test n) t)
  | inr l ↦ each test n (and_r (test n) (throughout test n) t) k l
]

-- p passes at b, and not just below
abbrev pub begins : (ℕ → Bool) → ℕ → Bool
begins p zero = p zero
begins p (suc b) = p (suc b) && not (p b)

-- an f32 of a table is the first at which the test of its place passes
abbrev pub first_at : (ℕ → ℕ → Bool) → ℕ → Float → Bool
first_at p k x = fits binary32 x && (begins (p k) (to_bits binary32 x) && ltb (to_bits binary32 x) 2147483648)

module _ (p : ℕ → Bool) (lasts : Lasting p) where
  -- such a b is the one that `least` finds
  pub begins_least : (b : ℕ) → b < 2147483648 → T (begins p b) → least p 31 0 ≡ b
  begins_least zero u t = least_is p lasts 31 0 0 (omega arith) u (is_true (p 0) t) (λ (i : ℕ) (h : i < 0). absurd (not-suc-le-zero h))
  begins_least (suc b) u t =
      least_is p lasts 31 0 (suc b) (omega arith) u (is_true (p (suc b)) (and_l (p (suc b)) (not (p b)) t))
      (λ (i : ℕ) (h : i < suc b). fails_below p lasts i b (le_of_suc-le-suc h) (is_false (p b) (and_r (p (suc b)) (not (p b)) t)))

-- a table each of whose f32 is the first at which the test of its place passes lists those that `least` finds
pub lists_first : (p : ℕ → ℕ → Bool) (f : ℕ → Float) → ((k : ℕ) → Lasting (p k)) → ((k : ℕ) → f k ≡ of_bits binary32 (least (p k) 31 0))
    → (xs : List Float) → T (holds (first_at p) xs) → Lists (length xs) f xs
lists_first p f lasts is xs t = record { at = λ (k : ℕ) (h : k < length xs). go k (get_or xs k nan) (entry (first_at p) xs nan t k h) }
  where
    go : (k : ℕ) (x : Float) → T (first_at p k x) → x ≡ f k
    go k x t =
        let b = to_bits binary32 x in
        let r : T (begins (p k) b && ltb b 2147483648) = and_r (fits binary32 x) (begins (p k) b && ltb b 2147483648) t in
        sym (of_bits-to_bits binary32 x (and_l (fits binary32 x) (begins (p k) b && ltb b 2147483648) t))
        ∙ ap (of_bits binary32) (sym (begins_least (p k) (lasts k) b (ltb→lt b 2147483648 (and_r (begins (p k) b) (ltb b 2147483648) r)) (and_l (begins (p k) b) (ltb b 2147483648) r)))
        ∙ sym (is k)
