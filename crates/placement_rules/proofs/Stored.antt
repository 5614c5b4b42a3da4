-- The first k of the sixteen hues that are handed out are the k that were placed. Assumes nothing.
use mathlib.Core.Path.{◌≡◌, refl, sym, ap, ◌∙◌}
use mathlib.Core.List.{List, [], ◌∷◌}
use Prim.Native.Nat.{ℕ, suc, ◌≤◌}
use native.Mathlib.Nat.{le_of_suc-le-suc, not-suc-le-zero}
use native.Mathlib.Omega.{arith}
use lib.ListN.{length, take, set, replicate}
use Rattle.placement_rules.specs.Placing.{stores}

-- what is stored one place further on leaves the first as it is
past_first : (x : ℕ) (xs : List ℕ) (t : ℕ) (is : List ℕ) → stores (x ∷ xs) (suc t) is ≡ x ∷ stores xs t is
unfolding stores
past_first x xs t [] = refl
past_first x xs t (i ∷ is) = past_first x (set xs t i) (suc t) is

pub stored_next : (x : ℕ) (xs : List ℕ) (i : ℕ) (is : List ℕ) → stores (x ∷ xs) 0 (i ∷ is) ≡ i ∷ stores xs 0 is
unfolding stores
stored_next x xs i is = past_first i xs 0 is

pub first_stored : (hues is : List ℕ) → length is ≤ length hues → take (length is) (stores hues 0 is) ≡ is
unfolding stores
first_stored hues [] h = refl
first_stored [] (i ∷ is) h = absurd (not-suc-le-zero h)
first_stored (x ∷ xs) (i ∷ is) h = ap (take (suc (length is))) (stored_next x xs i is) ∙ ap (λ (r : List ℕ). i ∷ r) (first_stored xs is (le_of_suc-le-suc h))

-- and so the first k of sixteen into which k were stored
pub first_of : (k : ℕ) (is hues : List ℕ) → stores (replicate 16 0) 0 is ≡ hues → length is ≡ k → k ≤ 16 → take k hues ≡ is
first_of k is hues e c few = ap (take k) (sym e) ∙ ap (λ (i : ℕ). take i (stores (replicate 16 0) 0 is)) (sym c) ∙ first_stored (replicate 16 0) is (omega arith)
