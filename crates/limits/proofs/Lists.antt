-- What holds of each element of a list holds of each element of its parts, whether it is said by a property (`Each`) or by a test (`every`), and the two say the same
-- (`each_true`, `every_true`). Assumes nothing.
use mathlib.Core.Path.{◌≡◌, refl}
use mathlib.Core.Bool.{Bool, true}
use mathlib.Core.List.{List, [], ◌∷◌, ◌++◌}
use Prim.Native.Nat.{ℕ, zero, suc}
use lib.Ieee.{Float}
use lib.ListN.{get_or, take, drop, replicate}
use Rattle.limits.specs.Taken.{every}
use Rattle.limits.specs.Each.{Each}
use Rattle.limits.proofs.HueCount.{both}

-- ---- by a property
module _ {A : Type 0} (P : A → Type 0) where
  pub each_take : (n : ℕ) (xs : List A) → Each P xs → Each P (take n xs)
  each_take zero xs h = tt
  each_take (suc n) [] h = tt
  each_take (suc n) (x ∷ xs) h = (h.0, each_take n xs h.1)

  pub each_drop : (n : ℕ) (xs : List A) → Each P xs → Each P (drop n xs)
  each_drop zero xs h = h
  each_drop (suc n) [] h = tt
  each_drop (suc n) (x ∷ xs) h = each_drop n xs h.1

  pub each_append : (xs ys : List A) → Each P xs → Each P ys → Each P (xs ++ ys)
  each_append [] ys h k = k
  each_append (x ∷ xs) ys h k = (h.0, each_append xs ys h.1 k)

  pub each_same : (n : ℕ) (x : A) → P x → Each P (replicate n x)
  each_same zero x h = tt
  each_same (suc n) x h = (h, each_same n x h)

  -- what holds at each index, as of a slice that is lent
  pub each_at : (d : A) (xs : List A) → ((i : ℕ) → P (get_or xs i d)) → Each P xs
  each_at d [] h = tt
  each_at d (x ∷ xs) h = (h 0, each_at d xs (λ (i : ℕ). h (suc i)))

-- ---- by a test
module _ (p : Float → Bool) where
  pub each_true : (xs : List Float) → every p xs ≡ true → Each (λ x. p x ≡ true) xs
  unfolding every
  each_true [] h = tt
  each_true (x ∷ xs) h = let t = both (p x) (every p xs) h in (t.0, each_true xs t.1)

  pub every_true : (xs : List Float) → Each (λ x. p x ≡ true) xs → every p xs ≡ true
  unfolding every
  every_true [] h = refl
  every_true (x ∷ xs) h = rw h.0 (every_true xs h.1)

  pub every_take : (n : ℕ) (xs : List Float) → every p xs ≡ true → every p (take n xs) ≡ true
  every_take n xs h = every_true (take n xs) (each_take (λ x. p x ≡ true) n xs (each_true xs h))

  pub every_drop : (n : ℕ) (xs : List Float) → every p xs ≡ true → every p (drop n xs) ≡ true
  every_drop n xs h = every_true (drop n xs) (each_drop (λ x. p x ≡ true) n xs (each_true xs h))
