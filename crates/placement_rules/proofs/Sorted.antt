-- Indices in whatever order, sorted: what holds of each and of any two still does. Assumes nothing.
use mathlib.Core.Path.{◌≡◌, refl, sym, ap, ◌∙◌}
use mathlib.Core.Bool.{Bool, true, false, cond}
use mathlib.Core.List.{List, [], ◌∷◌}
use Prim.Native.Nat.{ℕ, zero, suc, ◌+◌, ◌-◌, ◌≤◌, ◌<◌}
use native.Mathlib.Nat.{le_trans, le_of_lt}
use native.Mathlib.Omega.{arith}
use lib.Dec.{leb}
use lib.ListN.{length, get_or}
use borrow.Author.Tests.{leb-true, leb-false}

abbrev pub All : (ℕ → Type 0) → List ℕ → Type 0
All P [] = Unit
All P (i ∷ is) = P i × All P is

abbrev pub Pairs : (ℕ → ℕ → Type 0) → List ℕ → Type 0
Pairs R [] = Unit
Pairs R (i ∷ is) = All (R i) is × Pairs R is

pub all_of : (P : ℕ → Type 0) (is : List ℕ) → ((p : ℕ) → p < length is → P (get_or is p 0)) → All P is
all_of P [] f = tt
all_of P (i ∷ is) f = (f 0 (omega arith), all_of P is (λ (p : ℕ) (h : p < length is). f (suc p) (omega arith)))

pub pairs_of : (R : ℕ → ℕ → Type 0) (is : List ℕ) → ((p q : ℕ) → p < q → q < length is → R (get_or is p 0) (get_or is q 0)) → Pairs R is
pairs_of R [] f = tt
pairs_of R (i ∷ is) f = (
  all_of (R i) is (λ (q : ℕ) (h : q < length is). f 0 (suc q) (omega arith) (omega arith)),
  pairs_of R is (λ (p q : ℕ) (l : p < q) (h : q < length is). f (suc p) (suc q) (omega arith) (omega arith)),
)

unfoldable pub insert : ℕ → List ℕ → List ℕ
insert i [] = i ∷ []
insert i (j ∷ js) =
    let later = j ∷ insert i js in
    cond (leb i j) (i ∷ j ∷ js) later

unfoldable pub sorted : List ℕ → List ℕ
unfolding insert
sorted [] = []
sorted (i ∷ is) = insert i (sorted is)

insert_long : (i : ℕ) (js : List ℕ) → length (insert i js) ≡ suc (length js)
unfolding insert
insert_long i [] = refl
insert_long i (j ∷ js) = go (leb i j) (insert i js) (insert_long i js)
  where
    go : (t : Bool) (rest : List ℕ) → length rest ≡ suc (length js) → length (cond t (i ∷ j ∷ js) (j ∷ rest)) ≡ suc (suc (length js))
    go true rest e = refl
    go false rest e = ap suc e

pub sorted_long : (is : List ℕ) → length (sorted is) ≡ length is
unfolding sorted
sorted_long [] = refl
sorted_long (i ∷ is) = insert_long i (sorted is) ∙ ap suc (sorted_long is)

insert_all : (P : ℕ → Type 0) (i : ℕ) (js : List ℕ) → P i → All P js → All P (insert i js)
unfolding insert
insert_all P i [] p a = (p, tt)
insert_all P i (j ∷ js) p a = go (leb i j) (insert i js) (insert_all P i js p a.1)
  where
    go : (t : Bool) (rest : List ℕ) → All P rest → All P (cond t (i ∷ j ∷ js) (j ∷ rest))
    go true rest h = (p, a)
    go false rest h = (a.0, h)

pub sorted_all : (P : ℕ → Type 0) (is : List ℕ) → All P is → All P (sorted is)
unfolding sorted
sorted_all P [] a = tt
sorted_all P (i ∷ is) a = insert_all P i (sorted is) a.0 (sorted_all P is a.1)

pub all_map : (P Q : ℕ → Type 0) (is : List ℕ) → ((i : ℕ) → P i → Q i) → All P is → All Q is
all_map P Q [] f a = tt
all_map P Q (i ∷ is) f a = (f i a.0, all_map P Q is f a.1)

all_both : (P Q : ℕ → Type 0) (is : List ℕ) → All P is → All Q is → All (λ i. P i × Q i) is
all_both P Q [] a b = tt
all_both P Q (i ∷ is) a b = ((a.0, b.0), all_both P Q is a.1 b.1)

-- ---- sorted, any two in order are still related
module _ (R : ℕ → ℕ → Type 0) (symmetric : (i j : ℕ) → R i j → R j i) where
  abbrev pub Ordered : ℕ → ℕ → Type 0
  Ordered i j = (i ≤ j) × R i j

  insert_pairs : (i : ℕ) (js : List ℕ) → All (R i) js → Pairs Ordered js → Pairs Ordered (insert i js)
  unfolding insert
  insert_pairs i [] a s = (tt, tt)
  insert_pairs i (j ∷ js) a s = go (leb i j) (leb-true i j) (leb-false i j) (insert i js) (λ (l : j ≤ i). insert_all (Ordered j) i js (l, symmetric i j a.0) s.0) (insert_pairs i js a.1 s.1)
    where
      go : (t : Bool) → (t ≡ true → i ≤ j) → (t ≡ false → j < i) → (rest : List ℕ) → (j ≤ i → All (Ordered j) rest) → Pairs Ordered rest → Pairs Ordered (cond t (i ∷ j ∷ js) (j ∷ rest))
      go true f g rest b h =
          let l : i ≤ j = f refl in
          (((l, a.0), all_map (λ k. Ordered j k × R i k) (Ordered i) js (λ (k : ℕ) (p : Ordered j k × R i k). (le_trans l p.0.0, p.1)) (all_both (Ordered j) (R i) js s.0 a.1)), s)
      go false f g rest b h = (b (le_of_lt (g refl)), h)

  pub sorted_pairs : (is : List ℕ) → Pairs R is → Pairs Ordered (sorted is)
  unfolding sorted
  sorted_pairs [] p = tt
  sorted_pairs (i ∷ is) p = insert_pairs i (sorted is) (sorted_all (R i) is p.0) (sorted_pairs is p.1)
