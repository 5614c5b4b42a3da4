-- Checks one after the other, each with its number, in front of what a good call says: where it is said, all pass (`all_pass`); where all pass, it is said (`said`); and where
-- one fails, its number is, whatever a good call would say (`failing`). Over any list of checks, and by what a function that makes them hands back (`fine`, `wrong`).
-- Assumes nothing.
use mathlib.Core.Path.{◌≡◌, refl, sym, ap, ◌∙◌}
use mathlib.Core.Bool.{Bool, true, false, cond}
use mathlib.Core.List.{List, [], ◌∷◌}
use Prim.Native.Nat.{ℕ}
use native.Mathlib.Omega.{arith}
use Rattle.limits.specs.Answers.{Said, value, refused, pass}
use Rattle.limits.specs.Refusals.{number}
use Rattle.limits.specs.Refusals as refusals
use Rattle.limits.specs.declared.Refusal.{Refusal}
use Rattle.std.specs.Prelude.{Result, Ok, Err}

-- whether a check passes, and its number
pub record Check : Type 0 where
  pub passes : Bool
  pub number : ℕ

abbrev pub check : Bool → ℕ → Check
check b n = record { passes = b; number = n }

abbrev pub through : {A : Type 0} → List Check → Said A → Said A
through [] x = x
through (c ∷ cs) x = cond c.passes (through cs x) (refused c.number)

abbrev pub AllPass : List Check → Type 0
AllPass [] = Unit
AllPass (c ∷ cs) = (c.passes ≡ true) × AllPass cs

-- nothing is both said and refused
pub differ : {A B : Type 0} (n : ℕ) (v : A) → refused n ≡ value v → B
differ n v h = absurd (let z : ◌≡◌ {A = ℕ} 0 1 = cc in omega arith)

pub all_pass : {A : Type 0} (cs : List Check) (x : Said A) (v : A) → through cs x ≡ value v → AllPass cs × (x ≡ value v)
all_pass [] x v h = (tt, h)
all_pass (c ∷ cs) x v h = go c.passes refl (λ (k : through cs x ≡ value v). all_pass cs x v k) h
  where
    go : (b : Bool) → c.passes ≡ b → (through cs x ≡ value v → AllPass cs × (x ≡ value v)) → cond b (through cs x) (refused c.number) ≡ value v → ((c.passes ≡ true) × AllPass cs) × (x ≡ value v)
    go false e rest h = differ c.number v h
    go true e rest h = let t = rest h in ((e, t.0), t.1)

pub said : {A : Type 0} (cs : List Check) (x : Said A) → AllPass cs → through cs x ≡ x
said [] x t = refl
said (c ∷ cs) x t = rw t.0 (said cs x t.1)

pub failing : {A B : Type 0} (cs : List Check) (x : Said A) (y : B) (n : ℕ) → through cs (value y) ≡ refused n → through cs x ≡ refused n
failing [] x y n h = differ n y (sym h)
failing (c ∷ cs) x y n h = go c.passes (λ (k : through cs (value y) ≡ refused n). failing cs x y n k) h
  where
    go : (b : Bool) → (through cs (value y) ≡ refused n → through cs x ≡ refused n) → cond b (through cs (value y)) (refused c.number) ≡ refused n → cond b (through cs x) (refused c.number) ≡ refused n
    go false rest h = let same : ◌≡◌ {A = ℕ} c.number n = cc in ap refused same
    go true rest h = rest h

-- ---- by what a function that makes the checks hands back
module _ (cs : List Check) (r : Result (Unit {0}) Refusal) (says : refusals.said r ≡ through cs pass) where
  -- all pass
  pub passed : r ≡ Ok tt → AllPass cs
  passed f = (all_pass cs pass tt (sym says ∙ ap refusals.said f)).0

  -- what a good call says is said
  pub fine : {A : Type 0} (x : Said A) → r ≡ Ok tt → through cs x ≡ x
  fine x f = said cs x (passed f)

  -- one fails: its number is said
  pub wrong : {A : Type 0} (x : Said A) (w : Refusal) → r ≡ Err w → through cs x ≡ refused (number w)
  wrong x w f = failing cs x tt (number w) (sym says ∙ ap refusals.said f)

-- nothing is both said and refused
pub said_twice : {A B : Type 0} {x : Said A} {a : A} {n : ℕ} → x ≡ value a → x ≡ refused n → B
said_twice {a = a} {n = n} g h = differ n a (sym h ∙ g)

-- what is said is one value
pub same_value : {A : Type 0} (x y : A) → ◌≡◌ {A = Said A} (value x) (value y) → x ≡ y
same_value x y h = cc
