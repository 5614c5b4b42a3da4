-- A number below 1,000 is read back from its decimal digits. Assumes nothing.
use mathlib.Core.Path.{◌≡◌, refl, ap, ◌∙◌}
use mathlib.Core.Bool.{Bool, true, false, cond}
use mathlib.Core.List.{[], ◌∷◌}
use mathlib.Core.Option.{some}
use Prim.Native.Nat.{ℕ, ◌+◌, ◌-◌, ◌*◌, ◌/◌, ◌%◌, ◌≤◌, ◌<◌}
use native.Mathlib.Omega.{arith}
use lib.Dec.{ltb}
use borrow.Author.Tests.{ltb-true, ltb-false}
use Rattle.text.specs.Decimal.{decimal}
use Rattle.ring_reading.specs.Numbers.{number_of}
use Rattle.ring_reading.proofs.Numbers.{range_digit, one_digit, two_digits, three_digits_lem}

pub decimal_read : (n : ℕ) → n < 1000 → number_of (decimal n) ≡ some n
unfolding decimal
decimal_read n h = go (ltb n 10) (ltb n 100) refl refl
  where
    go : (s t : Bool) → ltb n 10 ≡ s → ltb n 100 ≡ t
        → number_of
        (cond s ((48 + n) ∷ []) (cond t ((48 + n / 10) ∷ (48 + n % 10) ∷ []) ((48 + n / 100 % 10) ∷ (48 + n / 10 % 10) ∷ (48 + n % 10) ∷ [])))
        ≡ some n
    go true t e f =
        let u = ltb-true n 10 e in
        let m : 48 + n - 48 ≡ n = omega arith in
        one_digit (48 + n) (range_digit (48 + n) (omega arith) (omega arith)) ∙ ap some m
    go false true e f =
        let l = ltb-false n 10 e in
        let u = ltb-true n 100 f in
        let m : (48 + n / 10 - 48) * 10 + (48 + n % 10 - 48) ≡ n = omega arith in
        two_digits (48 + n / 10) (48 + n % 10) (range_digit (48 + n / 10) (omega arith) (omega arith)) (λ z. omega arith)
        (range_digit (48 + n % 10) (omega arith) (omega arith))
        ∙ ap some m
    go false false e f =
        let l = ltb-false n 100 f in
        let u : n / 100 < 10 = omega arith in
        let v : 1 ≤ n / 100 = omega arith in
        let w : n / 100 % 10 ≡ n / 100 = omega arith in
        let m : (48 + n / 100 % 10 - 48) * 100 + (48 + n / 10 % 10 - 48) * 10 + (48 + n % 10 - 48) ≡ n = omega arith in
        three_digits_lem (48 + n / 100 % 10) (48 + n / 10 % 10) (48 + n % 10) (range_digit (48 + n / 100 % 10) (omega arith) (omega arith)) (λ z. omega arith)
        (range_digit (48 + n / 10 % 10) (omega arith) (omega arith))
        (range_digit (48 + n % 10) (omega arith) (omega arith))
        ∙ ap some m
