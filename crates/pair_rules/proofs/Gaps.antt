-- Req 07: the hues beside the best over a row were placed on it, so their smallest gap means what a placement's does (`best_least`). Assumes nothing.
use mathlib.Core.Path.{◌≡◌, refl, sym, subst}
use mathlib.Core.Bool.{true}
use mathlib.Core.List.{List}
use Prim.Native.Nat.{ℕ, ◌≤◌}
use lib.Ieee.{Float}
use lib.ListN.{length, take}
use Rattle.std.specs.Prelude.{Option, Result, Err}
use Rattle.limits.specs.Answers.{Said, refused}
use Rattle.limits.specs.Refusals.{number}
use Rattle.limits.specs.declared.Refusal.{Refusal}
use Rattle.placement_rules.specs.Gaps.{tightest, Least}
use Rattle.placement_rules.specs.Placing.{allowed_at}
use Rattle.placement_rules.proofs.Stored.{first_of}
use Rattle.placement_rules.proofs.Allowed.{round}
use Rattle.placement_rules.proofs.Gaps.{least, least_anywhere}
use Rattle.pair_rules.specs.declared.Chosen.{Chosen}
use Rattle.pair_rules.specs.Pair.{Best, found, placed_at, best_over, Gives}
use Rattle.pair_rules.proofs.Promise.{last, found_is}

-- what is handed back, over rings of one length and answers that are one
pub gives_same : {k n m : ℕ} {r : Result (Option Chosen) Refusal} {x y : Said Best} → n ≡ m → x ≡ y → Gives n k r x → Gives m k r y
gives_same {k} {m} {r} {x} long e g = subst (Gives m k r) e (subst (λ (n : ℕ). Gives n k r x) long g)

-- what is handed back where a call is refused
pub gives_refused : {n k : ℕ} {w : Refusal} {s : Said Best} → s ≡ refused (number w) → Gives n k (Err w) s
gives_refused {n} {k} {w} e = subst (Gives n k (Err w)) (sym e) (record { says = refl; tightest_is = refl })

pub best_least : (k step : ℕ) (floor : Float) (row : List Float) → 1 ≤ k → k ≤ 16 → 1 ≤ step → step ≤ length row → (c : Float) (hues : List ℕ) → best_over k step floor row ≡ found c hues
    → Least (λ i. true) (length row) k step (tightest (length row) (take k hues)) (take k hues)
unfolding placed_at
best_least k step floor row some few from within c hues h =
    let f = found_is k step floor row c hues h in
    let is = f.indices in
    let ok = allowed_at row (last k step floor row) in
    let l = least ok (length row) k step (round row (last k step floor row)) some from within is f.there in
    subst (λ (js : List ℕ). Least (λ i. true) (length row) k step (tightest (length row) js) js) (sym (first_of k is hues f.handed l.spaced.count few)) (least_anywhere ok (length row) k step (tightest (length row) is) is l)
