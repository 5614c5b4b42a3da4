-- The starts tried one after the other, what is found says of the start tried, and that nothing is placed where no index is allowed. Assumes nothing.
use mathlib.Core.Path.{◌≡◌, refl, sym, ap, ◌∙◌}
use mathlib.Core.Bool.{true, false}
use mathlib.Core.List.{List}
use Prim.Native.Nat.{ℕ, suc, ◌+◌, ◌-◌, ◌*◌, ◌≤◌, ◌<◌}
use native.Mathlib.Omega.{arith}
use lib.Ieee.{Float}
use lib.ListN.{length, get_or}
use Rattle.limits.proofs.Floats.{never}
use Rattle.std.specs.Prelude.{Option, Some, None, is_some}
use Rattle.placement_rules.specs.declared.Placement.{Placement}
use Rattle.placement_rules.specs.Ring.{Places, nowhere, placed, or_else, earliest, from_start, first_from, reduced, placement}
use Rattle.placement_rules.specs.Placing.{allowed_at, sixteen, places_of}
use Rattle.placement.specs.Inner.{Asked}
use Rattle.placement.proofs.Table.{one_less}
use Rattle.placement_rules.proofs.Chain as Chain
use Rattle.placement_rules.proofs.Earliest.{first}
use Rattle.placement_rules.proofs.Laws.{few_starts, sound}
use Rattle.placement_rules.proofs.Allowed.{round}

-- ---- what is found gives places
pub placed_there : (found : Option Placement) (n : ℕ) (p : Places) → is_some found ≡ true → places_of found ≡ sixteen (reduced n p) → Chain.Some p
placed_there found n (placed is) t e = tt
placed_there (Some x) n nowhere t e = let z : ◌≡◌ {A = ℕ} 0 1 = cc in omega arith
placed_there None n nowhere t e = never t

pub not_placed_there : (found : Option Placement) (n : ℕ) (p : Places) → is_some found ≡ false → places_of found ≡ sixteen (reduced n p) → p ≡ nowhere
not_placed_there found n nowhere t e = refl
not_placed_there (Some x) n (placed is) t e = never (sym t)
not_placed_there None n (placed is) t e = absurd (let z : ◌≡◌ {A = ℕ} 0 1 = cc in omega arith)

-- ---- one start on, of those that are tried
module _ (row : List Float) (c : Float) (k step : ℕ) (asked : Asked row k step) where
  abbrev try : ℕ → Places
  try = from_start (allowed_at row c) (length row) k step

  abbrev pub starts : ℕ
  starts = length row - (k - 1) * step

  pub all_starts : placement (allowed_at row c) (length row) k step ≡ reduced (length row) (first_from try starts 0)
  unfolding placement
  all_starts = ap (reduced (length row)) (few_starts (allowed_at row c) (length row) k step (round row c) asked.some_hue asked.some_step asked.within)

  module _ (s : ℕ) (so_far : first_from try (starts - s) s ≡ first_from try starts 0) where
    pub found : s < starts → Chain.Some (try s) → placement (allowed_at row c) (length row) k step ≡ reduced (length row) (try s)
    unfolding first_from
    found h t =
        let e : first_from try (suc (starts - (s + 1))) s ≡ first_from try starts 0 = rw (one_less starts s h) at so_far in
        all_starts ∙ ap (reduced (length row)) (sym e ∙ taken (try s) (first_from try (starts - (s + 1)) (suc s)) t)
      where
        taken : (p later : Places) → Chain.Some p → or_else p later ≡ p
        taken nowhere later t = absurd t
        taken (placed is) later t = refl

    pub onward : s < starts → try s ≡ nowhere → first_from try (starts - (s + 1)) (s + 1) ≡ first_from try starts 0
    unfolding first_from
    onward h f =
        let n : s + 1 ≡ suc s = omega arith in
        let e : first_from try (suc (starts - (s + 1))) s ≡ first_from try starts 0 = rw (one_less starts s h) at so_far in
        ap (λ (x : ℕ). first_from try (starts - (s + 1)) x) n ∙ (rw f at e)

    pub none : starts ≤ s → placement (allowed_at row c) (length row) k step ≡ nowhere
    unfolding first_from
    none h =
        let n : starts - s ≡ 0 = omega arith in
        let e : nowhere ≡ first_from try starts 0 = rw n at so_far in
        all_starts ∙ sym (ap (reduced (length row)) e)

  -- ---- where no index is allowed
  pub none_allowed : length row ≤ earliest (allowed_at row c) (length row) 0 → placement (allowed_at row c) (length row) k step ≡ nowhere
  none_allowed h = go (placement (allowed_at row c) (length row) k step) refl
    where
      go : (p : Places) → placement (allowed_at row c) (length row) k step ≡ p → p ≡ nowhere
      go nowhere e = refl
      go (placed is) e =
          let s = sound (allowed_at row c) (length row) k step (round row c) asked.some_hue asked.some_step asked.within is e in
          let i = get_or is 0 0 in
          let u : i < length row = s.within 0 asked.some_hue in
          let l : earliest (allowed_at row c) (length row) 0 ≤ i = first (allowed_at row c) (length row) 0 i (omega arith) (omega arith) (s.allowed 0 asked.some_hue) in
          absurd (omega arith)
