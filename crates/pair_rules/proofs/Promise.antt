-- What the best over some rows means, for rows and a floor that are f32. Where it is a chroma, all hues that are spaced have in common at most the upper end where the
-- halving stopped, whatever the floor is (`up_to_high`): from a floor of 35 on it is the rows' limit (`best_is_limit`), and from any floor near it (`best_is_near`, and by
-- fractions `near_by_fractions`); where it is none, all such hues have less in common than the floor (`none_is_none`). Assumes nothing.
use mathlib.Core.Path.{◌≡◌, refl, sym, ap, ◌∙◌, subst}
use mathlib.Core.Logic.{◌⊎◌, inl, inr}
use mathlib.Core.Bool.{Bool, true, false, cond}
use mathlib.Core.List.{List}
use Prim.Native.Nat.{ℕ, ◌+◌, ◌*◌, ◌^◌, ◌≤◌, ◌<◌}
use native.Mathlib.Nat.{le_trans}
use native.Mathlib.Omega.{arith}
use lib.Dec.{leb}
use lib.Ieee.{Float, binary32, to_bits, lt, le}
use lib.Ieee.Exact.{HasValue}
use lib.ListN.{length, get_or, take, replicate}
use borrow.Author.Tests.{leb-true}
use Rattle.limits.specs.Answers.{value}
use Rattle.limits.specs.Taken.{f32_of, up_to, chroma_taken}
use Rattle.limits.proofs.Floats.{never}
use Rattle.limits.proofs.HueCount.{both, hue_count}
use Rattle.limits.proofs.Checks.{all_pass, same_value}
use Rattle.limits.specs.Each.{Each, F32}
use Rattle.halving.specs.Midpoint.{halved, halve}
use Rattle.halving.specs.Patterns.{next}
use Rattle.halving.specs.Ends.{Within}
use Rattle.halving.proofs.Halve.{kept}
use Rattle.halving.proofs.Range.{halve_up_to, taken_up_to, up_to_taken}
use Rattle.halving.proofs.Patterns.{worth_le}
use Rattle.halving.proofs.Plain.{Plain, le_plain, le_through, not_lt_le, not_le_lt, le_not_lt, lt_then_le, taken_plain, next_plain, next_above}
use Rattle.halving.proofs.EndState.{end_state, end_plain, end_above, end_width}
use Rattle.halving.proofs.Fractions.{by_fractions}
use Rattle.placement_rules.specs.Ring.{Places, nowhere, placed, placement}
use Rattle.placement_rules.specs.Placing.{allowed_at, sixteen, stores}
use Rattle.placement_rules.specs.Spacing.{Spaced}
use Rattle.placement_rules.proofs.Checking.{checks}
use Rattle.placement_rules.proofs.Laws.{sound, complete}
use Rattle.placement_rules.proofs.Stored.{first_stored}
use Rattle.placement_rules.proofs.Allowed.{round}
use Rattle.pair_rules.specs.Rows.{value_at, ring_length, least_row, largest, common}
use Rattle.pair_rules.specs.Pair.{Best, none, found, placed_at, some, placeable, with_hues, best_over, lengths_taken, entries_taken, rows_checked, rows_say}
use Rattle.pair_rules.specs.Limit.{RowsF32, Hues, Limit, Near, Below}
use Rattle.pair_rules.proofs.Rows.{least_long, least_taken, largest_up_to}
use Rattle.pair_rules.proofs.Choices.{value_plain, most_plain, value_most, may_be_placed, spaced_hues, spaced_values, spaced_rows, to_common, of_common, common_plain, le_self, each_at}

-- ---- rows and arguments that are taken
pub record Given (k step : ℕ) (rows : List (List Float)) : Type 0 where
  pub some_hue : 1 ≤ k
  pub few_hues : k ≤ 16
  pub some_step : 1 ≤ step
  pub within : step ≤ ring_length rows
  pub lengths : lengths_taken rows ≡ true
  pub entries : entries_taken rows ≡ true
  pub f32 : RowsF32 rows

module _ (k step : ℕ) (floor : Float) (rows : List (List Float)) (given : Given k step rows) where
  some_hue : 1 ≤ k
  some_hue = given.some_hue

  lengths : lengths_taken rows ≡ true
  lengths = given.lengths

  entries : entries_taken rows ≡ true
  entries = given.entries

  f32 : RowsF32 rows
  f32 = given.f32

  abbrev n : ℕ
  n = ring_length rows

  abbrev row : List Float
  row = least_row rows

  -- what is placed, and where something is
  long : length row ≡ n
  long = least_long rows

  reach : step ≤ length row
  reach = let l = long in let w = given.within in omega arith

  places : (c : Float) (is : List ℕ) → Spaced (allowed_at row c) n k step is → placeable k step row c ≡ true
  unfolding placeable placed_at
  places c is s = go (placement (allowed_at row c) (length row) k step) refl
    where
      go : (p : Places) → placement (allowed_at row c) (length row) k step ≡ p → some p ≡ true
      go (placed js) e = refl
      go nowhere e = absurd (complete (allowed_at row c) (length row) k step (round row c) some_hue given.some_step reach is (subst (λ (m : ℕ). Spaced (allowed_at row c) m k step is) (sym long) s) e)

  is_placed_lem : (c : Float) (js : List ℕ) → placed_at k step row c ≡ placed js → Spaced (allowed_at row c) n k step js
  unfolding placed_at
  is_placed_lem c js e = subst (λ (m : ℕ). Spaced (allowed_at row c) m k step js) long (sound (allowed_at row c) (length row) k step (round row c) some_hue given.some_step reach js e)

  -- hues with at least c in common can be placed at c
  common_places : (c : Float) (is : List ℕ) → Plain c → Hues n k step is → le c (common rows is) ≡ true → placeable k step row c ≡ true
  common_places c is C s h = places c is (may_be_placed rows lengths entries f32 c C k step is s (of_common rows lengths entries f32 c C k step is s h))

  plain : (is : List ℕ) → Hues n k step is → Plain (common rows is)
  plain is s = common_plain rows lengths entries f32 k step is some_hue s

  -- nothing in common is above the largest value
  common_most : (is : List ℕ) → Hues n k step is → le (common rows is) (largest row) ≡ true
  common_most is s =
      let v = common rows is in
      let V' = plain is s in
      let e = s.count in
      let i = get_or is 0 0 in
      let w : i < n = s.within 0 (omega arith) in
      let a : le v (value_at rows i) ≡ true = each_at (λ (j : ℕ). le v (value_at rows j) ≡ true) is (of_common rows lengths entries f32 v V' k step is s (le_self v V')) 0 (omega arith) in
      le_through v (value_at rows i) (largest row) V' (value_plain rows lengths entries f32 i w) (most_plain rows lengths entries f32) a (value_most rows lengths entries f32 i w)

  -- what cannot be placed at c has less than c in common
  less_common : (c : Float) (is : List ℕ) → Plain c → Hues n k step is → placeable k step row c ≡ false → lt (common rows is) c ≡ true
  less_common c is C s f = go (le c (common rows is)) refl
    where
      go : (t : Bool) → le c (common rows is) ≡ t → lt (common rows is) c ≡ true
      go true h = never (sym f ∙ common_places c is C s h)
      go false h = not_le_lt c (common rows is) C (plain is s) h

  abbrev ok : Float → Bool
  ok = placeable k step row

  abbrev most : Float
  most = largest row

  abbrev ends : Float × Float
  ends = halved ok 30 floor most

  -- ---- from a floor that is taken
  module _ (F : F32 floor) (taken : chroma_taken floor ≡ true) where
    floor_plain : Plain floor
    unfolding chroma_taken
    floor_plain = (taken_plain floor F taken).0

    most_taken : up_to (f32_of 200) most ≡ true
    most_taken = up_to_taken 200 most (omega arith) (largest_up_to row (least_taken rows lengths entries))

    -- none
    below_floor : (lt most floor ≡ true) ⊎ (ok floor ≡ false) → Below k step rows floor
    below_floor (inl h) is s =
        let v = common rows is in
        go (lt v floor) refl
      where
        go : (t : Bool) → lt (common rows is) floor ≡ t → t ≡ true
        go true e = refl
        go false e =
            let a : le floor (common rows is) ≡ true = not_lt_le (common rows is) floor (plain is s) floor_plain e in
            let b : le floor most ≡ true = le_through floor (common rows is) most floor_plain (plain is s) (most_plain rows lengths entries f32) a (common_most is s) in
            never (sym (le_not_lt floor most floor_plain (most_plain rows lengths entries f32) b) ∙ h)
    below_floor (inr f) is s = less_common floor is floor_plain s f

    -- a chroma
    module _ (reaches : lt most floor ≡ false) (placed_there : ok floor ≡ true) where
      floor_most : le floor most ≡ true
      floor_most = not_lt_le most floor (most_plain rows lengths entries f32) floor_plain reaches

      ends_plain : (Plain ends.0 × Plain ends.1) × (to_bits binary32 ends.0 ≤ 1128792064)
      unfolding chroma_taken
      ends_plain = end_plain ok floor most F (most_plain rows lengths entries f32).f32 taken most_taken floor_most

      under_high : (is : List ℕ) → Hues n k step is → le (common rows is) ends.1 ≡ true
      under_high is s = elim (kept ok 30 floor most placed_there).1 [
        | inl same ↦ subst (λ (x : Float). le (common rows is) x ≡ true) (sym same) (common_most is s)
        | inr fails ↦ lt_then_le (common rows is) ends.1 (plain is s) ends_plain.0.1 (less_common ends.1 is ends_plain.0.1 s fails)
      ]

      up_to_next : le (f32_of 35) floor ≡ true → (is : List ℕ) → Hues n k step is → le (common rows is) ends.1 ≡ true → le (common rows is) (next ends.0) ≡ true
      unfolding chroma_taken
      up_to_next from is s high =
          elim (end_state ok floor most F (most_plain rows lengths entries f32).f32 taken most_taken floor_most from) [
            | inl same ↦
                le_through (common rows is) ends.0 (next ends.0) (plain is s) ends_plain.0.0 (next_plain ends.0 ends_plain.0.0 small)
                (subst (λ (x : Float). le (common rows is) x ≡ true) same high)
                (lt_then_le ends.0 (next ends.0) ends_plain.0.0 (next_plain ends.0 ends_plain.0.0 small) (next_above ends.0 ends_plain.0.0 small))
            | inr after ↦ subst (λ (x : Float). le (common rows is) x ≡ true) after high
          ]
        where
          small : to_bits binary32 ends.0 < 2139095039
          small = let u = ends_plain.1 in omega arith

      up_to_near : (is : List ℕ) → Hues n k step is → le (common rows is) ends.1 ≡ true → Within (2 ^ 134) (ends.0, common rows is)
      unfolding chroma_taken
      up_to_near is s high =
          let below = worth_le (leb-true (to_bits binary32 (common rows is)) (to_bits binary32 ends.1) (sym (le_plain (common rows is) ends.1 (plain is s) ends_plain.0.1) ∙ high)) in
          le_trans below (end_width ok floor most F (most_plain rows lengths entries f32).f32 taken most_taken floor_most)

      -- the hues that are placed there, and what they reach
      abbrev firsts : List ℕ → List ℕ
      firsts js = take k (stores (replicate 16 0) 0 js)

      reached_there : (js : List ℕ) → placed_at k step row ends.0 ≡ placed js → Each (λ r. Spaced (allowed_at r ends.0) n k step (firsts js)) rows × (le ends.0 (common rows (firsts js)) ≡ true)
      reached_there js e = (
        subst (λ (hs : List ℕ). Each (λ r. Spaced (allowed_at r ends.0) n k step hs) rows) (sym first) (spaced_rows rows lengths entries f32 ends.0 ends_plain.0.0 k step js spaced),
        subst (λ (hs : List ℕ). le ends.0 (common rows hs) ≡ true) (sym first)
            (to_common rows lengths entries f32 ends.0 ends_plain.0.0 k step js (spaced_hues rows lengths entries f32 ends.0 ends_plain.0.0 k step js spaced) (spaced_values rows lengths entries f32 ends.0 ends_plain.0.0 k step js spaced)),
      )
        where
          spaced : Spaced (allowed_at row ends.0) n k step js
          spaced = is_placed_lem ends.0 js e

          first : take k (stores (replicate 16 0) 0 js) ≡ js
          first = ap (λ (m : ℕ). take m (stores (replicate 16 0) 0 js)) (sym spaced.count) ∙ first_stored (replicate 16 0) js (let c = spaced.count in let few = given.few_hues in omega arith)

      above_floor : le floor ends.0 ≡ true
      unfolding chroma_taken
      above_floor = end_above ok floor most F (most_plain rows lengths entries f32).f32 taken most_taken floor_most

      end_taken : chroma_taken ends.0 ≡ true
      unfolding chroma_taken halve
      end_taken = up_to_taken 200 ends.0 (omega arith) (halve_up_to 200 ok 30 floor most (omega arith) (taken_up_to 200 floor (omega arith) taken) (taken_up_to 200 most (omega arith) most_taken))

      placed_hues : (js : List ℕ) → placed_at k step row ends.0 ≡ placed js → Hues n k step js
      placed_hues js e = spaced_hues rows lengths entries f32 ends.0 ends_plain.0.0 k step js (is_placed_lem ends.0 js e)

      end_f32 : F32 ends.0
      end_f32 = ends_plain.0.0.f32

-- ---- the best over rows that are taken, by its cases
module _ (k step : ℕ) (floor : Float) (row : List Float) where
  abbrev pub last : Float
  last = halve (placeable k step row) 30 floor (largest row)

  -- what a chroma that is found says
  pub record Found (c : Float) (hues : List ℕ) : Type 0 where
    pub reaches : lt (largest row) floor ≡ false
    pub starts : placeable k step row floor ≡ true
    pub chroma : last ≡ c
    pub indices : List ℕ
    pub there : placed_at k step row last ≡ placed indices
    pub handed : stores (replicate 16 0) 0 indices ≡ hues

  pub found_is : (c : Float) (hues : List ℕ) → best_over k step floor row ≡ found c hues → Found c hues
  unfolding best_over
  found_is c hues h = go (lt (largest row) floor) (placeable k step row floor) (placed_at k step row last) refl refl refl h
    where
      go : (a b : Bool) (p : Places) → lt (largest row) floor ≡ a → placeable k step row floor ≡ b → placed_at k step row last ≡ p → cond a none (cond b (with_hues last (sixteen p)) none) ≡ found c hues → Found c hues
      go true b p x y z h = absurd (let w : ◌≡◌ {A = ℕ} 0 1 = cc in omega arith)
      go false false p x y z h = absurd (let w : ◌≡◌ {A = ℕ} 0 1 = cc in omega arith)
      go false true nowhere x y z h = absurd (let w : ◌≡◌ {A = ℕ} 0 1 = cc in omega arith)
      go false true (placed js) x y z h =
          let e : last ≡ c = cc in
          let f : stores (replicate 16 0) 0 js ≡ hues = cc in
          record { reaches = x; starts = y; chroma = e; indices = js; there = z; handed = f }

  none_is : best_over k step floor row ≡ none → (placeable k step row floor ≡ true → placeable k step row last ≡ true) → (lt (largest row) floor ≡ true) ⊎ (placeable k step row floor ≡ false)
  unfolding best_over placeable
  none_is h kept = go (lt (largest row) floor) (some (placed_at k step row floor)) (placed_at k step row last) refl refl refl h
    where
      go : (a b : Bool) (p : Places) → lt (largest row) floor ≡ a → some (placed_at k step row floor) ≡ b → placed_at k step row last ≡ p → cond a none (cond b (with_hues last (sixteen p)) none) ≡ none → (lt (largest row) floor ≡ true) ⊎ (some (placed_at k step row floor) ≡ false)
      go true b p x y z h = inl x
      go false false p x y z h = inr y
      go false true nowhere x y z h = never (ap some (sym z) ∙ kept y)
      go false true (placed js) x y z h = absurd (let w : ◌≡◌ {A = ℕ} 0 1 = cc in omega arith)

-- ---- the upper end where the halving stopped
abbrev pub high : ℕ → ℕ → Float → List (List Float) → Float
high k step floor rows = (halved (placeable k step (least_row rows)) 30 floor (largest (least_row rows))).1

-- no hues that are spaced have more in common
pub up_to_high : (k step : ℕ) (floor : Float) (rows : List (List Float)) → Given k step rows → F32 floor → chroma_taken floor ≡ true → (c : Float) (hues : List ℕ) → best_over k step floor (least_row rows) ≡ found c hues
    → (others : List ℕ) → Hues (ring_length rows) k step others → le (common rows others) (high k step floor rows) ≡ true
up_to_high k step floor rows given F taken c hues h others s =
    let f = found_is k step floor (least_row rows) c hues h in
    under_high k step floor rows given F taken f.reaches f.starts others s

-- ---- the theorems
module _ (k step : ℕ) (floor : Float) (rows : List (List Float)) (room : ℕ) (F : F32 floor) (f32 : RowsF32 rows) where
  record Sound (best : Best) : Type 0 where
    given : Given k step rows
    taken : chroma_taken floor ≡ true
    is : best_over k step floor (least_row rows) ≡ best

  said : (best : Best) → rows_say k step floor rows room ≡ value best → Sound best
  unfolding rows_say rows_checked
  said best h =
      let n = ring_length rows in
      let t = all_pass (checks k step floor n (lengths_taken rows) (entries_taken rows) room) (value (best_over k step floor (least_row rows))) best h in
      let a = hue_count k t.0.0 in
      let s = both (leb 1 step) (leb step n) t.0.1.1.1.0 in
      let e : best_over k step floor (least_row rows) ≡ best = same_value (best_over k step floor (least_row rows)) best t.1 in
      let g : Given k step rows = record { some_hue = a.0; few_hues = a.1; some_step = leb-true 1 step s.0; within = leb-true step n s.1; lengths = t.0.1.1.0; entries = t.0.1.1.1.1.0; f32 = f32 } in
      record { given = g; taken = t.0.1.0; is = e }

  pub best_is_limit : (c : Float) (hues : List ℕ) → le (f32_of 35) floor ≡ true → rows_say k step floor rows room ≡ value (found c hues) → Limit k step rows c hues
  unfolding halve
  best_is_limit c hues from h =
      let s = said (found c hues) h in
      let f = found_is k step floor (least_row rows) c hues s.is in
      let r = reached_there k step floor rows s.given F s.taken f.reaches f.starts f.indices f.there in
      let up : (others : List ℕ) → Hues (ring_length rows) k step others → le (common rows others) (next (last k step floor (least_row rows))) ≡ true = λ others sp. up_to_next k step floor rows s.given F s.taken f.reaches f.starts from others sp (up_to_high k step floor rows s.given F s.taken c hues s.is others sp) in
      subst (λ (x : Float). Limit k step rows x hues) f.chroma (subst (Limit k step rows (last k step floor (least_row rows))) f.handed (record { placed = r.0; reached = r.1; limit = up }))

  pub best_is_near : (c : Float) (hues : List ℕ) → rows_say k step floor rows room ≡ value (found c hues) → Near k step rows c hues
  unfolding halve
  best_is_near c hues h =
      let s = said (found c hues) h in
      let f = found_is k step floor (least_row rows) c hues s.is in
      let r = reached_there k step floor rows s.given F s.taken f.reaches f.starts f.indices f.there in
      let up : (others : List ℕ) → Hues (ring_length rows) k step others → Within (2 ^ 134) (last k step floor (least_row rows), common rows others) = λ others sp. up_to_near k step floor rows s.given F s.taken f.reaches f.starts others sp (up_to_high k step floor rows s.given F s.taken c hues s.is others sp) in
      let number : F32 (last k step floor (least_row rows)) × (chroma_taken (last k step floor (least_row rows)) ≡ true) = (end_f32 k step floor rows s.given F s.taken f.reaches f.starts, end_taken k step floor rows s.given F s.taken f.reaches f.starts) in
      subst (λ (x : Float). Near k step rows x hues) f.chroma (subst (Near k step rows (last k step floor (least_row rows))) f.handed (record { in_range = number; placed = r.0; reached = r.1; limit = up }))

  -- what that says by fractions: where other hues have a / d in common and c is b / d, a / d is at most 2 ^ -15 above b / d
  pub near_by_fractions : (c : Float) (hues : List ℕ) → rows_say k step floor rows room ≡ value (found c hues) → (others : List ℕ) → Hues (ring_length rows) k step others
      → (a b d : ℕ) → 0 < d → HasValue (common rows others) false a d → HasValue c false b d → a * 2 ^ 15 ≤ b * 2 ^ 15 + d
  unfolding chroma_taken
  near_by_fractions c hues h others sp a b d D v w =
      let s = said (found c hues) h in
      let near = best_is_near c hues h in
      by_fractions c (common rows others) (taken_plain c near.in_range.0 near.in_range.1).0 (plain k step floor rows s.given others sp) a b d D v w (near.limit others sp)

  -- what is handed out, from any floor: a chroma from the floor to 200, and sixteen hues of which the first k are spaced and the others zero
  pub record Handed (c : Float) (hues : List ℕ) : Type 0 where
    pub f32_is : F32 c
    pub in_range : chroma_taken c ≡ true
    pub above : le floor c ≡ true
    pub indices : List ℕ
    pub stored : stores (replicate 16 0) 0 indices ≡ hues
    pub spaced : Hues (ring_length rows) k step indices

  pub what_is_handed : (c : Float) (hues : List ℕ) → rows_say k step floor rows room ≡ value (found c hues) → Handed c hues
  unfolding halve
  what_is_handed c hues h =
      let s = said (found c hues) h in
      let f = found_is k step floor (least_row rows) c hues s.is in
      subst (λ (x : Float). Handed x hues) f.chroma (record {
        f32_is = end_f32 k step floor rows s.given F s.taken f.reaches f.starts;
        in_range = end_taken k step floor rows s.given F s.taken f.reaches f.starts;
        above = above_floor k step floor rows s.given F s.taken f.reaches f.starts;
        indices = f.indices;
        stored = f.handed;
        spaced = placed_hues k step floor rows s.given F s.taken f.reaches f.starts f.indices f.there;
      })

  pub none_is_none : rows_say k step floor rows room ≡ value none → Below k step rows floor
  unfolding halve
  none_is_none h =
      let s = said none h in
      let row = least_row rows in
      below_floor k step floor rows s.given F s.taken
      (none_is k step floor row s.is (λ (t : placeable k step row floor ≡ true). (kept (placeable k step row) 30 floor (largest row) t).0))
