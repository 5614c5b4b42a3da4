-- Placing from a start, turn by turn: what a turn of the loop keeps (`Turn`), how it begins, how it goes on and how it ends. Assumes nothing.
use mathlib.Core.Path.{◌≡◌, refl, sym, ap, ◌∙◌}
use mathlib.Core.Bool.{true, false}
use mathlib.Core.List.{List, []}
use Prim.Native.Nat.{ℕ, suc, ◌+◌, ◌-◌, ◌%◌, ◌≤◌, ◌<◌}
use native.Mathlib.Nat.{mod-eq_of_lt}
use native.Mathlib.Omega.{arith}
use lib.Ieee.{Float}
use lib.ListN.{length, set, replicate, length-set}
use Rattle.placement_rules.specs.Ring.{Places, nowhere, placed, earliest, onward, from_start, reduced}
use Rattle.placement_rules.specs.Placing.{allowed_at, sixteen}
use Rattle.placement_rules.proofs.Earliest.{from}
use Rattle.placement.specs.Inner.{Asked, Filled, GapsAsked, placed_from}
use Rattle.placement.proofs.Table.{in_one_round}
use Rattle.placement.proofs.Gaps.{all_below}
use Rattle.placement.proofs.Placing.{stored, sixteen_stored, store_one, store_none, too_late, none_left, one_on, closed, open_end, at_start, not_there}

-- the rest of the definition from an index on, with so many indices to come
abbrev rest : List Float → Float → ℕ → ℕ → ℕ → ℕ → Places
rest row c step start more cur = onward (allowed_at row c) step (start + length row) more cur

-- what is known at each turn: what was asked at entry; and that what is stored so far, with the rest of the definition from cur on, is the whole
pub record Turn (row : List Float) (c : Float) (next : List ℕ) (k step start : ℕ) (hues : List ℕ) (cur at : ℕ) : Type 0 where
  pub asked : Asked row k step
  pub table : Filled row c 0 next
  pub begins : start < length row
  pub some : 1 ≤ at
  pub few : at ≤ k
  pub onto : start ≤ cur
  pub within : cur < start + length row
  pub long : length hues ≡ 16
  pub whole : stored (length row) hues at (rest row c step start (k - at) cur)
      ≡ stored (length row) (replicate 16 0) 0 (from_start (allowed_at row c) (length row) k step start)

-- ---- the start itself
pub not_begun : (row : List Float) (c : Float) (k step start : ℕ) → allowed_at row c start ≡ false → placed_from row c k step start ≡ nowhere
not_begun row c k step start f = ap (λ (p : Places). sixteen (reduced (length row) p)) (not_there (allowed_at row c) (length row) k step start f)

module _ {row : List Float} {c : Float} {next : List ℕ} {k step start : ℕ} where
  pub begun : Asked row k step → Filled row c 0 next → start < length row → allowed_at row c start ≡ true → Turn row c next k step start (set (replicate 16 0) 0 start) start 1
  begun a f u t =
      let e : start % length row ≡ start = mod-eq_of_lt u in
      let one = ap (λ (p : Places). stored (length row) (replicate 16 0) 0 p) (at_start (allowed_at row c) (length row) k step start t) ∙ store_one (length row) (replicate 16 0) 0 start (rest row c step start (k - 1) start) in
      record { asked = a; table = f; begins = u; some = omega arith; few = a.some_hue; onto = omega arith; within = omega arith; long = refl; whole = sym (one ∙ ap (λ (x : ℕ). stored (length row) (set (replicate 16 0) 0 x) 1 (rest row c step start (k - 1) start)) e) }

  module _ {hues : List ℕ} {cur at : ℕ} (t : Turn row c next k step start hues cur at) where
    -- where the rest of the definition gives none, the whole does
    ended : rest row c step start (k - at) cur ≡ nowhere → placed_from row c k step start ≡ nowhere
    ended e = sixteen_stored (length row) (from_start (allowed_at row c) (length row) k step start) ∙ sym t.whole ∙ ap (λ (p : Places). stored (length row) hues at p) e

    -- ---- one index on
    one_more : at < k → k - at ≡ suc (k - suc at)
    one_more h = omega arith

    pub past : at < k → start + length row ≤ cur + step → placed_from row c k step start ≡ nowhere
    past h p = ended (ap (λ (x : ℕ). rest row c step start x cur) (one_more h) ∙ too_late (allowed_at row c) step (start + length row) (k - suc at) cur p)

    -- the table was read, at an index before the round's end
    module _ (j : ℕ) (is : j ≡ earliest (allowed_at row c) (length row) (cur + step)) (more : at < k) (near : cur + step < start + length row) where
      top : start + length row ≤ cur + step + length row
      top = let o = t.onto in omega arith

      reach : cur + step ≤ start + length row
      reach = omega arith

      pub none_ahead : start + length row ≤ j → placed_from row c k step start ≡ nowhere
      none_ahead p = ended (ap (λ (x : ℕ). rest row c step start x cur) (one_more more) ∙ none_left (allowed_at row c) step (start + length row) (k - suc at) cur j (cur + step + length row) reach top (in_one_round row c (cur + step) j is) p)

      pub turned : (i : ℕ) → i ≡ j % length row → j < start + length row → Turn row c next k step start (set hues at i) j (at + 1)
      turned i e u =
          let one : rest row c step start (k - at) cur ≡ _ = ap (λ (x : ℕ). rest row c step start x cur) (one_more more) ∙ one_on (allowed_at row c) step (start + length row) (k - suc at) cur j (cur + step + length row) reach top (in_one_round row c (cur + step) j is) u in
          let on : cur + step ≤ j = let b = from (allowed_at row c) (length row) (cur + step) in omega arith in
          let o = t.onto in
          let x : at + 1 ≡ suc at = omega arith in
          record {
            asked = t.asked;
            table = t.table;
            begins = t.begins;
            some = omega arith;
            few = omega arith;
            onto = omega arith;
            within = u;
            long = length-set hues at i ∙ t.long;
            whole = rw (e, x) (sym (store_one (length row) hues at j (rest row c step start (k - suc at) j)) ∙ ap (λ (p : Places). stored (length row) hues at p) (sym one) ∙ t.whole);
          }

    -- ---- the closing gap
    none_more : k ≤ at → k - at ≡ 0
    none_more h = omega arith

    pub gap_short : k ≤ at → start + length row - cur < step → placed_from row c k step start ≡ nowhere
    gap_short h g = ended (ap (λ (x : ℕ). rest row c step start x cur) (none_more h) ∙ open_end (allowed_at row c) step (start + length row) cur g)

    pub gap_enough : k ≤ at → step ≤ start + length row - cur → placed_from row c k step start ≡ placed hues
    gap_enough h g =
        let end : rest row c step start (k - at) cur ≡ placed [] = ap (λ (x : ℕ). rest row c step start x cur) (none_more h) ∙ closed (allowed_at row c) step (start + length row) cur g in
        sixteen_stored (length row) (from_start (allowed_at row c) (length row) k step start) ∙ sym t.whole ∙ ap (λ (p : Places). stored (length row) hues at p) end ∙ store_none (length row) hues at

    -- and the hues that are stored are k hues of the ring
    pub all_stored : k ≤ at → step ≤ start + length row - cur → GapsAsked (length row) k hues
    all_stored h g =
        let u = t.begins in
        record { some_hue = t.asked.some_hue; few_hues = t.asked.few_hues; short = t.asked.short; within = λ (p : ℕ) (l : p < k). all_below (length row) (omega arith) (from_start (allowed_at row c) (length row) k step start) hues (gap_enough h g) p }
