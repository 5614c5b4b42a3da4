-- What the private functions of this crate ask and promise among themselves. Nothing here is a promise to a caller. Definitions only.
use Rattle.std.specs.Prelude.{◌≡◌, cond, List, ℕ, ◌≤◌, ◌<◌, ltb, Float, length, get_or}
use Rattle.placement_rules.specs.Ring.{Places, earliest, from_start, reduced, placement}
use Rattle.placement_rules.specs.Placing.{allowed_at, sixteen}

-- arguments that are taken
pub record Asked (row : List Float) (k step : ℕ) : Type 0 where
  pub some_hue : 1 ≤ k
  pub few_hues : k ≤ 16
  pub some_step : 1 ≤ step
  pub within : step ≤ length row
  pub short : length row ≤ 720

-- the first allowed index of a ring, 65535 if there is none
abbrev pub first_allowed : List Float → Float → ℕ
first_allowed row c =
    let first = earliest (allowed_at row c) (length row) 0 in
    cond (ltb first (length row)) first 65535

-- a table that holds from an index on, up to the length, the earliest allowed index within one round
pub record Filled (row : List Float) (c : Float) (from : ℕ) (next : List ℕ) : Type 0 where
  pub long : length row ≤ length next
  pub at : (i : ℕ) → from ≤ i → i < length row → get_or next i 0 ≡ earliest (allowed_at row c) (length row) i

-- what filling it asks
pub record FillAsked (row : List Float) (c : Float) (first : ℕ) (work : List ℕ) : Type 0 where
  pub short : length row ≤ 720
  pub is_first : first ≡ earliest (allowed_at row c) (length row) 0
  pub there : first < length row
  pub long : length row ≤ length work

-- what a smallest gap asks: k hues below the length of a ring
pub record GapsAsked (n k : ℕ) (hues : List ℕ) : Type 0 where
  pub some_hue : 1 ≤ k
  pub few_hues : k ≤ 16
  pub short : n ≤ 720
  pub within : (p : ℕ) → p < k → get_or hues p 0 < n

-- sixteen indices: what is placed from one start, and from the first start that succeeds
abbrev pub placed_from : List Float → Float → ℕ → ℕ → ℕ → Places
placed_from row c k step start = sixteen (reduced (length row) (from_start (allowed_at row c) (length row) k step start))

abbrev pub placed_on : List Float → Float → ℕ → ℕ → Places
placed_on row c k step = sixteen (placement (allowed_at row c) (length row) k step)
