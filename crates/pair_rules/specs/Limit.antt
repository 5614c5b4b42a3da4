-- What the best over some rows means. Where it is a chroma, its hues are placed at it in each row, and no k hues spaced at least the step have more in common than
-- the next f32 after it (`Limit`, from a floor of 35 on), or no more than 2 ^ -15 above it (`Near`, from any floor); where it is none, all such hues have less in common
-- than the floor (`Below`). Definitions only.
use Rattle.std.specs.Prelude.{◌≡◌, true, List, ℕ, ◌^◌, Float, take}
use Rattle.std.specs.Float.Ieee.{le, lt}
use Rattle.limits.specs.Taken.{chroma_taken}
use Rattle.limits.specs.Each.{Each, F32}
use Rattle.halving.specs.Patterns.{next}
use Rattle.halving.specs.Ends.{Within}
use Rattle.placement_rules.specs.Placing.{allowed_at}
use Rattle.placement_rules.specs.Spacing.{Spaced}
use Rattle.pair_rules.specs.Rows.{ring_length, common}

-- each entry of each row is an f32
abbrev pub RowsF32 : List (List Float) → Type 0
RowsF32 rows = Each (Each F32) rows

-- k hues of a ring of n, any two of them at least the step apart both ways round
abbrev pub Hues : ℕ → ℕ → ℕ → List ℕ → Type 0
Hues n k step hues = Spaced (λ i. true) n k step hues

-- c, with the first k of the hues handed out, is the limit of the rows
pub record Limit (k step : ℕ) (rows : List (List Float)) (c : Float) (hues : List ℕ) : Type 0 where
  pub placed : Each (λ row. Spaced (allowed_at row c) (ring_length rows) k step (take k hues)) rows
  pub reached : le c (common rows (take k hues)) ≡ true
  pub limit : (others : List ℕ) → Hues (ring_length rows) k step others → le (common rows others) (next c) ≡ true

-- c, with the first k of the hues handed out, is near the limit of the rows: "Of all placements, none has a common chroma more than 2^-15 above the answer." 2 ^ -15 is 2 ^ 134
-- units of 2 ^ -149, and the difference is the exact one; c is an f32 from plus 0 to 200, so that its units are its value
pub record Near (k step : ℕ) (rows : List (List Float)) (c : Float) (hues : List ℕ) : Type 0 where
  pub in_range : F32 c × (chroma_taken c ≡ true)
  pub placed : Each (λ row. Spaced (allowed_at row c) (ring_length rows) k step (take k hues)) rows
  pub reached : le c (common rows (take k hues)) ≡ true
  pub limit : (others : List ℕ) → Hues (ring_length rows) k step others → Within (2 ^ 134) (c, common rows others)

-- all choices of hues lie below the floor
abbrev pub Below : ℕ → ℕ → List (List Float) → Float → Type 0
Below k step rows floor = (others : List ℕ) → Hues (ring_length rows) k step others → lt (common rows others) floor ≡ true
