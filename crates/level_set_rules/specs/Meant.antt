-- The terms in which the theorems of proofs/Set say what the best of a set of levels means; `Near` of `pair_rules/specs/Limit` is one of them. Definitions only.
use Rattle.std.specs.Prelude.{◌≡◌, ◌⊎◌, true, List, [], ◌∷◌, ℕ, ◌*◌, ◌≤◌, ◌<◌, Float, length}
use Rattle.std.specs.Float.Ieee.{lt}
use Rattle.limits.specs.Taken.{f32_of, entry_taken}
use Rattle.limits.specs.Each.{Each}
use Rattle.gamut.specs.Table.{levels_in}
use Rattle.pair_rules.specs.Rows.{value_at}
use Rattle.level_set_rules.specs.Set.{rows_at}

-- "no hue has a value above 0": the value of a hue is the least of the entries at the levels named
abbrev pub NoneAbove : List Float → List ℕ → Type 0
NoneAbove t levels = (h : ℕ) → h < 720 → lt (f32_of 0) (value_at (rows_at t levels) h) ≡ true → ⊥

-- some hue has one
abbrev pub SomeAbove : List Float → List ℕ → Type 0
SomeAbove t levels = (h : ℕ) × ((h < 720) × (lt (f32_of 0) (value_at (rows_at t levels) h) ≡ true))

-- l stands in a list
abbrev pub In : ℕ → List ℕ → Type 0
In l [] = ⊥
In l (m ∷ levels) = (l ≡ m) ⊎ In l levels

-- "repeats are allowed and change nothing": two lists of the same indices, each as often as may be and in any order
abbrev pub Among : List ℕ → List ℕ → Type 0
Among levels others = (l : ℕ) → In l levels → In l others

pub record SameLevels (levels others : List ℕ) : Type 0 where
  pub there : Among levels others
  pub back : Among others levels

-- a list of 1 to 8
abbrev pub Listed : List ℕ → Type 0
Listed levels = (1 ≤ length levels) × (length levels ≤ 8)

-- when the call is accepted, written out: numbers 1, 6, 8, 18, 11 and 7
pub record SetTaken (k : ℕ) (t : List Float) (levels : List ℕ) (room : ℕ) : Type 0 where
  pub hue_count : (1 ≤ k) × (k ≤ 16)
  pub whole_levels : length t ≡ levels_in t * 720
  pub levels_in_range : (1 ≤ levels_in t) × (levels_in t ≤ 169)
  pub room_enough : 720 ≤ room
  pub listed : Listed levels
  pub within : Each (λ l. l < levels_in t) levels
  pub entries : Each (Each (λ x. entry_taken x ≡ true)) (rows_at t levels)
