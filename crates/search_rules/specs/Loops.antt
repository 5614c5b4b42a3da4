-- Document 01, "The job": "With all steps done the result is that of `search` over a `Gamut` of as many levels." The Rust's own `search`: a loop over the dark levels and, within it,
-- one over the light levels, the best so far carried along. That all steps leave just this is `finished_is_loops` of proofs/Loops, and that `search_says` is this `search_is_loops`.
-- Definitions only.
use Rattle.std.specs.Prelude.{ℕ, zero, suc, cond, List, [], ◌∷◌, Float, replicate}
use Rattle.gamut.specs.Table.{levels_in, row_at}
use Rattle.placement_rules.specs.Placing.{step_for}
use Rattle.pair_rules.specs.Rows.{least_row}
use Rattle.pair_rules.specs.Pair as pair
use Rattle.pair_rules.specs.Pair.{best_over, none, found}
use Rattle.search_rules.specs.declared.Settings.{Settings}
use Rattle.search_rules.specs.declared.Best.{Best}
use Rattle.search_rules.specs.declared.Best.TheVariants.{None, Found}
use Rattle.search_rules.specs.Job.{qualifies, floor_of, beats}

-- what the loops carry: the best so far, with its hues beside it
pub record Solution : Type 0 where
  pub best : Best
  pub hues : List ℕ

-- none so far, hues all zero
abbrev pub unsolved : Solution
unsolved = record { best = None; hues = replicate 16 0 }

-- after a pair whose best is this: "a strictly greater chroma replaces it, and anything replaces none"
abbrev pub improved : Solution → ℕ → ℕ → pair.Best → Solution
improved so d l none = so
improved so d l (found c hues) = cond (beats c so.best) (record { best = Found c d l; hues = hues }) so

-- the dark level d with the light level l: passed over where their difference is below gap + 1, and otherwise "the pair is searched, floor 35 or the best chroma"
unfoldable pub tried : Settings → List Float → ℕ → ℕ → Solution → Solution
tried s table d l so = cond (qualifies s d l) (improved so d l (best_over s.k (step_for s.k) (floor_of so.best) (least_row (row_at table d ∷ row_at table l ∷ [])))) so

-- a loop over n indices from i on: the body is given each in turn, with what the one before it left
unfoldable pub loop : {A : Type 0} → (ℕ → A → A) → ℕ → ℕ → A → A
loop body zero i so = so
loop body (suc n) i so = loop body n (suc i) (body i so)

-- the inner loop: the dark level d with every light level, from index 0 up
unfoldable pub over_light : Settings → List Float → ℕ → Solution → Solution
over_light s table d so = loop (λ l. tried s table d l) (levels_in table) 0 so

-- the outer loop: every dark level, from index 0 up, from none so far
unfoldable pub two_loops : Settings → List Float → Solution
two_loops s table = loop (λ d. over_light s table d) (levels_in table) 0 unsolved
