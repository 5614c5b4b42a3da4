-- What the private functions promise among themselves. Nothing here is a promise to a caller. Definitions only.
use Rattle.std.specs.Prelude.{◌≡◌, cond, List, ◌∷◌, ℕ, eqb}
use Rattle.placement_rules.specs.Placing.{placement_said}
use Rattle.text.specs.Decimal.{decimal}
use Rattle.ring_reading.specs.Fields.{line_of}
use Rattle.ring_answers.specs.declared.Saying.{Saying}
use Rattle.ring_answers.specs.Answers.{line_says, count_of}

-- the i-th index of an answer: a comma before each but the first
unfoldable pub index_at : ℕ → ℕ → List ℕ
index_at i hue = cond (eqb i 0) (decimal hue) (44 ∷ decimal hue)

-- what is said to a line, and its k
pub record Says (line : List ℕ) (r : Saying) : Type 0 where
  pub count : r.k ≡ count_of (line_of line)
  pub said : placement_said r.found ≡ line_says line
