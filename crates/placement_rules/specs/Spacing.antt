-- Document 01: "Its hues are spaced at least the step when any two of the k lie that far apart both ways round." Definitions only.
use Rattle.std.specs.Prelude.{◌≡◌, Bool, true, List, ℕ, ◌+◌, ◌-◌, ◌≤◌, ◌<◌, length, get_or}

-- i and j, both below n, are at least step apart both ways round a ring of n: their distance is at least step, and so is the rest of the ring
abbrev pub Apart : ℕ → ℕ → ℕ → ℕ → Type 0
Apart n step i j = (step ≤ (i - j) + (j - i)) × (step + ((i - j) + (j - i)) ≤ n)

-- k indices of a ring of n that are allowed, any two of them that far apart, in whatever order they are listed
pub record Spaced (ok : ℕ → Bool) (n k step : ℕ) (is : List ℕ) : Type 0 where
  pub count : length is ≡ k
  pub within : (p : ℕ) → p < k → get_or is p 0 < n
  pub allowed : (p : ℕ) → p < k → ok (get_or is p 0) ≡ true
  pub apart : (p q : ℕ) → p < k → q < k → (p ≡ q → ⊥) → Apart n step (get_or is p 0) (get_or is q 0)
