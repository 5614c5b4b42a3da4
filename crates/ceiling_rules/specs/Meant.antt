-- Document 02, Req 08: "Over the same table the finished job never exceeds the larger of best and ceiling, and if both are below 35 or absent it ends with none." And what the
-- ceiling is, with nothing of the loop in it. The theorems are `ceiling_is`, `ceiling_entry`, `ahead_holds`, `finished_holds` and `not_risen` of proofs/Holds. Definitions only.
use Rattle.std.specs.Prelude.{◌≡◌, true, List, ℕ, ◌*◌, ◌≤◌, ◌<◌, Float, get_or}
use Rattle.std.specs.Float.{nan}
use Rattle.std.specs.Float.Ieee.{le, lt}
use Rattle.limits.specs.Taken.{f32_of}
use Rattle.gamut.specs.Table.{levels_in, row_at}
use Rattle.pair_rules.specs.Rows.{greater}
use Rattle.search_rules.specs.declared.Best.{Best}
use Rattle.search_rules.specs.declared.Best.TheVariants.{None, Found}
use Rattle.search_rules.specs.declared.Job.{Job}
use Rattle.search_rules.specs.Job.{dark_at, light_at, qualifies}
use Rattle.ceiling_rules.specs.Ceiling.{Ceiling, none_left, at_most, top_at}

-- ---- what the ceiling is
-- a qualifying pair still to come: its position is not before the job's
pub record ToCome (j : Job) : Type 0 where
  pub at : ℕ
  pub from : j.position ≤ at
  pub below : at < j.levels * j.levels
  pub pair_qualifies : qualifies j.settings (dark_at j.levels at) (light_at j.levels at) ≡ true

-- the lesser of both its rows' largest entries
abbrev pub top_of : (j : Job) → List Float → ToCome j → Float
top_of j t x = top_at t (dark_at j.levels x.at) (light_at j.levels x.at)

-- the ceiling is one of theirs, and none has more; where none is said to be left, there is none of them
abbrev pub Greatest : Job → List Float → Ceiling → Type 0
Greatest j t none_left = ToCome j → ⊥
Greatest j t (at_most x) = ((p : ToCome j) × (top_of j t p ≡ x)) × ((p : ToCome j) → le (top_of j t p) x ≡ true)

-- an entry of a table, at a level and a hue: nothing else is handed out as a ceiling
abbrev pub Entry : List Float → Float → Type 0
Entry t x = (i : ℕ) × ((i < levels_in t) × ((h : ℕ) × ((h < 720) × (get_or (row_at t i) h nan ≡ x))))

-- ---- what holds of the job later on
-- a chroma is at most the larger of best and ceiling, of those that are there; where neither is, there is no chroma
abbrev pub Within : Float → Best → Ceiling → Type 0
Within c None none_left = ⊥
Within c None (at_most x) = le c x ≡ true
Within c (Found b d l) none_left = le c b ≡ true
Within c (Found b d l) (at_most x) = le c (greater b x) ≡ true

-- the ceiling is below 35 or absent
abbrev pub Low : Ceiling → Type 0
Low none_left = Unit
Low (at_most x) = lt x (f32_of 35) ≡ true

-- of the best after some calls, where a look ahead said b and top. A best below 35 is in no record that is not broken, so of the best the second clause is about none so far
pub record Holds (b : Best) (top : Ceiling) (later : Best) : Type 0 where
  pub never_exceeds : (c : Float) (d l : ℕ) → later ≡ Found c d l → Within c b top
  pub ends_none : b ≡ None → Low top → later ≡ None

-- a ceiling is not above another: where it is there, the other is too, and is not less
abbrev pub NotAbove : Ceiling → Ceiling → Type 0
NotAbove none_left before = Unit
NotAbove (at_most x) none_left = ⊥
NotAbove (at_most x) (at_most y) = le x y ≡ true
