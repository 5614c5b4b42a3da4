-- What any call hands back, by document 01: its value, or the number of its refusal and nothing else. Definitions only.
use Rattle.std.specs.Prelude.{◌≡◌, ℕ}

pub data Said (A : Type 0) : Type 0 where
  value : A → Said A
  refused : ℕ → Said A

-- "A refusal .. writes no lent buffer": where one is said, what was lent is afterwards what it was before
abbrev pub Untouched : {A B : Type 0} → Said A → B → B → Type 0
Untouched said before after = (w : ℕ) → said ≡ refused w → after ≡ before

-- the answers of checks alone: all pass, or one fails by its number
abbrev pub pass : Said (Unit {0})
pass = value tt

abbrev pub fail : ℕ → Said (Unit {0})
fail n = refused n
