-- Document 02, Req 08: "For a job and its table give the best so far and a ceiling: over the qualifying pairs still to come, the greatest of the lesser of both rows' largest
-- entries. If no qualifying pair is left, say so instead of a ceiling." What the call says for every job record and table. Definitions only.
use Rattle.std.specs.Prelude.{ℕ, ◌-◌, ◌*◌, cond, List, eqb, Float, length, Option, Some, None, Result, Ok, Err}
use Rattle.limits.specs.Answers.{Said, value, refused}
use Rattle.limits.specs.Refusals.{number}
use Rattle.limits.specs.Taken.{entry_taken, every}
use Rattle.limits.specs.declared.Refusal.{Refusal}
use Rattle.gamut.specs.Table.{row_at}
use Rattle.pair_rules.specs.Rows.{lesser, greater, largest}
use Rattle.search_rules.specs.declared.Settings.{Settings}
use Rattle.search_rules.specs.declared.Best.{Best}
use Rattle.search_rules.specs.declared.Job.{Job}
use Rattle.search_rules.specs.Job.{unbroken, dark_at, light_at, qualifies}
use Rattle.search_rules.specs.Loops.{loop}
use Rattle.ceiling_rules.specs.declared.Outlook.{Outlook}

-- no qualifying pair is left, or the ceiling
pub data Ceiling : Type 0 where
  none_left : Ceiling
  at_most : Float → Ceiling

-- "the lesser of both rows' largest entries", of the levels d and l
unfoldable pub top_at : List Float → ℕ → ℕ → Float
top_at t d l = lesser (largest (row_at t d)) (largest (row_at t l))

-- "the greatest": of what there is and x
abbrev pub raised : Float → Ceiling → Ceiling
raised x none_left = at_most x
raised x (at_most y) = at_most (greater y x)

-- the pair at position p of m levels counts where it qualifies
unfoldable pub with_pair : Settings → List Float → ℕ → ℕ → Ceiling → Ceiling
with_pair s t m p so = cond (qualifies s (dark_at m p) (light_at m p)) (raised (top_at t (dark_at m p) (light_at m p)) so) so

-- over the n positions from p on
unfoldable pub ceiling_from : Settings → List Float → ℕ → ℕ → ℕ → Ceiling
ceiling_from s t m n p = loop (with_pair s t m) n p none_left

-- "the qualifying pairs still to come": those from the job's position on
abbrev pub ceiling_of : Job → List Float → Ceiling
ceiling_of j t = ceiling_from j.settings t j.levels (j.levels * j.levels - j.position) j.position

-- "The call checks 15, 6, then 7 over the whole table", in front of what a good call says
unfoldable pub outlook_checked : {A : Type 0} → Job → List Float → Said A → Said A
outlook_checked j t good = cond (unbroken j) (cond (eqb (length t) (j.levels * 720)) (cond (every entry_taken t) good (refused 7)) (refused 6)) (refused 15)

-- the best so far and the ceiling
unfoldable pub outlook_says : Job → List Float → Said (Best × Ceiling)
outlook_says j t = outlook_checked j t (value (j.best, ceiling_of j t))

-- what an answer says of the ceiling
abbrev pub ceiling_said : Option Float → Ceiling
ceiling_said None = none_left
ceiling_said (Some x) = at_most x

-- what an answer says
abbrev pub outlook_said : Result Outlook Refusal → Said (Best × Ceiling)
outlook_said (Ok o) = value (o.best, ceiling_said o.ceiling)
outlook_said (Err w) = refused (number w)
