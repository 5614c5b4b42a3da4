-- Document 01, number 9: the directions that are lent, or a refusal. Definitions only.
use Rattle.std.specs.Prelude.{cond, List, Float, Result, Ok, Err}
use Rattle.limits.specs.Answers.{Said, value, refused}
use Rattle.limits.specs.Refusals.{number}
use Rattle.limits.specs.Taken.{directions_taken}
use Rattle.limits.specs.declared.Refusal.{Refusal}
use Rattle.limits.specs.declared.Directions.{Directions}

-- the cosines and the sines that are handed on
abbrev pub directions_said : Result Directions Refusal → Said (List Float × List Float)
directions_said (Ok d) = value (d.cos.now, d.sin.now)
directions_said (Err why) = refused (number why)

-- they are those that are lent, and are refused where one of them is not taken
abbrev pub directions_says : List Float → List Float → Said (List Float × List Float)
directions_says cs ss = cond (directions_taken cs ss) (value (cs, ss)) (refused 9)
