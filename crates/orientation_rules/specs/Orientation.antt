-- Document 02, Req 01: "Port `best_at_orientation` for a hue index in place of the angle: k is 2, the partner lies 301 to 419 positions on." What the call says for every gap,
-- table and hue, by the Rust's own three loops: over the dark levels, within it over the light levels, within it over the partners. What that means stands in specs/Fixed.
-- Definitions only.
use Rattle.std.specs.Prelude.{ℕ, ◌+◌, ◌%◌, ◌≡◌, Bool, cond, List, [], ◌∷◌, leb, Float, get_or, replicate, Option, Some, None, Result, Ok, Err}
use Rattle.std.specs.Float.Ieee.{lt, le}
use Rattle.limits.specs.Answers.{Said, value, refused}
use Rattle.limits.specs.Refusals.{number}
use Rattle.limits.specs.Taken.{f32_of, gap_taken}
use Rattle.limits.specs.declared.Refusal.{Refusal}
use Rattle.gamut.specs.Table.{levels_in, table_checked}
use Rattle.search_rules.specs.Job.{far_enough}
use Rattle.search_rules.specs.Runs.{common_of}
use Rattle.search_rules.specs.Loops.{loop}
use Rattle.orientation_rules.specs.declared.Oriented.{Oriented}

-- none, or a chroma with the dark level, the light level and the partner of the fixed hue
pub data Best : Type 0 where
  none : Best
  found : Float → ℕ → ℕ → ℕ → Best

-- "the partner lies 301 to 419 positions on": how far on the nearest lies, and how many there are
abbrev pub nearest : ℕ
nearest = 301

abbrev pub partners : ℕ
partners = 119

-- the hue so many positions on from a hue, round the circle
unfoldable pub partner_at : ℕ → ℕ → ℕ
partner_at hue on = (hue + on) % 720

-- as in the Rust: 35 or more replaces none, and what is strictly more replaces a chroma
abbrev pub replaces : Float → Best → Bool
replaces c none = le (f32_of 35) c
replaces c (found b d l p) = lt b c

-- the levels d and l with one partner: its value is the least of the four entries
unfoldable pub tried_with : List Float → ℕ → ℕ → ℕ → ℕ → Best → Best
tried_with t hue d l partner so = cond (replaces (common_of t d l (hue ∷ partner ∷ [])) so) (found (common_of t d l (hue ∷ partner ∷ [])) d l partner) so

-- the levels d and l with every partner, the nearest on first
unfoldable pub over_partners : List Float → ℕ → ℕ → ℕ → Best → Best
over_partners t hue d l so = loop (λ on. tried_with t hue d l (partner_at hue on)) partners nearest so

-- the levels d and l: left out where they are not far enough apart, by the test of a job. That "k is 2" shows in the two hues of `tried_with`.
unfoldable pub tried : Float → List Float → ℕ → ℕ → ℕ → Best → Best
tried gap t hue d l so = cond (far_enough gap d l) (over_partners t hue d l so) so

-- the dark level d with every light level, from index 0 up
unfoldable pub over_light : Float → List Float → ℕ → ℕ → Best → Best
over_light gap t hue d so = loop (λ l. tried gap t hue d l) (levels_in t) 0 so

-- every dark level, from index 0 up, from none
unfoldable pub best_fixed : Float → List Float → ℕ → Best
best_fixed gap t hue = loop (λ d. over_light gap t hue d) (levels_in t) 0 none

-- "The call checks 2, 6, 7 over the whole table, then 12 for a fixed hue above 719.", in front of what a good call says. The gap is asked as document 01's number 2 has it,
-- whatever a start takes.
unfoldable pub orientation_checked : {A : Type 0} → Float → List Float → ℕ → Said A → Said A
orientation_checked gap t hue good =
    cond (gap_taken gap) (table_checked t (cond (leb hue 719) good (refused 12))) (refused 2)

unfoldable pub orientation_says : Float → List Float → ℕ → Said Best
orientation_says gap t hue = orientation_checked gap t hue (value (best_fixed gap t hue))

-- the sixteen hues beside an answer: the fixed one, its partner and fourteen zeros; all zero where it is none or a refusal
abbrev pub hues_beside : ℕ → Said Best → List ℕ
hues_beside hue (value none) = replicate 16 0
hues_beside hue (value (found c d l partner)) = hue ∷ partner ∷ replicate 14 0
hues_beside hue (refused n) = replicate 16 0

-- what an answer says: of its hues the second is the partner
abbrev pub oriented_said : Result (Option Oriented) Refusal → Said Best
oriented_said (Ok (Some o)) = value (found o.chroma o.dark o.light (get_or o.hues 1 0))
oriented_said (Ok None) = value none
oriented_said (Err w) = refused (number w)

-- the hues that an answer has, and zeros where it has none
abbrev pub oriented_hues : Result (Option Oriented) Refusal → List ℕ
oriented_hues (Ok (Some o)) = o.hues
oriented_hues (Ok None) = replicate 16 0
oriented_hues (Err w) = replicate 16 0

-- an answer says this, for the hue that was fixed
pub record Gives (r : Result (Option Oriented) Refusal) (hue : ℕ) (said : Said Best) : Type 0 where
  pub says : oriented_said r ≡ said
  pub beside : oriented_hues r ≡ hues_beside hue said
