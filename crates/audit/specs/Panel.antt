-- The auditor's question, for a job with no pair left: is the chroma handed out the limit of the panel's table, and when it says none, does none exist? Both are meant for the hue
-- count and the gap asked: k hues at least the step for k apart all round, on two levels at least gap + 1 apart. Definitions only.
use Rattle.std.specs.Prelude.{◌≡◌, true, List, ℕ, ◌<◌, Float, take}
use Rattle.std.specs.Float.Ieee.{le}
use Rattle.limits.specs.Taken.{f32_of}
use Rattle.halving.specs.Patterns.{next}
use Rattle.gamut.specs.Table.{levels_in}
use Rattle.placement_rules.specs.Placing.{step_for}
use Rattle.pair_rules.specs.Limit.{Hues}
use Rattle.search_rules.specs.declared.Settings.{Settings}
use Rattle.search_rules.specs.declared.Best.TheVariants.{None, Found}
use Rattle.search_rules.specs.declared.Job.{Job}
use Rattle.search_rules.specs.Runs.{FarApart, common_of}

-- what may be shown with this table and these settings: any two of its levels that are at least gap + 1 apart, with k hues spaced at least the step for k all round
pub record Arrangement (t : List Float) (s : Settings) : Type 0 where
  pub dark : ℕ
  pub light : ℕ
  pub hues : List ℕ
  pub dark_in : dark < levels_in t
  pub light_in : light < levels_in t
  pub far : FarApart s.gap dark light
  pub spaced : Hues 720 s.k (step_for s.k) hues

-- c is the limit of this table for these settings, to within one f32: these levels with these hues are such an arrangement and reach it, and none exceeds the next f32 after it
pub record PanelLimit (t : List Float) (s : Settings) (c : Float) (dark light : ℕ) (hues : List ℕ) : Type 0 where
  pub shown : Arrangement t s
  pub dark_is : shown.dark ≡ dark
  pub light_is : shown.light ≡ light
  pub hues_are : shown.hues ≡ hues
  pub reached : le c (common_of t dark light hues) ≡ true
  pub limit : (x : Arrangement t s) → le (common_of t x.dark x.light x.hues) (next c) ≡ true

-- none of them reaches 35
abbrev pub NoArrangement : List Float → Settings → Type 0
NoArrangement t s = (x : Arrangement t s) → le (f32_of 35) (common_of t x.dark x.light x.hues) ≡ true → ⊥

-- what a job that has gone through every pair hands out: with a chroma the limit, by its two levels and its first k hues, and with none that none reaches 35
pub record HandsOut (t : List Float) (s : Settings) (job : Job) : Type 0 where
  pub found_is_limit : (c : Float) (d l : ℕ) → job.best ≡ Found c d l → PanelLimit t s c d l (take s.k job.hues)
  pub none_means_none : job.best ≡ None → NoArrangement t s
