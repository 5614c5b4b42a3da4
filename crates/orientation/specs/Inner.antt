-- What the private functions of this crate ask and promise among themselves. Nothing here is a promise to a caller. Definitions only.
use Rattle.std.specs.Prelude.{◌≡◌, List, ℕ, ◌*◌, ◌≤◌, ◌<◌, Float, length, Option, Some, None}
use Rattle.limits.specs.Each.{Each, F32}
use Rattle.gamut.specs.Table.{levels_in}
use Rattle.search_rules.proofs.Rows.{Good}
use Rattle.orientation_rules.specs.Orientation.{Best, none, found, over_light}
use Rattle.orientation_rules.specs.Fixed.{OrientationTaken}
use Rattle.orientation_rules.proofs.Skipping.{Reached}
use Rattle.orientation.specs.declared.Kept.{Kept}

-- the best so far
abbrev pub best_of : Option Kept → Best
best_of None = none
best_of (Some k) = found k.chroma k.dark k.light k.partner

-- two levels of a table and a hue
pub record There (t : List Float) (dark light hue : ℕ) : Type 0 where
  pub long : length t ≡ levels_in t * 720
  pub few_levels : levels_in t ≤ 169
  pub dark_in : dark < levels_in t
  pub light_in : light < levels_in t
  pub hue_in : hue ≤ 719

-- the same in a table that is taken, with a best so far
pub record Paired (t : List Float) (hue dark light : ℕ) (so : Best) : Type 0 where
  pub good : Good t
  pub there : There t dark light hue
  pub reached : Reached so

-- arguments that are taken, over a table of f32
pub record Taken (gap : Float) (t : List Float) (hue : ℕ) : Type 0 where
  pub taken : OrientationTaken gap t hue
  pub f32 : Each F32 t

-- the same with a dark level and a best so far
pub record Lit (gap : Float) (t : List Float) (hue dark : ℕ) (so : Best) : Type 0 where
  pub asked : Taken gap t hue
  pub dark_in : dark < levels_in t
  pub reached : Reached so

-- what the light levels of a dark one make of a best so far
pub record Passed (gap : Float) (t : List Float) (hue dark : ℕ) (so next : Best) : Type 0 where
  pub is : next ≡ over_light gap t hue dark so
  pub reached : Reached next

-- a best whose partner, and the fixed hue, are hues
abbrev pub PartnerIn : Best → Type 0
PartnerIn none = Unit
PartnerIn (found c d l p) = p < 720

pub record Handed (best : Best) (hue : ℕ) : Type 0 where
  pub hue_in : hue ≤ 719
  pub partner_in : PartnerIn best
