-- A job for two hues with no pair left, beside a call with one hue fixed, over the same table of f32 and with the same gap. Where the job hands out c, what the call hands out is
-- at most the next f32 after c (`fixed_within_limit`), and where the job says none, so does every call that is accepted (`none_with_a_hue`). Of the job it asks that it hands out
-- the limit (`HandsOut`), which proofs/Panel gives for a search, a stepped job and a kept one. Assumes nothing else.
use mathlib.Core.Path.{◌≡◌, sym, ◌∙◌, subst}
use mathlib.Core.Bool.{true}
use mathlib.Core.List.{List, [], ◌∷◌}
use Prim.Native.Nat.{ℕ, ◌≤◌}
use lib.Ieee.{Float, le}
use Rattle.limits.specs.Answers.{value}
use Rattle.limits.specs.Taken.{f32_of}
use Rattle.limits.specs.Each.{Each, F32}
use Rattle.halving.specs.Patterns.{next}
use Rattle.search_rules.specs.declared.Settings.{Settings}
use Rattle.search_rules.specs.declared.Best.TheVariants.{None, Found}
use Rattle.search_rules.specs.declared.Job.{Job}
use Rattle.orientation_rules.specs.Orientation.{Best, none, found, orientation_says}
use Rattle.orientation_rules.specs.Fixed.{Fixed, chroma_of}
use Rattle.orientation_rules.proofs.Partners.{to_spaced}
use Rattle.orientation_rules.proofs.Accepted.{orientation_only}
use Rattle.orientation_rules.proofs.Meaning.{none_where, fixed_is_greatest}
use Rattle.audit.specs.Panel.{Arrangement, HandsOut}

-- the settings of a job for two hues with this gap
abbrev pub for_two : Float → Settings
for_two gap = record { k = 2; gap = gap }

module _ (gap : Float) (t : List Float) (f32 : Each F32 t) (j : Job) (hands_out : HandsOut t (for_two gap) j) (hue : ℕ) where
  -- a qualifying pair with a partner of the fixed hue is an arrangement of two hues
  abbrev pub arranged : hue ≤ 719 → Fixed t gap hue → Arrangement t (for_two gap)
  arranged H x = record {
    dark = x.dark;
    light = x.light;
    hues = hue ∷ x.partner ∷ [];
    dark_in = x.dark_in;
    light_in = x.light_in;
    far = x.far;
    spaced = to_spaced hue x.partner H x.partner_in x.on;
  }

  pub fixed_within_limit : (c : Float) (d l : ℕ) → j.best ≡ Found c d l → (c' : Float) (d' l' p : ℕ) → orientation_says gap t hue ≡ value (found c' d' l' p) → le c' (next c) ≡ true
  fixed_within_limit c d l e c' d' l' p h =
      let taken = (orientation_only gap t hue (found c' d' l' p) h).0 in
      let g = fixed_is_greatest gap t hue f32 c' d' l' p h in
      subst (λ (x : Float). le x (next c) ≡ true) g.reached ((hands_out.found_is_limit c d l e).limit (arranged taken.hue_in g.choice))

  pub none_with_a_hue : j.best ≡ None → (b : Best) → orientation_says gap t hue ≡ value b → b ≡ none
  none_with_a_hue e b h =
      let o = orientation_only gap t hue b h in
      sym o.1 ∙ none_where gap t hue o.0 f32 (λ (x : Fixed t gap hue) (enough : le (f32_of 35) (chroma_of t gap hue x) ≡ true). hands_out.none_means_none e (arranged o.0.hue_in x) enough)
