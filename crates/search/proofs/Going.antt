-- One pair of levels of an unbroken job: of what `pair` checks only the entries of the two rows are left, and the job goes on from its answer. Assumes nothing.
use mathlib.Core.Path.{◌≡◌, refl, sym, ap, ◌∙◌}
use mathlib.Core.Bool.{Bool, true, false, ◌&&◌, cond}
use mathlib.Core.List.{List, [], ◌∷◌}
use Prim.Native.Nat.{ℕ}
use lib.Ieee.{Float}
use lib.ListN.{length, take}
use Rattle.limits.specs.Answers.{Said, value, refused}
use Rattle.limits.specs.Refusals.{number}
use Rattle.limits.specs.Taken.{entry_taken, every}
use Rattle.limits.specs.declared.Refusal.{Refusal}
use Rattle.std.specs.Prelude.{Option, Some, None, Result, Ok, Err}
use Rattle.gamut.specs.Table.{row_at}
use Rattle.gamut.proofs.Table.{row_long, part, part_row}
use Rattle.placement_rules.specs.Placing.{step_for, step_says}
use Rattle.placement_rules.specs.Gaps.{tightest}
use Rattle.placement_rules.proofs.Step.{step_taken}
use Rattle.pair_rules.specs.declared.Chosen.{Chosen}
use Rattle.pair_rules.specs.Rows.{least_row}
use Rattle.pair_rules.specs.Pair.{Best, best_over, rows_say, pair_says, tightest_beside, chosen_said, tightest_of, Gives}
use Rattle.pair_rules.proofs.Gaps.{gives_same}
use Rattle.search_rules.specs.declared.Job.{Job}
use Rattle.search_rules.specs.Job.{unbroken, floor_of, qualifies, beats, moved_on, replaced, after_pair, pair_best, searched}
use Rattle.search.specs.Inner.{pair_given, Stepped}
use Rattle.search_rules.proofs.Unbroken.{sound}
use Rattle.search_rules.proofs.Floor.{floor_taken}
use Rattle.search_rules.proofs.Rows.{rows_left}

-- its hue count has a step
pub own_step : (j : Job) → unbroken j ≡ true → step_says j.settings.k ≡ value (step_for j.settings.k)
unfolding step_says
own_step j h = rw (sound j h).hue_count_taken_lem

-- ---- what `pair` says of the two rows
pub pair_says_lem :
    (j : Job) (table : List Float) (room d l step : ℕ) (floor : Float) → Stepped j table room d l → step ≡ step_for j.settings.k → floor ≡ floor_of j.best →
    pair_says j.settings.k step floor (part table d) (part table l) room ≡ pair_given j table d l
unfolding pair_best rows_say
pair_says_lem j table room d l step floor s e f =
    let k = j.settings.k in
    let t = sound j s.sound in
    let a = row_at table d in
    let b = row_at table l in
    let good = value (best_over k (step_for k) (floor_of j.best) (least_row (a ∷ b ∷ []))) in
    rw (e, f, part_row table d, part_row table l)
    (rows_left k (step_for k) (floor_of j.best) a b room good t.hue_count_taken_lem (step_taken k t.hue_count_taken_lem) (floor_taken j.levels j.best t.best_held_lem)
    (row_long table j.levels d s.long s.dark_in) (row_long table j.levels l s.long s.light_in) s.room_enough)

-- and hands back over the circle
pub given_round : (j : Job) (table : List Float) (room d l : ℕ) {r : Result (Option Chosen) Refusal} {x y : Said Best} → Stepped j table room d l → x ≡ y → Gives (length (part table d)) j.settings.k r x → Gives 720 j.settings.k r y
given_round j table room d l s e g = gives_same (ap length (part_row table d) ∙ row_long table j.levels d s.long s.dark_in) e g

-- ---- the job after it
abbrev after : Job → ℕ → ℕ → Said Best → Said Job
after j d l (value best) = value (after_pair j d l best)
after j d l (refused n) = refused n

after_rows : (j : Job) (d l : ℕ) (taken : Bool) (best : Best) → cond taken (value (after_pair j d l best)) (refused 7) ≡ after j d l (cond taken (value best) (refused 7))
after_rows j d l true best = refl
after_rows j d l false best = refl

module _ (j : Job) (table : List Float) (d l : ℕ) where
  -- a pair whose levels are too near
  pub passed_over : qualifies j.settings d l ≡ false → searched j table d l ≡ value (moved_on j)
  unfolding searched
  passed_over f = rw f

  module _ (far : qualifies j.settings d l ≡ true) where
    went : (r : Result (Option Chosen) Refusal) → chosen_said r ≡ pair_given j table d l → searched j table d l ≡ after j d l (chosen_said r)
    unfolding searched
    went r says = rw far (after_rows j d l (every entry_taken (row_at table d) && every entry_taken (row_at table l)) (pair_best j table d l)) ∙ ap (after j d l) (sym says)

    pub went_refused : (w : Refusal) → Gives 720 j.settings.k (Err w) (pair_given j table d l) → searched j table d l ≡ refused (number w)
    went_refused w g = went (Err w) g.says

    module _ (best : Option Chosen) (g : Gives 720 j.settings.k (Ok best) (pair_given j table d l)) where
      pub went_nowhere : best ≡ None → searched j table d l ≡ value (moved_on j)
      went_nowhere e = went (Ok best) g.says ∙ ap (λ (b : Option Chosen). after j d l (chosen_said (Ok b))) e

      module _ (c : Chosen) (e : best ≡ Some c) where
        abbrev better : ℕ → Job
        better t = replaced j c.chroma d l c.hues t

        -- with the smallest gap that stands beside the pair's hues
        beside : c.tightest ≡ tightest 720 (take j.settings.k c.hues)
        beside = ap (λ (b : Option Chosen). tightest_of (Ok b)) (sym e) ∙ g.tightest_is ∙ ap (tightest_beside 720 j.settings.k) (sym g.says ∙ ap (λ (b : Option Chosen). chosen_said (Ok b)) e)

        went_found : searched j table d l ≡ value (cond (beats c.chroma j.best) (better c.tightest) (moved_on j))
        went_found =
            went (Ok best) g.says
            ∙ ap (λ (b : Option Chosen). after j d l (chosen_said (Ok b))) e
            ∙ ap (λ (t : ℕ). value (cond (beats c.chroma j.best) (better t) (moved_on j))) (sym beside)

        pub went_better : beats c.chroma j.best ≡ true → searched j table d l ≡ value (better c.tightest)
        went_better b = went_found ∙ ap (λ (t : Bool). value (cond t (better c.tightest) (moved_on j))) b

        pub went_worse : beats c.chroma j.best ≡ false → searched j table d l ≡ value (moved_on j)
        went_worse b = went_found ∙ ap (λ (t : Bool). value (cond t (better c.tightest) (moved_on j))) b
