-- Req 07: after a list of calls as in demand 3 the record is the same record with its smallest gap worked out from its hues (`kept_filled`): who fills it in lends exactly what
-- the promise is about. And whatever that field is of a record, as long as number 15 takes it, a call gives the same refusal or leaves the same job but for that field
-- (`answers_same`), and so it is after any list of calls (`others_same`). Assumes nothing.
use mathlib.Core.Path.{◌≡◌, refl, sym, ap, ◌∙◌}
use mathlib.Core.Bool.{Bool, true, false, ◌&&◌, cond}
use mathlib.Core.List.{List, [], ◌∷◌}
use Prim.Native.Nat.{ℕ, ◌*◌, ◌/◌, ◌%◌}
use lib.Dec.{leb, ltb, eqb}
use lib.Ieee.{Float}
use lib.ListN.{length, take}
use Rattle.limits.specs.Answers.{Said, value, refused}
use Rattle.limits.specs.Taken.{hue_count_taken}
use Rattle.limits.specs.Each.{Each, F32}
use Rattle.placement_rules.specs.Placing.{work_needed}
use Rattle.placement_rules.specs.Gaps.{tightest}
use Rattle.pair_rules.specs.Pair as pair
use Rattle.pair_rules.specs.Pair.{none, found}
use Rattle.search_rules.specs.declared.Settings.{Settings}
use Rattle.search_rules.specs.declared.Best.{Best}
use Rattle.search_rules.specs.declared.Best.TheVariants.{None, Found}
use Rattle.search_rules.specs.declared.Job.{Job}
use Rattle.search_rules.specs.Job.{gap_held, best_held, handed, hues_held, tightest_held, unbroken, qualifies, beats, moved_on, replaced, after_pair, pair_best, searched, step_checked, step_says, job_after}
use Rattle.search_rules.specs.Runs.{Call, start, began, step, given, run, History, unstarted, since, noted, history_from, history, OverOneTable, Promise}
use Rattle.search_rules.specs.Filled.{gap_of, with_tightest, filled_in}
use Rattle.search_rules.proofs.Checking.{both_rows, goes_on, searched_is}
use Rattle.search_rules.proofs.Runs.{whole_runs}

-- ---- filled in
promised : (t : List Float) (s : Settings) (n : ℕ) (j : Job) → Promise t s n j → j.tightest ≡ gap_of j.settings.k j.best j.hues
promised t s n j p = go j.best refl ∙ ap (λ (x : Settings). gap_of x.k j.best j.hues) (sym p.settings_are)
  where
    go : (b : Best) → j.best ≡ b → j.tightest ≡ gap_of s.k j.best j.hues
    go None e = p.tightest_none e ∙ sym (ap (λ (b : Best). gap_of s.k b j.hues) e)
    go (Found c d l) e = p.tightest_is c d l e ∙ sym (ap (λ (b : Best). gap_of s.k b j.hues) e)

pub kept_filled : (t : List Float) (calls : List Call) (j : Job) → Each F32 t → OverOneTable t calls j → (s : Settings) (n : ℕ) → history calls j ≡ since s n → run calls j ≡ filled_in (run calls j)
kept_filled t calls j f32 over s n e = ap (with_tightest (run calls j)) (promised t s n (run calls j) (whole_runs t calls j f32 over s n e))

-- ---- the other fields
-- number 15 takes this number where it takes the record's own
abbrev pub TakenAlike : Job → ℕ → Type 0
TakenAlike j x = tightest_held j.best x ≡ tightest_held j.best j.tightest

-- two answers alike: the same refusal, or the same job but for that field
abbrev pub Alike : Said Job → Said Job → Type 0
Alike (value j') (value j) = (x : ℕ) × ((j' ≡ with_tightest j x) × TakenAlike j x)
Alike (value j') (refused n) = ⊥
Alike (refused m) (value j) = ⊥
Alike (refused m) (refused n) = m ≡ n

same : (said : Said Job) → Alike said said
same (value j) = (j.tightest, (refl, refl))
same (refused n) = refl

module _ (j : Job) (x : ℕ) (held : TakenAlike j x) where
  unbroken_same : unbroken (with_tightest j x) ≡ unbroken j
  unfolding unbroken
  unbroken_same =
      ap (λ (b : Bool). hue_count_taken j.settings.k && (gap_held j.settings.gap && (leb 1 j.levels && (leb j.levels 169 && (leb j.position (j.levels * j.levels)
      && (best_held j.levels j.best && (hues_held (handed j.settings.k j.best) j.hues && b))))))) held

  after_pair_lem : (d l : ℕ) (best : pair.Best) → Alike (value (after_pair (with_tightest j x) d l best)) (value (after_pair j d l best))
  after_pair_lem d l none = (x, (refl, held))
  after_pair_lem d l (found c hues) = go (beats c j.best) (replaced j c d l hues (tightest 720 (take j.settings.k hues)))
    where
      go : (b : Bool) (new : Job) → Alike (value (cond b new (moved_on (with_tightest j x)))) (value (cond b new (moved_on j)))
      go true new = (new.tightest, (refl, refl))
      go false new = (x, (refl, held))

  gone_through : (t : List Float) (d l : ℕ) → Alike (searched (with_tightest j x) t d l) (searched j t d l)
  unfolding pair_best
  gone_through t d l = rw (searched_is (with_tightest j x) t d l, searched_is j t d l) (go (qualifies j.settings d l) (both_rows t d l) (pair_best j t d l))
    where
      go : (q e : Bool) (best : pair.Best) → Alike (goes_on (with_tightest j x) d l q e best) (goes_on j d l q e best)
      go true true best = after_pair_lem d l best
      go true false best = refl
      go false e best = (x, (refl, held))

  stepped : (t : List Float) (room : ℕ) → Alike (step_says (with_tightest j x) t room) (step_says j t room)
  unfolding step_says step_checked
  stepped t room =
      rw unbroken_same
      (go (unbroken j) (ltb j.position (j.levels * j.levels)) (eqb (length t) (j.levels * 720)) (leb (work_needed 720) room) _ _ (gone_through t (j.position / j.levels) (j.position % j.levels)))
    where
      go : (a b c d : Bool) (new old : Said Job) → Alike new old
          → Alike (cond a (cond b (cond c (cond d new (refused 8)) (refused 6)) (refused 14)) (refused 15)) (cond a (cond b (cond c (cond d old (refused 8)) (refused 6)) (refused 14)) (refused 15))
      go true true true true new old s = s
      go true true true false new old s = refl
      go true true false d new old s = refl
      go true false c d new old s = refl
      go false b c d new old s = refl

  pub answers_same : (c : Call) → Alike (given c (with_tightest j x)) (given c j)
  answers_same (start s t) = same (given (start s t) j)
  answers_same (began s t) = same (given (began s t) j)
  answers_same (step t work) = stepped t (length work)

  -- what it leaves, and what is noted of it
  left : (c : Call) (h : History) (a b : Said Job) → Alike a b
      → (y : ℕ) × ((job_after (with_tightest j x) a ≡ with_tightest (job_after j b) y) × (TakenAlike (job_after j b) y × (noted c a h ≡ noted c b h)))
  left (start s t) h (value j') (value j'') e = (e.0, (e.1.0, (e.1.1, refl)))
  left (began s t) h (value j') (value j'') e = (e.0, (e.1.0, (e.1.1, refl)))
  left (step t work) unstarted (value j') (value j'') e = (e.0, (e.1.0, (e.1.1, refl)))
  left (step t work) (since s n) (value j') (value j'') e = (e.0, (e.1.0, (e.1.1, refl)))
  left c h (value j') (refused n) e = absurd e
  left c h (refused m) (value j'') e = absurd e
  left c h (refused m) (refused n) e = (x, (refl, (held, refl)))

all_called : (calls : List Call) (h : History) (j : Job) (x : ℕ) → TakenAlike j x
    → (y : ℕ) × ((run calls (with_tightest j x) ≡ with_tightest (run calls j) y) × (history_from h calls (with_tightest j x) ≡ history_from h calls j))
unfolding run history_from
all_called [] h j x held = (x, (refl, refl))
all_called (c ∷ calls) h j x held =
    let (y, (e, (f, g))) = left j x held c h (given c (with_tightest j x)) (given c j) (answers_same j x held c) in
    let (z, (p, q)) = all_called calls (noted c (given c j) h) (job_after j (given c j)) y f in
    (z, (ap (run calls) e ∙ p, ap (history_from (noted c (given c (with_tightest j x)) h) calls) e ∙ ap (λ (k : History). history_from k calls (with_tightest (job_after j (given c j)) y)) g ∙ q))

pub others_same : (calls : List Call) (j : Job) (x : ℕ) → tightest_held j.best j.tightest ≡ true → tightest_held j.best x ≡ true
    → (y : ℕ) × ((run calls (with_tightest j x) ≡ with_tightest (run calls j) y) × (history calls (with_tightest j x) ≡ history calls j))
others_same calls j x own other = all_called calls unstarted j x (other ∙ sym own)
