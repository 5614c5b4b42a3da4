-- The promise of demand 3 is kept by an accepted step, whatever the record was as long as the promise held of it (`step_kept`), and opened by an accepted start
-- (`began_kept`, for document 01's start, which took all that a start takes). Assumes nothing.
use mathlib.Core.Path.{◌≡◌, refl, sym, ap, ◌∙◌, subst}
use mathlib.Core.Bool.{Bool, true, false, cond}
use mathlib.Core.List.{List, [], ◌∷◌}
use Prim.Native.Nat.{ℕ, suc, ◌+◌, ◌*◌, ◌/◌, ◌%◌, ◌≤◌, ◌<◌}
use native.Mathlib.Nat.{mod-lt, div-lt_iff_lt-mul, div-add-mod', not-suc-le-zero}
use native.Mathlib.Omega.{arith}
use lib.Ieee.{Float, binary32, to_bits, lt, le}
use lib.ListN.{length, take}
use Rattle.limits.specs.Answers.{value}
use Rattle.limits.specs.Taken.{f32_of, hue_count_taken}
use Rattle.limits.specs.Each.{Each, F32}
use Rattle.limits.proofs.Floats.{never}
use Rattle.limits.proofs.HueCount.{hue_count, count_taken}
use Rattle.limits.proofs.Checks.{all_pass, same_value}
use Rattle.halving.specs.Patterns.{next}
use Rattle.halving.proofs.Plain.{Plain, le_through, not_le_lt, lt_then_le, not_lt_le, le_not_lt, next_plain, next_above, next_le}
use Rattle.gamut.specs.Table.{levels_in, row_at}
use Rattle.placement_rules.specs.Placing.{step_for, work_needed}
use Rattle.placement_rules.specs.Gaps.{tightest}
use Rattle.placement_rules.proofs.Stored.{first_of}
use Rattle.pair_rules.specs.Pair as pair
use Rattle.pair_rules.specs.Pair.{none, found, rows_say}
use Rattle.pair_rules.specs.Limit.{Limit}
use Rattle.pair_rules.proofs.Promise.{Handed, best_is_limit, none_is_none, what_is_handed}
use Rattle.search_rules.specs.declared.Settings.{Settings}
use Rattle.search_rules.specs.declared.Best.{Best}
use Rattle.search_rules.specs.declared.Best.TheVariants.{None, Found}
use Rattle.search_rules.specs.declared.Job.{Job}
use Rattle.search_rules.specs.Job.{gap_held, best_held, unbroken, qualifies, floor_of, beats, moved_on, replaced, pair_best, searched, step_checked, step_says, began_says}
use Rattle.search_rules.specs.Runs.{Choice, common_of, Promise}
use Rattle.search_rules.proofs.Apart.{far_apart, qualified}
use Rattle.search_rules.proofs.Checking.{step_checks, step_passed, both_rows, goes_on, searched_is}
use Rattle.search_rules.proofs.Unbroken.{sound}
use Rattle.search_rules.proofs.Floor.{BestF32, floor_f32, floor_from, floor_taken, chroma_plain, thirty_five, held_chroma}
use Rattle.search_rules.proofs.Rows.{Good, shape, rows_f32, round_the_row, round_the_circle, choice_plain, pair_says_lem}
use Rattle.search_rules.proofs.Choices.{later, by_place}
use Rattle.search_rules.proofs.Accepted.{began_leaves, good_table}

-- ---- the promise over one accepted step
-- the promise with what it needs to go on: a table that is taken, and a chroma that is an f32
pub record Kept (t : List Float) (s : Settings) (n : ℕ) (j : Job) : Type 0 where
  pub good : Good t
  pub gap_held_lem : gap_held s.gap ≡ true
  pub some_hue : hue_count_taken s.k ≡ true
  pub promise : Promise t s n j
  pub chroma_f32 : BestF32 j.best

found_same : {c c' : Float} {d d' l l' : ℕ} → Found c d l ≡ Found c' d' l' → (c ≡ c') × ((d ≡ d') × (l ≡ l'))
found_same h = (cc, (cc, cc))

none_found : {A : Type 0} {c : Float} {d l : ℕ} → None ≡ Found c d l → A
none_found h = absurd (let z : ◌≡◌ {A = ℕ} 0 1 = cc in omega arith)

module _ (t : List Float) (s : Settings) (n : ℕ) (j : Job) (kept : Kept t s n j) (u : unbroken j ≡ true) (unfinished : j.position < j.levels * j.levels) where
  abbrev m : ℕ
  m = levels_in t

  abbrev d₀ : ℕ
  d₀ = n / m

  abbrev l₀ : ℕ
  l₀ = n % m

  pm : Promise t s n j
  pm = kept.promise

  some_k : 1 ≤ s.k
  some_k = (hue_count s.k kept.some_hue).0

  -- a choice's common chroma is a number
  choice_number : (k : ℕ) (x : Choice t s k) → Plain (common_of t x.dark x.light x.hues)
  choice_number k x = choice_plain t kept.good x.dark x.light x.dark_in x.light_in s.k (step_for s.k) x.hues some_k x.spaced

  -- the pair that is gone through is one of two levels of the table
  unfinished_here : n < m * m
  unfinished_here = subst (λ (x : ℕ). n < x * x) pm.levels_are (subst (λ (x : ℕ). x < j.levels * j.levels) pm.position_is unfinished)

  some_level : 1 ≤ m
  some_level = (shape t kept.good).some_level

  few_levels : m ≤ 169
  few_levels = (shape t kept.good).few_levels

  dark_there : d₀ < m
  dark_there = (div-lt_iff_lt-mul some_level).1 unfinished_here

  light_there : l₀ < m
  light_there = mod-lt n some_level

  -- ---- only the position moves on
  -- asked: choices at the new pair keep to what the best so far says
  moved : ((c : Float) (d l : ℕ) → j.best ≡ Found c d l → (x : Choice t s (suc n)) → d₀ ≡ x.dark → l₀ ≡ x.light → le (common_of t x.dark x.light x.hues) (next c) ≡ true)
      → (j.best ≡ None → (x : Choice t s (suc n)) → d₀ ≡ x.dark → l₀ ≡ x.light → le (f32_of 35) (common_of t x.dark x.light x.hues) ≡ true → ⊥)
      → Kept t s (suc n) (moved_on j)
  moved new none-new = record {
    good = kept.good;
    gap_held_lem = kept.gap_held_lem;
    some_hue = kept.some_hue;
    chroma_f32 = kept.chroma_f32;
    promise = record {
      position_is = let e = pm.position_is in omega arith;
      settings_are = pm.settings_are;
      levels_are = pm.levels_are;
      limit = λ (c : Float) (d l : ℕ) (e : j.best ≡ Found c d l). by_place t s n (λ (dk lt' : ℕ) (hs : List ℕ). le (common_of t dk lt' hs) (next c) ≡ true) (pm.limit c d l e) (new c d l e);
      reached = λ (c : Float) (d l : ℕ) (e : j.best ≡ Found c d l). let r = pm.reached c d l e in (later t s n r.0, (r.1.0, (r.1.1.0, (r.1.1.1.0, r.1.1.1.1))));
      none_said = λ (e : j.best ≡ None). by_place t s n (λ (dk lt' : ℕ) (hs : List ℕ). le (f32_of 35) (common_of t dk lt' hs) ≡ true → ⊥) (pm.none_said e) (none-new e);
      none_meant = λ (f : (x : Choice t s (suc n)) → le (f32_of 35) (common_of t x.dark x.light x.hues) ≡ true → ⊥). pm.none_meant (λ (x : Choice t s n). f (later t s n x));
      tightest_is = pm.tightest_is;
      tightest_none = pm.tightest_none;
    };
  }

  -- ---- another best
  module _ (c' : Float) (hues : List ℕ) (rows-said : rows_say s.k (step_for s.k) (floor_of j.best) (row_at t d₀ ∷ row_at t l₀ ∷ []) (work_needed 720) ≡ value (found c' hues)) where
    abbrev rows₀ : List (List Float)
    rows₀ = row_at t d₀ ∷ row_at t l₀ ∷ []

    best_held_lem : best_held j.levels j.best ≡ true
    best_held_lem = (sound j u).best_held_lem

    F₀ : F32 (floor_of j.best)
    F₀ = floor_f32 j.best kept.chroma_f32

    limit₀ : Limit s.k (step_for s.k) rows₀ c' hues
    limit₀ = best_is_limit s.k (step_for s.k) (floor_of j.best) rows₀ (work_needed 720) F₀ (rows_f32 t kept.good d₀ l₀ dark_there light_there) c' hues (floor_from j.levels j.best best_held_lem) rows-said

    handed₀ : Handed s.k (step_for s.k) (floor_of j.best) rows₀ (work_needed 720) F₀ (rows_f32 t kept.good d₀ l₀ dark_there light_there) c' hues
    handed₀ = what_is_handed s.k (step_for s.k) (floor_of j.best) rows₀ (work_needed 720) F₀ (rows_f32 t kept.good d₀ l₀ dark_there light_there) c' hues rows-said

    new_plain : Plain c' × (to_bits binary32 c' < 2139095039)
    new_plain = chroma_plain c' handed₀.f32_is handed₀.in_range

    -- choices at this pair
    up_to_new : (x : Choice t s (suc n)) → d₀ ≡ x.dark → l₀ ≡ x.light → le (common_of t x.dark x.light x.hues) (next c') ≡ true
    up_to_new x e f =
        subst (λ (l : ℕ). le (common_of t x.dark l x.hues) (next c') ≡ true) f
        (subst (λ (d : ℕ). le (common_of t d l₀ x.hues) (next c') ≡ true) e
        (limit₀.limit x.hues (round_the_row t kept.good d₀ l₀ dark_there light_there s.k (step_for s.k) x.hues x.spaced)))

    -- an old chroma
    old_plain : (c : Float) (d l : ℕ) → j.best ≡ Found c d l → Plain c × (to_bits binary32 c < 2139095039)
    old_plain c d l e = chroma_plain c (subst BestF32 e kept.chroma_f32) (held_chroma j.levels j.best c d l e best_held_lem)

    -- a choice of before is no more than the next f32 after the new chroma
    old_up_to : (x : Choice t s n) → le (common_of t x.dark x.light x.hues) (next c') ≡ true
    old_up_to x = go j.best refl
      where
        after : Plain (next c')
        after = next_plain c' new_plain.0 new_plain.1

        go : (b : Best) → j.best ≡ b → le (common_of t x.dark x.light x.hues) (next c') ≡ true
        go None e =
            let low : lt (common_of t x.dark x.light x.hues) (f32_of 35) ≡ true = below35 (le (f32_of 35) (common_of t x.dark x.light x.hues)) refl (pm.none_said e x) in
            let a = lt_then_le (common_of t x.dark x.light x.hues) (f32_of 35) (choice_number n x) thirty_five low in
            let b : le (f32_of 35) c' ≡ true = subst (λ (z : Best). le (floor_of z) c' ≡ true) e handed₀.above in
            let ab = le_through (common_of t x.dark x.light x.hues) (f32_of 35) c' (choice_number n x) thirty_five new_plain.0 a b in
            le_through (common_of t x.dark x.light x.hues) c' (next c') (choice_number n x) new_plain.0 after ab (lt_then_le c' (next c') new_plain.0 after (next_above c' new_plain.0 new_plain.1))
          where
            below35 : (b : Bool) → le (f32_of 35) (common_of t x.dark x.light x.hues) ≡ b → (le (f32_of 35) (common_of t x.dark x.light x.hues) ≡ true → ⊥) → lt (common_of t x.dark x.light x.hues) (f32_of 35) ≡ true
            below35 true q f = absurd (f q)
            below35 false q f = not_le_lt (f32_of 35) (common_of t x.dark x.light x.hues) thirty_five (choice_number n x) q
        go (Found c d l) e =
            let o = old_plain c d l e in
            let b : le c c' ≡ true = subst (λ (z : Best). le (floor_of z) c' ≡ true) e handed₀.above in
            le_through (common_of t x.dark x.light x.hues) (next c) (next c') (choice_number n x) (next_plain c o.0 o.1) after (pm.limit c d l e x) (next_le c c' o.0 new_plain.0 o.1 new_plain.1 b)

    -- what is handed out now
    abbrev new_choice : qualifies s d₀ l₀ ≡ true → Choice t s (suc n)
    new_choice q = record {
      dark = d₀;
      light = l₀;
      hues = handed₀.indices;
      dark_in = dark_there;
      light_in = light_there;
      gone_through = let e : n / m * m + n % m ≡ n = div-add-mod' n m in omega arith;
      far = far_apart s kept.gap_held_lem d₀ l₀ (let a = dark_there in let b = few_levels in omega arith) (let a = light_there in let b = few_levels in omega arith) q;
      spaced = round_the_circle t kept.good d₀ l₀ dark_there light_there s.k (step_for s.k) handed₀.indices handed₀.spaced;
    }

    first_k : take s.k hues ≡ handed₀.indices
    first_k = first_of s.k handed₀.indices hues handed₀.stored handed₀.spaced.count (hue_count s.k kept.some_hue).1

    replacing : qualifies s d₀ l₀ ≡ true → Kept t s (suc n) (replaced j c' d₀ l₀ hues (tightest 720 (take s.k hues)))
    replacing q = record {
      good = kept.good;
      gap_held_lem = kept.gap_held_lem;
      some_hue = kept.some_hue;
      chroma_f32 = handed₀.f32_is;
      promise = record {
        position_is = let e = pm.position_is in omega arith;
        settings_are = pm.settings_are;
        levels_are = pm.levels_are;
        limit = λ (c : Float) (d l : ℕ) (e : Found c' d₀ l₀ ≡ Found c d l) (x : Choice t s (suc n)). subst (λ (z : Float). le (common_of t x.dark x.light x.hues) (next z) ≡ true) (found_same e).0 (by_place t s n (λ (dk lt' : ℕ) (hs : List ℕ). le (common_of t dk lt' hs) (next c') ≡ true) old_up_to up_to_new x);
        reached = λ (c : Float) (d l : ℕ) (e : Found c' d₀ l₀ ≡ Found c d l). (new_choice q, ((found_same e).1.0, ((found_same e).1.1, (sym first_k, reaches c d l (found_same e)))));
        none_said = λ (e : Found c' d₀ l₀ ≡ None). none_found (sym e);
        none_meant = λ (f : (x : Choice t s (suc n)) → le (f32_of 35) (common_of t x.dark x.light x.hues) ≡ true → ⊥). absurd (f (new_choice q) (subst (λ (hs : List ℕ). le (f32_of 35) (common_of t d₀ l₀ hs) ≡ true) first_k over35));
        tightest_is = λ (c : Float) (d l : ℕ) (e : Found c' d₀ l₀ ≡ Found c d l). refl;
        tightest_none = λ (e : Found c' d₀ l₀ ≡ None). none_found (sym e);
      };
    }
      where
        own : le c' (common_of t d₀ l₀ (take s.k hues)) ≡ true
        own = limit₀.reached

        reaches : (c : Float) (d l : ℕ) → (c' ≡ c) × ((d₀ ≡ d) × (l₀ ≡ l)) → le c (common_of t d l (take s.k hues)) ≡ true
        reaches c d l e =
            subst (λ (z : Float). le z (common_of t d l (take s.k hues)) ≡ true) e.0
            (subst (λ (z : ℕ). le c' (common_of t z l (take s.k hues)) ≡ true) e.1.0
            (subst (λ (z : ℕ). le c' (common_of t d₀ z (take s.k hues)) ≡ true) e.1.1 own))

        over35 : le (f32_of 35) (common_of t d₀ l₀ (take s.k hues)) ≡ true
        over35 =
            let a : le (f32_of 35) c' ≡ true = le_through (f32_of 35) (floor_of j.best) c' thirty_five floor_plain new_plain.0 (floor_from j.levels j.best best_held_lem) handed₀.above in
            let p = subst (λ (hs : List ℕ). Plain (common_of t d₀ l₀ hs)) (sym first_k) (choice_number (suc n) (new_choice q)) in
            le_through (f32_of 35) c' (common_of t d₀ l₀ (take s.k hues)) thirty_five new_plain.0 p a own
          where
            floor_plain : Plain (floor_of j.best)
            floor_plain = (chroma_plain (floor_of j.best) F₀ (floor_taken j.levels j.best best_held_lem)).0

-- ---- an accepted step
module _ (t : List Float) (j : Job) (kept : Kept t j.settings j.position j) (u : unbroken j ≡ true) (unfinished : j.position < j.levels * j.levels) where
  abbrev s : Settings
  s = j.settings

  abbrev n : ℕ
  n = j.position

  abbrev dark₀ : ℕ
  dark₀ = n / levels_in t

  abbrev light₀ : ℕ
  light₀ = n % levels_in t

  abbrev After : Job → Type 0
  After j' = Kept t s (suc n) j'

  dark_ok : dark₀ < levels_in t
  dark_ok = dark_there t s n j kept u unfinished

  light_ok : light₀ < levels_in t
  light_ok = light_there t s n j kept u unfinished

  said_pair : rows_say s.k (step_for s.k) (floor_of j.best) (row_at t dark₀ ∷ row_at t light₀ ∷ []) (work_needed 720) ≡ value (pair_best j t dark₀ light₀)
  said_pair = pair_says_lem t kept.good dark₀ light₀ dark_ok light_ok j u

  -- the pair does not qualify: no choice stands there
  passed_over : qualifies s dark₀ light₀ ≡ false → After (moved_on j)
  passed_over q = moved t s n j kept u unfinished (λ c d l e x a b. nobody x a b) (λ e x a b h. nobody x a b)
    where
      nobody : {A : Type 0} (x : Choice t s (suc n)) → dark₀ ≡ x.dark → light₀ ≡ x.light → A
      nobody x a b =
          let few = (shape t kept.good).few_levels in
          let p = x.dark_in in
          let r = x.light_in in
          let f = qualified s kept.gap_held_lem x.dark x.light (omega arith) (omega arith) x.far in
          never (sym q ∙ ap (λ (z : ℕ). qualifies s z light₀) a ∙ ap (λ (z : ℕ). qualifies s x.dark z) b ∙ f)

  -- nothing reaches the floor
  none_there : pair_best j t dark₀ light₀ ≡ none → After (moved_on j)
  none_there e = moved t s n j kept u unfinished up no
    where
      low : (x : Choice t s (suc n)) → dark₀ ≡ x.dark → light₀ ≡ x.light → lt (common_of t x.dark x.light x.hues) (floor_of j.best) ≡ true
      low x a b =
          subst (λ (l : ℕ). lt (common_of t x.dark l x.hues) (floor_of j.best) ≡ true) b
          (subst (λ (d : ℕ). lt (common_of t d light₀ x.hues) (floor_of j.best) ≡ true) a
          (none_is_none s.k (step_for s.k) (floor_of j.best) (row_at t dark₀ ∷ row_at t light₀ ∷ []) (work_needed 720) (floor_f32 j.best kept.chroma_f32) (rows_f32 t kept.good dark₀ light₀ dark_ok light_ok) (said_pair ∙ ap value e)
          x.hues (round_the_row t kept.good dark₀ light₀ dark_ok light_ok s.k (step_for s.k) x.hues x.spaced)))

      up : (c : Float) (d l : ℕ) → j.best ≡ Found c d l → (x : Choice t s (suc n)) → dark₀ ≡ x.dark → light₀ ≡ x.light → le (common_of t x.dark x.light x.hues) (next c) ≡ true
      up c d l f x a b =
          let w = common_of t x.dark x.light x.hues in
          let p = choice_number t s n j kept u unfinished (suc n) x in
          let o = chroma_plain c (subst BestF32 f kept.chroma_f32) (held_chroma j.levels j.best c d l f (sound j u).best_held_lem) in
          let below : lt w c ≡ true = subst (λ (z : Best). lt w (floor_of z) ≡ true) f (low x a b) in
          let q = next_plain c o.0 o.1 in
          le_through w c (next c) p o.0 q (lt_then_le w c p o.0 below) (lt_then_le c (next c) o.0 q (next_above c o.0 o.1))

      no : j.best ≡ None → (x : Choice t s (suc n)) → dark₀ ≡ x.dark → light₀ ≡ x.light → le (f32_of 35) (common_of t x.dark x.light x.hues) ≡ true → ⊥
      no f x a b h =
          let w = common_of t x.dark x.light x.hues in
          let p = choice_number t s n j kept u unfinished (suc n) x in
          let below : lt w (f32_of 35) ≡ true = subst (λ (z : Best). lt w (floor_of z) ≡ true) f (low x a b) in
          never (sym (le_not_lt (f32_of 35) w thirty_five p h) ∙ below)

  -- a chroma is found
  found_there : qualifies s dark₀ light₀ ≡ true → (c' : Float) (hues : List ℕ) → pair_best j t dark₀ light₀ ≡ found c' hues
      → (b : Bool) → beats c' j.best ≡ b → After (cond b (replaced j c' dark₀ light₀ hues (tightest 720 (take s.k hues))) (moved_on j))
  found_there q c' hues e true b = replacing t s n j kept u unfinished c' hues (said_pair ∙ ap value e) q
  found_there q c' hues e false b = moved t s n j kept u unfinished up (λ f x a g h. never (sym b ∙ ap (beats c') f))
    where
      up : (c : Float) (d l : ℕ) → j.best ≡ Found c d l → (x : Choice t s (suc n)) → dark₀ ≡ x.dark → light₀ ≡ x.light → le (common_of t x.dark x.light x.hues) (next c) ≡ true
      up c d l f x a g =
          let w = common_of t x.dark x.light x.hues in
          let p = choice_number t s n j kept u unfinished (suc n) x in
          let o = chroma_plain c (subst BestF32 f kept.chroma_f32) (held_chroma j.levels j.best c d l f (sound j u).best_held_lem) in
          let r = new_plain t s n j kept u unfinished c' hues (said_pair ∙ ap value e) in
          let k : le c' c ≡ true = not_lt_le c c' o.0 r.0 (sym (ap (beats c') f) ∙ b) in
          le_through w (next c') (next c) p (next_plain c' r.0 r.1) (next_plain c o.0 o.1) (up_to_new t s n j kept u unfinished c' hues (said_pair ∙ ap value e) x a g) (next_le c' c r.0 o.0 r.1 o.1 k)

  -- whichever of these it is
  went : (j' : Job) → searched j t dark₀ light₀ ≡ value j' → After j'
  went j' h = go (qualifies s dark₀ light₀) refl (both_rows t dark₀ light₀) (pair_best j t dark₀ light₀) refl (sym (searched_is j t dark₀ light₀) ∙ h)
    where
      go : (q : Bool) → qualifies s dark₀ light₀ ≡ q → (e : Bool) (best : pair.Best) → pair_best j t dark₀ light₀ ≡ best
          → goes_on j dark₀ light₀ q e best ≡ value j' → After j'
      go false q e best b h = subst After (same_value (moved_on j) j' h) (passed_over q)
      go true q false best b h = absurd (let z : ◌≡◌ {A = ℕ} 0 1 = cc in omega arith)
      go true q true none b h = subst After (same_value (moved_on j) j' h) (none_there b)
      go true q true (found c' hues) b h =
          subst After (same_value (cond (beats c' j.best) (replaced j c' dark₀ light₀ hues (tightest 720 (take s.k hues))) (moved_on j)) j' h) (found_there q c' hues b (beats c' j.best) refl)

pub step_kept : (t : List Float) (s : Settings) (n : ℕ) (j j' : Job) (room : ℕ) → Kept t s n j → step_says j t room ≡ value j' → Kept t s (suc n) j'
unfolding step_says step_checked
step_kept t s n j j' room kept h =
    let a = kept.promise.settings_are in
    let b = kept.promise.position_is in
    let here : Kept t j.settings j.position j = subst (λ (x : Settings). Kept t x j.position j) (sym a) (subst (λ (x : ℕ). Kept t s x j) (sym b) kept) in
    let m = j.levels in
    let f = all_pass (step_checks j (length t) room) (searched j t (j.position / m) (j.position % m)) j' h in
    let p = step_passed j (length t) room f.0 in
    let g : searched j t (j.position / levels_in t) (j.position % levels_in t) ≡ value j' = subst (λ (x : ℕ). searched j t (j.position / x) (j.position % x) ≡ value j') kept.promise.levels_are f.1 in
    subst (λ (x : Settings). Kept t x (suc n) j') a (subst (λ (x : ℕ). Kept t j.settings (suc x) j') b (went t j here p.sound p.unfinished j' g))

-- ---- an accepted start, by document 01
pub began_kept : (s : Settings) (t : List Float) (j' : Job) → Each F32 t → began_says s t ≡ value j' → Kept t s 0 j'
began_kept s t j' F h =
    let (taken, same) = began_leaves s t j' h in
    subst (Kept t s 0) same (record {
      good = good_table s t taken F;
      gap_held_lem = taken.gap;
      some_hue = count_taken s.k taken.hue_count;
      chroma_f32 = tt;
      promise = record {
        position_is = refl;
        settings_are = refl;
        levels_are = refl;
        limit = λ (c : Float) (d l : ℕ) (e : None ≡ Found c d l). none_found e;
        reached = λ (c : Float) (d l : ℕ) (e : None ≡ Found c d l). none_found e;
        none_said = λ (e : None ≡ None) (x : Choice t s 0). nobody x;
        none_meant = λ (f : (x : Choice t s 0) → le (f32_of 35) (common_of t x.dark x.light x.hues) ≡ true → ⊥). refl;
        tightest_is = λ (c : Float) (d l : ℕ) (e : None ≡ Found c d l). none_found e;
        tightest_none = λ (e : None ≡ None). refl;
      };
    })
  where
    nobody : (x : Choice t s 0) → le (f32_of 35) (common_of t x.dark x.light x.hues) ≡ true → ⊥
    nobody x h = not-suc-le-zero x.gone_through
