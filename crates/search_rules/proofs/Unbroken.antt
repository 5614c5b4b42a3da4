-- Number 15: a record passes its tests exactly where every field is in its range (`unbroken_exactly`). The chain of tests is taken apart here alone. Assumes nothing.
use mathlib.Core.Path.{◌≡◌, refl}
use mathlib.Core.Logic.{◌↔◌}
use mathlib.Core.Bool.{Bool, true}
use mathlib.Core.List.{List, [], ◌∷◌}
use Prim.Native.Nat.{ℕ, zero, suc, ◌*◌, ◌≤◌, ◌<◌, zero-le}
use native.Mathlib.Nat.{not-suc-le-zero, le_of_suc-le-suc, mul-le-mul}
use native.Mathlib.Omega.{arith}
use lib.Dec.{leb, ltb, eqb}
use lib.Ieee.{Float, le}
use lib.ListN.{length, get_or}
use borrow.Author.Tests.{leb-true, ltb-true, eqb-true, le-leb, lt-ltb, eq-eqb}
use Rattle.limits.specs.Taken.{f32_of, hue_count_taken}
use Rattle.limits.proofs.HueCount.{both, hue_count, count_taken}
use Rattle.limits.proofs.Tests.{joined, AllTrue, all_true, true_all}
use Rattle.search_rules.specs.declared.Best.{Best}
use Rattle.search_rules.specs.declared.Best.TheVariants.{None, Found}
use Rattle.search_rules.specs.declared.Job.{Job}
use Rattle.search_rules.specs.Job.{gap_held, best_held, handed, hues_held, tightest_held, unbroken}
use Rattle.search_rules.specs.Accepted.{BestWithin, HueWithin, TightestWithin, Unbroken}

-- ---- the tests
abbrev pub tests : Job → List Bool
tests j =
    hue_count_taken j.settings.k
    ∷ gap_held j.settings.gap
    ∷ leb 1 j.levels
    ∷ leb j.levels 169
    ∷ leb j.position (j.levels * j.levels)
    ∷ best_held j.levels j.best
    ∷ hues_held (handed j.settings.k j.best) j.hues
    ∷ tightest_held j.best j.tightest
    ∷ []

pub all_passed : (j : Job) → unbroken j ≡ true → AllTrue (tests j)
unfolding unbroken
all_passed j h = all_true (tests j) h

pub passed_all : (j : Job) → AllTrue (tests j) → unbroken j ≡ true
unfolding unbroken
passed_all j t = true_all (tests j) t

-- what they say of the fields, the best so far, the hues and their smallest gap by their tests
pub record Sound (j : Job) : Type 0 where
  pub hue_count_taken_lem : hue_count_taken j.settings.k ≡ true
  pub gap_held_lem : gap_held j.settings.gap ≡ true
  pub some_level : 1 ≤ j.levels
  pub few_levels : j.levels ≤ 169
  pub within : j.position ≤ j.levels * j.levels
  pub best_held_lem : best_held j.levels j.best ≡ true
  pub hues_held_lem : hues_held (handed j.settings.k j.best) j.hues ≡ true
  pub tightest_held_lem : tightest_held j.best j.tightest ≡ true

pub sound : (j : Job) → unbroken j ≡ true → Sound j
sound j h =
    let t = all_passed j h in
    record {
      hue_count_taken_lem = t.0;
      gap_held_lem = t.1.0;
      some_level = leb-true 1 j.levels t.1.1.0;
      few_levels = leb-true j.levels 169 t.1.1.1.0;
      within = leb-true j.position (j.levels * j.levels) t.1.1.1.1.0;
      best_held_lem = t.1.1.1.1.1.0;
      hues_held_lem = t.1.1.1.1.1.1.0;
      tightest_held_lem = t.1.1.1.1.1.1.1.0;
    }

pub unbroken_by : (j : Job) → Sound j → unbroken j ≡ true
unbroken_by j s =
    passed_all j
    (s.hue_count_taken_lem, (s.gap_held_lem, (le-leb 1 j.levels s.some_level, (le-leb j.levels 169 s.few_levels, (le-leb j.position (j.levels * j.levels) s.within, (s.best_held_lem, (s.hues_held_lem, (s.tightest_held_lem, tt))))))))

-- the square of a level count
pub square : (n : ℕ) → n ≤ 169 → n * n ≤ 28561
square n h = mul-le-mul h h

-- ---- the hues, the best so far and the smallest gap, by their tests and written out
hues_in : (n : ℕ) (hs : List ℕ) → hues_held n hs ≡ true → (p : ℕ) → p < length hs → (p < n → get_or hs p 0 ≤ 719) × (n ≤ p → get_or hs p 0 ≡ 0)
unfolding hues_held
hues_in n [] h p l = absurd (not-suc-le-zero l)
hues_in zero (x ∷ hs) h zero l = (λ (k : 0 < 0). absurd (not-suc-le-zero k), λ (k : 0 ≤ 0). eqb-true x 0 (both (eqb x 0) (hues_held zero hs) h).0)
hues_in zero (x ∷ hs) h (suc p) l =
    let r = hues_in zero hs (both (eqb x 0) (hues_held zero hs) h).1 p (le_of_suc-le-suc l) in
    (λ (k : suc p < 0). absurd (not-suc-le-zero k), λ (k : 0 ≤ suc p). r.1 zero-le)
hues_in (suc n) (x ∷ hs) h zero l = (λ (k : 0 < suc n). leb-true x 719 (both (leb x 719) (hues_held n hs) h).0, λ (k : suc n ≤ 0). absurd (not-suc-le-zero k))
hues_in (suc n) (x ∷ hs) h (suc p) l =
    let r = hues_in n hs (both (leb x 719) (hues_held n hs) h).1 p (le_of_suc-le-suc l) in
    (λ (k : suc p < suc n). r.0 (le_of_suc-le-suc k), λ (k : suc n ≤ suc p). r.1 (le_of_suc-le-suc k))

hues_back : (n : ℕ) (hs : List ℕ) → ((p : ℕ) → p < length hs → (p < n → get_or hs p 0 ≤ 719) × (n ≤ p → get_or hs p 0 ≡ 0)) → hues_held n hs ≡ true
unfolding hues_held
hues_back n [] f = refl
hues_back zero (x ∷ hs) f =
    joined (eqb x 0) (hues_held zero hs) (eq-eqb x 0 ((f 0 (omega arith)).1 zero-le))
    (hues_back zero hs (λ (p : ℕ) (l : p < length hs). (λ (k : p < 0). absurd (not-suc-le-zero k), λ (k : 0 ≤ p). (f (suc p) (omega arith)).1 zero-le)))
hues_back (suc n) (x ∷ hs) f =
    joined (leb x 719) (hues_held n hs) (le-leb x 719 ((f 0 (omega arith)).0 (omega arith)))
    (hues_back n hs (λ (p : ℕ) (l : p < length hs). (λ (k : p < n). (f (suc p) (omega arith)).0 (omega arith), λ (k : n ≤ p). (f (suc p) (omega arith)).1 (omega arith))))

-- the tests of a chroma with its levels
abbrev best_tests : ℕ → Float → ℕ → ℕ → List Bool
best_tests n c d l = le (f32_of 35) c ∷ le c (f32_of 200) ∷ ltb d n ∷ ltb l n ∷ []

pub best_in : (n : ℕ) (b : Best) → best_held n b ≡ true → BestWithin n b
best_in n None h = tt
best_in n (Found c d l) h = let t = all_true (best_tests n c d l) h in (t.0, (t.1.0, (ltb-true d n t.1.1.0, ltb-true l n t.1.1.1.0)))

pub best_back : (n : ℕ) (b : Best) → BestWithin n b → best_held n b ≡ true
best_back n None h = refl
best_back n (Found c d l) h = true_all (best_tests n c d l) (h.0, (h.1.0, (lt-ltb d n h.1.1.0, (lt-ltb l n h.1.1.1, tt))))

hue_in : (k : ℕ) (b : Best) (p x : ℕ) → (p < handed k b → x ≤ 719) × (handed k b ≤ p → x ≡ 0) → HueWithin k b p x
hue_in k None p x h = h.1 zero-le
hue_in k (Found c d l) p x h = h

hue_back : (k : ℕ) (b : Best) (p x : ℕ) → HueWithin k b p x → (p < handed k b → x ≤ 719) × (handed k b ≤ p → x ≡ 0)
hue_back k None p x h = (λ (l : p < 0). absurd (not-suc-le-zero l), λ (l : 0 ≤ p). h)
hue_back k (Found c d l) p x h = h

pub gap_in : (b : Best) (t : ℕ) → tightest_held b t ≡ true → TightestWithin b t
gap_in None t h = eqb-true t 0 h
gap_in (Found c d l) t h = let p = both _ _ h in (leb-true 1 t p.0, leb-true t 720 p.1)

pub gap_back : (b : Best) (t : ℕ) → TightestWithin b t → tightest_held b t ≡ true
gap_back None t h = eq-eqb t 0 h
gap_back (Found c d l) t h = joined (leb 1 t) (leb t 720) (le-leb 1 t h.0) (le-leb t 720 h.1)

-- ---- written out
module _ (j : Job) where
  abbrev k : ℕ
  k = j.settings.k

  unbroken_only : unbroken j ≡ true → Unbroken j
  unbroken_only h =
      let s = sound j h in
      record {
        hue_count = hue_count k s.hue_count_taken_lem;
        gap = s.gap_held_lem;
        levels = (s.some_level, s.few_levels);
        position = s.within;
        best = best_in j.levels j.best s.best_held_lem;
        hues = λ (p : ℕ) (l : p < length j.hues). hue_in k j.best p (get_or j.hues p 0) (hues_in (handed k j.best) j.hues s.hues_held_lem p l);
        tightest = gap_in j.best j.tightest s.tightest_held_lem;
      }

  unbroken_back : Unbroken j → unbroken j ≡ true
  unbroken_back h = unbroken_by j (record {
    hue_count_taken_lem = count_taken k h.hue_count;
    gap_held_lem = h.gap;
    some_level = h.levels.0;
    few_levels = h.levels.1;
    within = h.position;
    best_held_lem = best_back j.levels j.best h.best;
    hues_held_lem = hues_back (handed k j.best) j.hues (λ (p : ℕ) (l : p < length j.hues). hue_back k j.best p (get_or j.hues p 0) (h.hues p l));
    tightest_held_lem = gap_back j.best j.tightest h.tightest;
  })

  pub unbroken_exactly : (unbroken j ≡ true) ↔ Unbroken j
  unbroken_exactly = (unbroken_only, unbroken_back)
