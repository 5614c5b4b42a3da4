-- What the call's answer means, for a table of f32. A chroma is the greatest of all qualifying pairs and partners, and the first in the Rust's order of those that reach it
-- (`fixed_is_greatest`); none is said exactly where none of them reaches 35 (`none_said`, `none_meant`). There is one such answer only (`one_answer`). Assumes nothing.
use mathlib.Core.Path.{◌≡◌, refl, sym, ap, ◌∙◌, subst}
use mathlib.Core.Logic.{inl, inr}
use mathlib.Core.Bool.{Bool, true, cond}
use mathlib.Core.List.{List, [], ◌∷◌}
use Prim.Native.Nat.{ℕ, suc, ◌+◌, ◌-◌, ◌*◌, ◌/◌, ◌%◌, ◌≤◌, ◌<◌}
use native.Mathlib.Nat.{zero-mul, suc-mul, mul-le-mul_right, mod-lt, div-lt_iff_lt-mul, div-add-mod'}
use native.Mathlib.Omega.{arith}
use lib.Ieee.{Float, lt, le}
use Rattle.limits.specs.Answers.{value}
use Rattle.limits.specs.Taken.{f32_of}
use Rattle.limits.specs.Each.{Each, F32}
use Rattle.limits.proofs.Floats.{never}
use Rattle.limits.proofs.Numbers.{below_or_not}
use Rattle.halving.proofs.Plain.{Plain, le_not_lt}
use Rattle.gamut.specs.Table.{levels_in}
use Rattle.search_rules.specs.Runs.{common_of}
use Rattle.search_rules.specs.Loops.{loop}
use Rattle.search_rules.specs.Accepted.{Between}
use Rattle.search_rules.specs.Job.{far_enough}
use Rattle.search_rules.proofs.Apart.{apart_enough, enough}
use Rattle.search_rules.proofs.Positions.{place_of, at, rows}
use Rattle.search_rules.proofs.Rows.{Good, choice_plain}
use Rattle.search_rules.proofs.Floor.{thirty_five}
use Rattle.search_rules.proofs.Turns.{alike, gated}
use Rattle.orientation_rules.specs.Orientation.{Best, none, found, nearest, partners, partner_at, replaces, tried_with, over_partners, tried, over_light, best_fixed, orientation_says}
use Rattle.orientation_rules.specs.Fixed.{positions_on, Fixed, chroma_of, turn, Greatest, NoneReaches, OrientationTaken}
use Rattle.orientation_rules.proofs.Partners.{partner_below, on_back, partner_back, to_spaced}
use Rattle.orientation_rules.proofs.Accepted.{orientation_only, orientation_given, good_table}
use Rattle.orientation_rules.proofs.First.{First, Held, turned, first_of_greatest}

-- ---- the candidates, numbered in the Rust's order
module _ (gap : Float) (t : List Float) (hue : ℕ) where
  abbrev m : ℕ
  m = levels_in t

  abbrev dark : ℕ → ℕ
  dark q = q / partners / m

  abbrev light : ℕ → ℕ
  light q = q / partners % m

  abbrev partner : ℕ → ℕ
  partner q = partner_at hue (nearest + q % partners)

  abbrev v : ℕ → Float
  v q = common_of t (dark q) (light q) (hue ∷ partner q ∷ [])

  abbrev counts : ℕ → Bool
  counts q = far_enough gap (dark q) (light q)

  abbrev made : ℕ → Best
  made q = found (v q) (dark q) (light q) (partner q)

  abbrev all : ℕ
  all = m * m * partners

  -- one partner of the pair at a position
  abbrev at_pair : ℕ → ℕ → Best → Best
  at_pair p i so = cond (far_enough gap (p / m) (p % m)) (tried_with t hue (p / m) (p % m) (partner_at hue (nearest + i)) so) so

  pair_is : (p : ℕ) (so : Best) → tried gap t hue (p / m) (p % m) so ≡ loop (at_pair p) partners 0 so
  unfolding tried over_partners
  pair_is p so = gated (λ on. tried_with t hue (p / m) (p % m) (partner_at hue on)) (far_enough gap (p / m) (p % m)) nearest partners 0 so

  -- the three loops are one over the candidates
  one_loop : best_fixed gap t hue ≡ loop (turned replaces none made v counts (f32_of 35)) all 0 none
  unfolding best_fixed over_light tried_with
  one_loop =
      sym (rows (tried gap t hue) m m 0 none)
      ∙ ap (λ (i : ℕ). loop (at (tried gap t hue) m) (m * m) i none) (zero-mul m)
      ∙ alike (at (tried gap t hue) m) (λ p. loop (at_pair p) partners 0) pair_is (m * m) 0 none
      ∙ sym (rows at_pair partners (m * m) 0 none)
      ∙ ap (λ (i : ℕ). loop (at at_pair partners) all i none) (zero-mul partners)

  -- ---- over a table that is taken, of f32
  module _ (taken : OrientationTaken gap t hue) (f32 : Each F32 t) where
    abbrev good : Good t
    good = good_table gap t hue taken f32

    -- the chroma of two hues that lie so on two levels
    plain_at : (d l p : ℕ) → d < m → l < m → p < 720 → Between 301 419 (positions_on hue p) → Plain (common_of t d l (hue ∷ p ∷ []))
    plain_at d l p D L P on = choice_plain t good d l D L 2 _ (hue ∷ p ∷ []) (omega arith) (to_spaced hue p taken.hue_in P on)

    -- ---- a candidate is a qualifying pair with a partner
    module _ (q : ℕ) (inside : q < all) where
      on_is : positions_on hue (partner q) ≡ nearest + q % partners
      on_is = on_back hue (nearest + q % partners) taken.hue_in (omega arith)

      on_between : Between 301 419 (positions_on hue (partner q))
      on_between = let e = on_is in omega arith

      in_levels : (dark q < m) × (light q < m)
      in_levels =
          let some = taken.levels.0 in
          let p : q / partners < m * m = omega arith in
          ((div-lt_iff_lt-mul some).1 p, mod-lt (q / partners) some)

      v_plain : Plain (v q)
      v_plain = plain_at (dark q) (light q) (partner q) in_levels.0 in_levels.1 (partner_below hue (nearest + q % partners)) on_between

      abbrev fixed_at : counts q ≡ true → Fixed t gap hue
      fixed_at c = record {
        dark = dark q;
        light = light q;
        partner = partner q;
        dark_in = in_levels.0;
        light_in = in_levels.1;
        far = let few = taken.levels.1 in let d = in_levels.0 in let l = in_levels.1 in apart_enough gap taken.gap_is_taken (dark q) (light q) (omega arith) (omega arith) c;
        partner_in = partner_below hue (nearest + q % partners);
        on = on_between;
      }

      turn_at : (c : counts q ≡ true) → turn t gap hue (fixed_at c) ≡ q / partners * 720 + (nearest + q % partners)
      turn_at c = ap (λ (p : ℕ). p * 720 + positions_on hue (partner q)) (div-add-mod' (q / partners) m) ∙ ap (λ (n : ℕ). q / partners * 720 + n) on_is

    -- ---- and such a pair with a partner is a candidate
    module _ (x : Fixed t gap hue) where
      abbrev number_of_lem : ℕ
      number_of_lem = (x.dark * m + x.light) * partners + (positions_on hue x.partner - nearest)

      number_in : number_of_lem < all
      number_in =
          let D : suc x.dark * m ≤ m * m = mul-le-mul_right m x.dark_in in
          let e : suc x.dark * m ≡ x.dark * m + m = suc-mul x.dark m in
          let L = x.light_in in
          let o = x.on in
          omega arith

      number_place : (dark number_of_lem ≡ x.dark) × ((light number_of_lem ≡ x.light) × (partner number_of_lem ≡ x.partner))
      number_place =
          let o = x.on in
          let p : number_of_lem / partners ≡ x.dark * m + x.light = omega arith in
          let r : nearest + number_of_lem % partners ≡ positions_on hue x.partner = omega arith in
          let place = place_of m x.dark x.light (number_of_lem / partners) x.light_in (sym p) in
          (place.0, (place.1, ap (partner_at hue) r ∙ partner_back hue x.partner taken.hue_in x.partner_in))

      number_value : v number_of_lem ≡ chroma_of t gap hue x
      number_value = let p = number_place in rw (p.0, p.1.0, p.1.1)

      number_counts : counts number_of_lem ≡ true
      number_counts =
          let p = number_place in
          let few = taken.levels.1 in
          let d = x.dark_in in
          let l = x.light_in in
          rw (p.0, p.1.0) (enough gap taken.gap_is_taken x.dark x.light (omega arith) (omega arith) x.far)

      fixed_plain : Plain (chroma_of t gap hue x)
      fixed_plain = plain_at x.dark x.light x.partner x.dark_in x.light_in x.partner_in x.on

    -- ---- what the call holds at its end
    abbrev Ends : Best → Type 0
    Ends b = Held replaces none made v counts (f32_of 35) all b

    ended : Ends (best_fixed gap t hue)
    ended = subst Ends (sym one_loop) (first_of_greatest replaces none made v counts (f32_of 35) (λ (c : Float). refl) (λ (c : Float) (q : ℕ). refl) all thirty_five v_plain all (omega arith))

    -- the first of the greatest candidates is the greatest of what there is, and first in the Rust's order
    greatest : (q : ℕ) → First replaces none made v counts (f32_of 35) all q → Greatest t gap hue (v q) (dark q) (light q) (partner q)
    greatest q f = record {
      choice = fixed_at q f.within f.counted;
      dark_is = refl;
      light_is = refl;
      partner_is = refl;
      reached = refl;
      enough = f.enough;
      limit = λ (x : Fixed t gap hue). subst (λ (c : Float). le c (v q) ≡ true) (number_value x) (f.most (number_of_lem x) (number_in x) (number_counts x));
      first = λ (x : Fixed t gap hue) (h : turn t gap hue x < turn t gap hue (fixed_at q f.within f.counted)).
          subst (λ (c : Float). lt c (v q) ≡ true) (number_value x) (f.before (number_of_lem x) (earlier x h) (number_counts x));
    }
      where
        earlier : (x : Fixed t gap hue) → turn t gap hue x < turn t gap hue (fixed_at q f.within f.counted) → number_of_lem x < q
        earlier x h =
            let o = x.on in
            let e = turn_at q f.within f.counted in
            omega arith

    pub found_greatest : (c : Float) (d l p : ℕ) → best_fixed gap t hue ≡ found c d l p → Greatest t gap hue c d l p
    found_greatest c d l p e = go ended
      where
        go : Ends (best_fixed gap t hue) → Greatest t gap hue c d l p
        go (inl h) = absurd (let z : ◌≡◌ {A = ℕ} 0 1 = clash (sym h.0 ∙ e) in omega arith)
          where
            clash : none ≡ found c d l p → ◌≡◌ {A = ℕ} 0 1
            clash h = cc
        go (inr h) = let q = h.0 in same (v q) (dark q) (light q) (partner q) (sym h.1.0 ∙ e) (greatest q h.1.1)
          where
            same : (c' : Float) (d' l' p' : ℕ) → found c' d' l' p' ≡ found c d l p → Greatest t gap hue c' d' l' p' → Greatest t gap hue c d l p
            same c' d' l' p' h g =
                let ce : c' ≡ c = cc in
                let de : d' ≡ d = cc in
                let le : l' ≡ l = cc in
                let pe : p' ≡ p = cc in
                rw (← ce, ← de, ← le, ← pe) g

    pub none_reaches : best_fixed gap t hue ≡ none → NoneReaches t gap hue
    none_reaches e x h = go ended
      where
        go : Ends (best_fixed gap t hue) → ⊥
        go (inl a) = never (sym (le_not_lt (f32_of 35) (chroma_of t gap hue x) thirty_five (fixed_plain x) h) ∙ subst (λ (c : Float). lt c (f32_of 35) ≡ true) (number_value x) (a.1 (number_of_lem x) (number_in x) (number_counts x)))
        go (inr a) = let z : ◌≡◌ {A = ℕ} 0 1 = clash (sym e ∙ a.1.0) in omega arith
          where
            clash : none ≡ made a.0 → ◌≡◌ {A = ℕ} 0 1
            clash h = cc

    pub none_where : NoneReaches t gap hue → best_fixed gap t hue ≡ none
    none_where h = go ended
      where
        go : Ends (best_fixed gap t hue) → best_fixed gap t hue ≡ none
        go (inl a) = a.0
        go (inr a) = let f = a.1.1 in absurd (h (fixed_at a.0 f.within f.counted) f.enough)

    -- ---- there is one such answer only
    module _ (c c' : Float) (d d' l l' p p' : ℕ) (a : Greatest t gap hue c d l p) (b : Greatest t gap hue c' d' l' p') where
      abbrev x : Fixed t gap hue
      x = a.choice

      abbrev y : Fixed t gap hue
      y = b.choice

      -- neither comes before the other
      no_earlier : (c c' : Float) (x y : Fixed t gap hue) → chroma_of t gap hue x ≡ c → chroma_of t gap hue y ≡ c' → le c' c ≡ true → (turn t gap hue x < turn t gap hue y → lt c c' ≡ true) → turn t gap hue y ≤ turn t gap hue x
      no_earlier c c' x y e f most first = elim (below_or_not (turn t gap hue x) (turn t gap hue y)) [ inl h ↦ absurd (clash h) | inr h ↦ h ]
        where
          clash : turn t gap hue x < turn t gap hue y → ⊥
          clash h = never (sym (le_not_lt c' c (subst Plain f (fixed_plain y)) (subst Plain e (fixed_plain x)) most) ∙ first h)

      same_turn : turn t gap hue x ≡ turn t gap hue y
      same_turn =
          let f = no_earlier c c' x y a.reached b.reached (subst (λ (z : Float). le z c ≡ true) b.reached (a.limit y)) (λ h. subst (λ (z : Float). lt z c' ≡ true) a.reached (b.first x h)) in
          let g = no_earlier c' c y x b.reached a.reached (subst (λ (z : Float). le z c' ≡ true) a.reached (b.limit x)) (λ h. subst (λ (z : Float). lt z c ≡ true) b.reached (a.first y h)) in
          omega arith

      same_place : (x.dark ≡ y.dark) × ((x.light ≡ y.light) × (x.partner ≡ y.partner))
      same_place =
          let e = same_turn in
          let o = x.on in
          let u = y.on in
          let P : x.dark * m + x.light ≡ y.dark * m + y.light = omega arith in
          let O : positions_on hue x.partner ≡ positions_on hue y.partner = omega arith in
          let i = place_of m x.dark x.light (x.dark * m + x.light) x.light_in refl in
          let j = place_of m y.dark y.light (x.dark * m + x.light) y.light_in (sym P) in
          (sym i.0 ∙ j.0, (sym i.1 ∙ j.1, sym (partner_back hue x.partner taken.hue_in x.partner_in) ∙ ap (partner_at hue) O ∙ partner_back hue y.partner taken.hue_in y.partner_in))

      pub one_answer : (c ≡ c') × ((d ≡ d') × ((l ≡ l') × (p ≡ p')))
      one_answer =
          let s = same_place in (
            sym a.reached ∙ rw (s.0, s.1.0, s.1.1) b.reached,
            (sym a.dark_is ∙ s.0 ∙ b.dark_is, (sym a.light_is ∙ s.1.0 ∙ b.light_is, sym a.partner_is ∙ s.1.1 ∙ b.partner_is)),
          )

-- ---- the request's sentences
module _ (gap : Float) (t : List Float) (hue : ℕ) (f32 : Each F32 t) where
  -- "of all qualifying pairs and partners none has more chroma than the answer, the first in the Rust's order wins"
  pub fixed_is_greatest : (c : Float) (dark light partner : ℕ) → orientation_says gap t hue ≡ value (found c dark light partner) → Greatest t gap hue c dark light partner
  fixed_is_greatest c dark light partner h = let o = orientation_only gap t hue (found c dark light partner) h in found_greatest gap t hue o.0 f32 c dark light partner o.1

  -- "none is said exactly when nothing reaches 35": where it is said, and where the call is accepted and nothing reaches it
  pub none_said : orientation_says gap t hue ≡ value none → NoneReaches t gap hue
  none_said h = let o = orientation_only gap t hue none h in none_reaches gap t hue o.0 f32 o.1

  pub none_meant : OrientationTaken gap t hue → NoneReaches t gap hue → orientation_says gap t hue ≡ value none
  none_meant taken h = orientation_given gap t hue taken ∙ ap value (none_where gap t hue taken f32 h)
