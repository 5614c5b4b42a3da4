-- A choice after one more step is one from before it, or stands at the pair of that step (`by_place`). Assumes nothing.
use mathlib.Core.Path.{◌≡◌}
use mathlib.Core.Logic.{inl, inr}
use mathlib.Core.List.{List}
use Prim.Native.Nat.{ℕ, suc, ◌+◌, ◌*◌, ◌/◌, ◌%◌, ◌≤◌, ◌<◌}
use native.Mathlib.Omega.{arith}
use lib.Ieee.{Float}
use Rattle.limits.proofs.Numbers.{below_or_not}
use Rattle.gamut.specs.Table.{levels_in}
use Rattle.search_rules.specs.declared.Settings.{Settings}
use Rattle.search_rules.specs.Runs.{Choice}
use Rattle.search_rules.proofs.Positions.{place_of}

-- ---- a choice at n + 1 is one at n, or stands at the pair of position n
module _ (t : List Float) (s : Settings) (n : ℕ) where
  -- one step later it is still gone through
  abbrev pub later : Choice t s n → Choice t s (suc n)
  later x = record {
    dark = x.dark;
    light = x.light;
    hues = x.hues;
    dark_in = x.dark_in;
    light_in = x.light_in;
    gone_through = let g = x.gone_through in omega arith;
    far = x.far;
    spaced = x.spaced;
  }

  abbrev earlier : (x : Choice t s (suc n)) → x.dark * levels_in t + x.light < n → Choice t s n
  earlier x g = record {
    dark = x.dark;
    light = x.light;
    hues = x.hues;
    dark_in = x.dark_in;
    light_in = x.light_in;
    gone_through = g;
    far = x.far;
    spaced = x.spaced;
  }

  -- what holds of every choice at n and at the pair of position n holds of every choice at n + 1
  pub by_place : (P : ℕ → ℕ → List ℕ → Type 0) → ((x : Choice t s n) → P x.dark x.light x.hues)
      → ((x : Choice t s (suc n)) → n / levels_in t ≡ x.dark → n % levels_in t ≡ x.light → P x.dark x.light x.hues)
      → (x : Choice t s (suc n)) → P x.dark x.light x.hues
  by_place P old new x = elim (below_or_not (x.dark * levels_in t + x.light) n) [ inl h ↦ old (earlier x h) | inr h ↦ here h ]
    where
      here : n ≤ x.dark * levels_in t + x.light → P x.dark x.light x.hues
      here h =
          let g = x.gone_through in
          let e : x.dark * levels_in t + x.light ≡ n = omega arith in
          let p = place_of (levels_in t) x.dark x.light n x.light_in e in
          new x p.0 p.1
