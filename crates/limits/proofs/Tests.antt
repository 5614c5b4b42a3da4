-- Tests joined by `&&`: what a test that passed or failed says of those joined to it, and a chain of any number of them taken apart (`all_true`) and
-- put together (`true_all`). Assumes nothing.
use mathlib.Core.Path.{◌≡◌, refl, sym, ◌∙◌}
use mathlib.Core.Bool.{Bool, true, false, ◌&&◌}
use mathlib.Core.List.{List, [], ◌∷◌}
use Rattle.limits.proofs.Floats.{never}
use Rattle.limits.proofs.HueCount.{both}

pub joined : (a b : Bool) → a ≡ true → b ≡ true → (a && b) ≡ true
joined a b p q = rw (p, q)

-- x is what the tests p found: after they passed it is the last test that decides, and after they failed nothing does
pub passed_on : (p last x : Bool) → x ≡ p → x ≡ true → last ≡ (p && last)
passed_on true last x e t = refl
passed_on false last x e t = never (sym e ∙ t)

pub stopped : (p last x : Bool) → x ≡ p → x ≡ false → x ≡ (p && last)
stopped true last x e f = never (sym f ∙ e)
stopped false last x e f = e

-- ---- a chain of tests
abbrev pub all : List Bool → Bool
all [] = true
all (b ∷ []) = b
all (b ∷ c ∷ bs) = b && all (c ∷ bs)

abbrev pub AllTrue : List Bool → Type 0
AllTrue [] = Unit
AllTrue (b ∷ bs) = (b ≡ true) × AllTrue bs

pub all_true : (bs : List Bool) → all bs ≡ true → AllTrue bs
all_true [] h = tt
all_true (b ∷ []) h = (h, tt)
all_true (b ∷ c ∷ bs) h = let t = both b (all (c ∷ bs)) h in (t.0, all_true (c ∷ bs) t.1)

pub true_all : (bs : List Bool) → AllTrue bs → all bs ≡ true
true_all [] t = refl
true_all (b ∷ []) t = t.0
true_all (b ∷ c ∷ bs) t = joined b (all (c ∷ bs)) t.0 (true_all (c ∷ bs) t.1)
