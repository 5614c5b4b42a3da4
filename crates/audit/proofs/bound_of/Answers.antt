-- `audit::bound_of` meets its contract: the pattern of a chroma that is taken lies far below the infinity's, so the next pattern is the next f32's. Assumes nothing.
use mathlib.Core.Path.{◌≡◌, refl, sym, ◌∙◌, subst}
use mathlib.Core.Bool.{Bool, true, false, cond}
use Prim.Native.Nat.{ℕ, suc, ◌-◌, ◌+◌, ◌%◌, ◌≤◌}
use native.Mathlib.Omega.{arith}
use native.Mathlib.Numerals.{add-one}
use lib.Dec.{T, eqb}
use lib.Ieee.{Float, binary32, to_bits, of_bits, fits}
use borrow.Author.Tests.{eqb-true, eq-eqb, ne_eqb}
use Rattle.std.specs.Float.{next_up}
use Rattle.limits.specs.Taken.{chroma_taken}
use Rattle.halving.specs.Patterns.{next}
use Rattle.halving.proofs.Meeting.{Met, no_nan}
use Rattle.halving.proofs.Range.{taken_up_to}
use Rattle.halving.proofs.Plain.{taken_plain}
use Rattle.audit.specs.Bound.{bound_says}
use Rattle.audit.proofs.bound_of.Goals as goal

met : (x : Float) → T (fits binary32 x) → chroma_taken x ≡ true → Met x
unfolding chroma_taken
met x F h = record { up_to_lem = taken_up_to 200 x (omega arith) h; f32 = F }

small : (x : Float) → T (fits binary32 x) → chroma_taken x ≡ true → to_bits binary32 x ≤ 1128792064
unfolding chroma_taken
small x F h = (taken_plain x F h).1

next_is : (x : Float) → T (fits binary32 x) → chroma_taken x ≡ true → next_up binary32 x ≡ next x
unfolding next
next_is x F h = rw (no_nan (met x F h)) (go (to_bits binary32 x) (small x F h))
  where
    go : (b : ℕ) → b ≤ 1128792064 → cond (eqb b 2139095040) x (cond (eqb (b % 2147483648) 0) (of_bits binary32 1) (cond (eqb b (b % 2147483648)) (of_bits binary32 (b + 1)) (of_bits binary32 (b - 1)))) ≡ of_bits binary32 (suc b)
    go b l =
        let m : b % 2147483648 ≡ b = omega arith in
        rw (ne_eqb b 2139095040 (λ e. omega arith), m, eq-eqb b b refl, add-one b) (zero_or (eqb b 0) refl)
      where
        zero_or : (t : Bool) → eqb b 0 ≡ t → cond t (of_bits binary32 1) (of_bits binary32 (suc b)) ≡ of_bits binary32 (suc b)
        zero_or true e = rw (eqb-true b 0 e)
        zero_or false e = refl

pub returns-then-not-takes_chroma : goal.returns-then-not-takes_chroma
unfolding bound_says
returns-then-not-takes_chroma c = rw (← c.takes_chroma.ensures, c.if-not-takes_chroma.true)

pub returns : goal.returns
unfolding bound_says
returns c =
    let t : chroma_taken c.args.chroma ≡ true = sym c.takes_chroma.ensures ∙ c.if-not-takes_chroma.false in
    rw (t, c.next_up.ensures, next_is c.args.chroma (subst T (sym c.well_formed.0.1) tt) t)
