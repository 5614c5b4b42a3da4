-- `roots::root_of` meets its contract: the operand is its pattern's worth in units, and the root sees only that value. Assumes nothing.
use mathlib.Core.Path.{◌≡◌, refl, sym, ap, ◌∙◌, subst}
use mathlib.Core.Logic.{◌⊎◌, inl, inr}
use mathlib.Core.Bool.{Bool, true, false, not}
use Prim.Native.Nat.{ℕ, ◌^◌, ◌<◌}
use native.Mathlib.Omega.{arith}
use lib.Dec.{T}
use lib.Ieee.{Float, nan, inf, fin, binary32, fits, is_nan, nan_bits, of_bits, to_bits}
use lib.Ieee.Bits.{nan_bits_is}
use lib.Ieee.Exact.{HasValue}
use Rattle.limits.specs.Answers.{value, refused}
use Rattle.limits.specs.Taken.{root_operand_taken}
use Rattle.limits.proofs.Floats.{operand_no_nan, operand_pattern}
use Rattle.halving.specs.Patterns.{worth, least, half_way}
use Rattle.halving.proofs.Patterns.{pattern_value}
use Rattle.roots.specs.Roots.{root_says}
use Rattle.roots.proofs.Nearest.{root_pattern, root_is}
use Rattle.roots.proofs.root_of.Goals as goal

-- the root of an operand by its pattern
by_pattern : (n : ℕ) (x : Float) → T (fits binary32 x) → root_operand_taken x ≡ true
    → value (of_bits binary32 (least (half_way n (worth (to_bits binary32 x)) (2 ^ 149)) 31 0)) ≡ root_says n x
unfolding root_says root_pattern
by_pattern n x F t = rw t (ap value (sym (root_is n x F t)))

-- the root of zero
zero_root : (n : ℕ) → (n ≡ 2) ⊎ (n ≡ 3) → least (half_way n (worth 0) (2 ^ 149)) 31 0 ≡ 0
unfolding worth least half_way
zero_root n (inl e) = rw e refl
zero_root n (inr e) = rw e refl

no_nan : (b : ℕ) → b < 2139095040 → T (not (nan_bits binary32 b))
unfolding is_nan
no_nan b u = subst (λ (t : Bool). T (not t)) (sym (nan_bits_is binary32 b)) (go (of_bits binary32 b) (pattern_value b u))
  where
    go : (z : Float) → HasValue z false (worth b) (2 ^ 149) → T (not (is_nan z))
    go nan v = absurd v
    go (inf s) v = tt
    go (fin s m e) v = tt

not_taken : (n : ℕ) (x : Float) → root_operand_taken x ≡ false → refused 16 ≡ root_says n x
unfolding root_says
not_taken n x f = rw f

taken : (c : goal.Else-not-takes_root_operand) → root_operand_taken c.args.x ≡ true
taken c = sym c.takes_root_operand.ensures ∙ c.if-not-takes_root_operand.false

pub float_to_bits-bits : goal.float_to_bits-bits
float_to_bits-bits c = rw (operand_no_nan _ (taken c)) tt

pub returns-then-bits-eq0 : goal.returns-then-bits-eq0
returns-then-bits-eq0 c =
    let s = c.before.before.before in
    let n = s.args.n in
    let x = s.args.x in
    let b : to_bits binary32 x ≡ 0 = c.if-bits-eq0.true in
    let z : least (half_way n (worth (to_bits binary32 x)) (2 ^ 149)) 31 0 ≡ 0 = rw b (zero_root n s.requires) in
    rw z at (by_pattern n x (let it : T (fits binary32 s.args.x) = subst T (sym s.well_formed.1.0.1) tt in it) (taken c.before))

pub root_bits-requires : goal.root_bits-requires
root_bits-requires c =
    let s = c.before.before.before in
    let ne = c.if-bits-eq0.false in
    (s.requires, (omega arith, operand_pattern s.args.x (let it : T (fits binary32 s.args.x) = subst T (sym s.well_formed.1.0.1) tt in it) (taken c.before)))

pub float_from_bits-result : goal.float_from_bits-result
float_from_bits-result c = no_nan _ c.root_bits.ensures.1

pub returns : goal.returns
returns c =
    let s = c.before.before.before.before in
    rw c.root_bits.ensures.0 (by_pattern s.args.n s.args.x (let it : T (fits binary32 s.args.x) = subst T (sym s.well_formed.1.0.1) tt in it) (taken c.before.before))

pub returns-then-not-takes_root_operand : goal.returns-then-not-takes_root_operand
returns-then-not-takes_root_operand c = not_taken _ _ (sym c.takes_root_operand.ensures ∙ c.if-not-takes_root_operand.true)
