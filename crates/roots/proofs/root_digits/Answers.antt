-- `roots::root_digits` meets its contract. The invariant is `Taken` of `proofs/Digits.antt`: what was taken of w is root ^ n and the rest, and the root is the greatest. Assumes nothing.
use mathlib.Core.Path.{◌≡◌}
use mathlib.Core.Logic.{◌⊎◌, inl, inr}
use Prim.Native.Nat.{ℕ, suc, ◌+◌, ◌*◌, ◌%◌, ◌^◌, ◌≤◌, ◌<◌}
use native.Mathlib.Nat.{le_of_lt, mul-le-mul, mod-eq_of_lt}
use native.Mathlib.Omega.{arith}
use lib.Pow.{pow_mono}
use Rattle.roots.proofs.Powers.{rest_small}
use Rattle.roots.proofs.Digits.{Taken, one, none, finish}
use Rattle.roots.proofs.root_digits.Goals as goal
use Rattle.roots.proofs.root_digits.Goals.{then-step-more, else-step-more}

-- ---- a turn's numbers are small
base_small : (n : ℕ) → (n ≡ 2) ⊎ (n ≡ 3) → 2 ^ n ≤ 8
base_small n (inl e) = rw e (omega arith)
base_small n (inr e) = rw e (omega arith)

record Small (n root rest tail : ℕ) : Type 0 where
  root_lt : root < 16777216
  more_is : rest * 2 ^ n % 18446744073709551616 ≡ rest * 2 ^ n
  next_is : tail % 16777216 * 2 ^ n % 18446744073709551616 ≡ tail % 16777216 * 2 ^ n

small : (c : goal.In-loop) → Small c.args.n c.loop.root c.loop.rest c.loop.tail
small c =
    let n = c.args.n in
    let d = c.requires.0 in
    let l = c.loop in
    let b : 2 ^ n ≤ 8 = base_small n d in
    let t = l.invariant in
    let i24 : l.counter ≤ 24 = let h = c.loop-test.true in omega arith in
    let p : 2 ^ l.counter ≤ 16777216 = pow_mono i24 in
    let r : l.root < 16777216 = let h = t.digits in omega arith in
    let k : l.rest < 1125899906842624 = rest_small n l.root l.rest d r t.greatest in
    let rem : l.tail % 16777216 ≤ 16777216 = omega arith in
    let m : l.rest * 2 ^ n ≤ 1125899906842624 * 8 = mul-le-mul (le_of_lt k) b in
    let x : l.tail % 16777216 * 2 ^ n ≤ 16777216 * 8 = mul-le-mul rem b in
    record { root_lt = r; more_is = mod-eq_of_lt (omega arith); next_is = mod-eq_of_lt (omega arith) }

pub gain-step-requires : goal.gain-step-requires
gain-step-requires c = (c.requires.0, (small c).root_lt)

pub loop-preserved : goal.loop-preserved
loop-preserved c =
    let b = c.before.before in
    let n = b.args.n in
    let w = b.args.w in
    let l = b.loop in
    let s = small b in
    let g = c.gain-step in
    let next : l.counter + 1 ≡ suc l.counter = omega arith in
    rw next
    (elim c.if-step-more.branch [
      | then-step-more u ↦ rw (u.root-is, u.rest-is, s.more_is, s.next_is) (one n w l.counter l.root l.rest l.tail l.invariant g.result g.ensures.0 (rw s.more_is at u.if-step-more.true))
      | else-step-more u ↦ rw (u.root-is, u.rest-is, s.more_is, s.next_is) (none n w l.counter l.root l.rest l.tail l.invariant g.result g.ensures.0 (rw s.more_is at u.if-step-more.false))
    ])

pub returns : goal.returns
returns c =
    let l = c.loop in
    let n = c.args.n in
    let w = c.args.w in
    let i25 : l.counter ≡ 25 = let h = c.loop-test.false in let k = l.auto.counter-end in omega arith in
    let t : Taken n w 25 l.root l.rest l.tail = rw i25 at l.invariant in
    let f = finish n w 25 l.root l.rest l.tail t in
    let d = t.digits in
    (f.0, (f.1, omega arith))
