-- `roots::root_bits` meets its contract, by the laws of `proofs/Assemble.antt`. Assumes nothing.
use mathlib.Core.Path.{◌≡◌, sym}
use Prim.Native.Nat.{ℕ, ◌+◌, ◌-◌, ◌*◌, ◌/◌, ◌%◌, ◌^◌, ◌≤◌, ◌<◌}
use native.Mathlib.Omega.{arith}
use Rattle.roots.proofs.Assemble.{Ranges, ranges, moved, lower, upper, all_digits, nearest}
use Rattle.roots.proofs.root_bits.Goals as goal
use Rattle.roots.proofs.root_bits.Goals.{After-normalise-x}

within : (c : After-normalise-x) → Ranges c.args.n c.normalise-x.result.exponent
within c = ranges c.args.n c.normalise-x.result.exponent c.requires.0 c.normalise-x.ensures.1.1.1

-- the significand as it is handed on
abbrev lifted : (c : After-normalise-x) → ℕ
lifted c = 1 + (c.normalise-x.result.exponent + 149 * (c.args.n - 1) - 24) % c.args.n

shifted : (c : After-normalise-x) → (c.normalise-x.result.significand * 2 ^ lifted c % 18446744073709551616 ≡ c.normalise-x.result.significand * 2 ^ lifted c) × (c.normalise-x.result.significand * 2 ^ lifted c < 2 ^ (24 + c.args.n))
shifted c = moved c.args.n c.normalise-x.result.significand (lifted c) c.normalise-x.ensures.1.1.0 (within c).left_over (within c).degree_le

pub root_digits-h-requires : goal.root_digits-h-requires
root_digits-h-requires c = let b = c.before.before in (b.requires.0, rw (shifted b).0 (shifted b).1)

pub returns : goal.returns
returns c =
    let b = c.before.before.before.before in
    let n = b.args.n in
    let m = b.args.bits in
    let s = b.normalise-x.result.significand in
    let e = b.normalise-x.result.exponent in
    let w = s * 2 ^ lifted b % 18446744073709551616 in
    let h = c.root_digits-h.result in
    let z = c.zeros.result in
    let r = within b in
    let g = e + 149 * (n - 1) - 24 in
    let g-is : g + 24 ≡ e + 149 * (n - 1) = let k = r.enough in omega arith in
    let enough : z ≤ g / n = let k = r.least_group in let l = c.zeros.ensures.1 in omega arith in
    let low = lower n m s e w h z r.positive b.normalise-x.ensures.0 b.normalise-x.ensures.1.0 g g-is (shifted b).0 c.root_digits-h.ensures.0 c.root_digits-h.ensures.1.0 c.zeros.ensures.0 enough in
    let high = upper n m s e w h z r.positive b.normalise-x.ensures.0 b.normalise-x.ensures.1.0 g g-is (shifted b).0 c.root_digits-h.ensures.0 c.root_digits-h.ensures.1.0 c.zeros.ensures.0 enough in
    let full = all_digits n m s e w h z r.positive b.normalise-x.ensures.0 b.normalise-x.ensures.1.0 g g-is (shifted b).0 c.root_digits-h.ensures.0 c.root_digits-h.ensures.1.0 c.zeros.ensures.0 enough in
    let fits = c.root_digits-h.ensures.1.1 in
    let most = r.most_group in
    (sym (nearest n m h (g / n - z) r.positive low high full fits (omega arith)), omega arith)
