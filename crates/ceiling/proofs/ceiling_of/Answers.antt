-- `ceiling::ceiling_of` meets its contract: the loop keeps the turns that are left from the ceiling so far. Assumes nothing.
use mathlib.Core.Path.{◌≡◌, refl, ap, ◌∙◌}
use Prim.Native.Nat.{ℕ, ◌*◌, ◌/◌, ◌%◌, ◌≤◌, ◌<◌}
use native.Mathlib.Nat.{mod-lt, div-lt_iff_lt-mul}
use native.Mathlib.Omega.{arith}
use mathlib.Core.Bool.{true, cond}
use mathlib.Core.List.{List}
use lib.Ieee.{Float}
use Rattle.gamut.specs.Table.{row_at}
use Rattle.gamut.proofs.Table.{levels_by}
use Rattle.pair_rules.specs.Rows.{lesser, largest}
use Rattle.search_rules.specs.declared.Settings.{Settings}
use Rattle.search_rules.specs.declared.Job.{Job}
use Rattle.search_rules.specs.Job.{qualifies, unbroken}
use Rattle.search_rules.proofs.Unbroken.{sound, square}
use Rattle.search_rules.proofs.Turns.{one_taken, all_taken}
use Rattle.ceiling_rules.specs.Ceiling.{Ceiling, top_at, raised, with_pair, ceiling_from, ceiling_of, ceiling_said}
use Rattle.ceiling.proofs.ceiling_of.Goals as goal

-- one more turn, by what the two rows have
module _ (s : Settings) (t : List Float) (m p : ℕ) (x y : Float) (so next : Ceiling) where
  turned : x ≡ largest (row_at t (p / m)) → y ≡ largest (row_at t (p % m)) → next ≡ cond (qualifies s (p / m) (p % m)) (raised (lesser x y) so) so → next ≡ with_pair s t m p so
  unfolding with_pair top_at
  turned e f g = g ∙ ap (λ (z : Float). cond (qualifies s (p / m) (p % m)) (raised z so) so) (ap (λ (z : Float). lesser z y) e ∙ ap (lesser (largest (row_at t (p / m)))) f)

pub tops_of-tops-requires : goal.tops_of-tops-requires
tops_of-tops-requires c =
    let l = c.requires.looked in
    let levels = levels_by c.args.table.now c.args.job.levels l.long in
    let few = (sound c.args.job l.whole).few_levels in
    record { few = omega arith; long = rw levels l.long; entries = l.entries; f32 = c.requires.f32 }

pub overflow_mul-p-end : goal.overflow_mul-p-end
overflow_mul-p-end c =
    let j = c.args.job in
    let q = square j.levels (sound j c.requires.looked.whole).few_levels in
    omega arith

pub loop-p-init : goal.loop-p-init
unfolding ceiling_from
loop-p-init c = refl

-- in the loop: not too many levels, and two of them
inside : (j : Job) (p : ℕ) → unbroken j ≡ true → p < j.levels * j.levels → (j.levels ≤ 169) × (p / j.levels < j.levels) × (p % j.levels < j.levels)
inside j p whole test =
    let ok = sound j whole in
    (ok.few_levels, (div-lt_iff_lt-mul ok.some_level).1 test, mod-lt p ok.some_level)

pub bounds-tops-dark : goal.bounds-tops-dark
bounds-tops-dark c = let i = inside c.args.job c.loop-p.p c.requires.looked.whole c.loop-p-test.true in let few = i.0 in let d = i.1 in omega arith

pub bounds-tops-light : goal.bounds-tops-light
bounds-tops-light c = let i = inside c.args.job c.loop-p.p c.requires.looked.whole c.loop-p-test.true in let few = i.0 in let l = i.2 in omega arith

pub with_pair-ceiling-requires : goal.with_pair-ceiling-requires
with_pair-ceiling-requires c = let i = inside c.args.job c.loop-p.p c.requires.looked.whole c.loop-p-test.true in let few = i.0 in let d = i.1 in let l = i.2 in (omega arith, omega arith)

pub loop-p-preserved : goal.loop-p-preserved
loop-p-preserved c =
    let j = c.args.job in
    let t = c.args.table.now in
    let m = j.levels in
    let p = c.loop-p.p in
    let so = ceiling_said c.loop-p.ceiling in
    let i = inside j p c.requires.looked.whole c.loop-p-test.true in
    let levels = levels_by t m c.requires.looked.long in
    let filled = c.tops_of-tops.ensures.filled in
    let next = turned j.settings t m p _ _ so (ceiling_said c.with_pair-ceiling.result) (filled (p / m) (let d = i.1 in omega arith)) (filled (p % m) (let l = i.2 in omega arith)) c.with_pair-ceiling.ensures in
    one_taken (with_pair j.settings t m) (m * m) p so (ceiling_said c.with_pair-ceiling.result) (ceiling_of j t) c.loop-p-test.true next c.loop-p.invariant

pub returns : goal.returns
returns c =
    let j = c.args.job in
    all_taken (with_pair j.settings c.args.table.now j.levels) (j.levels * j.levels) c.loop-p.p (ceiling_said c.loop-p.ceiling) _ c.loop-p-test.false c.loop-p.invariant
