-- `search::take_steps` meets its contract: each turn takes one of the steps that are left. Assumes nothing.
use mathlib.Core.Path.{◌≡◌, ap, ◌∙◌}
use mathlib.Core.List.{List}
use Prim.Native.Nat.{ℕ, suc, ◌+◌, ◌-◌}
use native.Mathlib.Omega.{arith}
use lib.Ieee.{Float}
use lib.ListN.{length}
use Rattle.search_rules.specs.declared.Job.{Job}
use Rattle.search_rules.specs.Job.{job_after, step_says, steps_from}
use Rattle.search.proofs.take_steps.Goals as goal

-- no step is left, and one is
all_taken : (n : ℕ) (j : Job) (table : List Float) (room : ℕ) → n ≡ 0 → j ≡ steps_from n j table room
unfolding steps_from
all_taken n j table room e = rw e

one_taken : (n m : ℕ) (j next : Job) (table : List Float) (room : ℕ) → n ≡ suc m → next ≡ job_after j (step_says j table room) → steps_from m next table room ≡ steps_from n j table room
unfolding steps_from
one_taken n m j next table room e f = rw (e, f)

pub loop-preserved : goal.loop-preserved
loop-preserved c =
    let a = c.args in
    let i = c.loop.counter in
    let fewer : a.count - i ≡ suc (a.count - (i + 1)) = omega arith in
    let next = c.step.ensures.gives.job_is ∙ ap (λ (room : ℕ). job_after c.loop.job (step_says c.loop.job a.table.now room)) c.loop.auto.work in
    one_taken (a.count - i) (a.count - (i + 1)) c.loop.job c.step.new.job a.table.now (length a.work.now) fewer next ∙ c.loop.invariant

pub returns : goal.returns
returns c =
    let a = c.args in
    let none : a.count - c.loop.counter ≡ 0 = omega arith in
    all_taken (a.count - c.loop.counter) c.loop.job a.table.now (length a.work.now) none ∙ c.loop.invariant
