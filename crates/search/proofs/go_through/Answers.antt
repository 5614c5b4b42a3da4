-- `search::go_through` meets its contract: each answer of the pair is carried over to the job. Assumes nothing.
use mathlib.Core.Path.{◌≡◌, sym, ap, ◌∙◌}
use native.Mathlib.Omega.{arith}
use Rattle.limits.specs.Answers.{value}
use Rattle.limits.proofs.Checks.{said_twice}
use Rattle.search_rules.specs.declared.Job.{Job}
use Rattle.search_rules.specs.Job.{moved_on, searched}
use Rattle.search_rules.proofs.Unbroken.{sound}
use Rattle.search.proofs.Going.{passed_over, went_refused, went_nowhere, went_better, went_worse}
use Rattle.search.proofs.Giving.{accepting, passing_on}
use Rattle.search.proofs.go_through.Goals as goal
use Rattle.search.proofs.go_through.Goals.{then-qualifies+in_ok-chosen+in-Some+then-beats, then-qualifies+in_ok-chosen+in-Some+else-beats, then-qualifies+in_ok-chosen+in_default, else-qualifies}

pub overflow_cast-dark : goal.overflow_cast-dark
overflow_cast-dark c =
    let few = (sound c.args.job.now c.requires.sound).few_levels in
    omega (arith, c.requires.dark_in)

pub overflow_cast-light : goal.overflow_cast-light
overflow_cast-light c =
    let few = (sound c.args.job.now c.requires.sound).few_levels in
    omega (arith, c.requires.light_in)

pub returns-in_err-chosen-clause-gives : goal.returns-in_err-chosen-clause-gives
returns-in_err-chosen-clause-gives c =
    let a = c.args in
    let far = sym c.qualifies.ensures ∙ c.if-qualifies.true in
    let w = c.in_err-chosen.field-0.0 in
    passing_on a.job.now c.from_residual.result w c.from_residual.ensures.1 (went_refused a.job.now a.table.now a.dark a.light far w c.in_err-chosen.ensures.gives)

pub returns : goal.returns
returns c =
    let a = c.args in
    let j = a.job.now in
    let t = a.table.now in
    let moved = λ (j : Job). value (moved_on j) in
    let e : searched j t a.dark a.light ≡ value (moved_on c.if-qualifies.job) = elim c.if-qualifies.branch [
      | then-qualifies+in_ok-chosen+in-Some+then-beats w ↦
          went_better j t a.dark a.light (sym c.qualifies.ensures ∙ w.if-qualifies.true) w.in_ok-chosen.field-0 w.in_ok-chosen.ensures.gives w.in-Some.chosen w.in-Some.is (sym w.beats.ensures ∙ w.if-beats.true)
          ∙ ap moved (sym w.job-is)
      | then-qualifies+in_ok-chosen+in-Some+else-beats w ↦
          went_worse j t a.dark a.light (sym c.qualifies.ensures ∙ w.if-qualifies.true) w.in_ok-chosen.field-0 w.in_ok-chosen.ensures.gives w.in-Some.chosen w.in-Some.is (sym w.beats.ensures ∙ w.if-beats.false)
          ∙ ap moved (sym w.job-is)
      | then-qualifies+in_ok-chosen+in_default w ↦
          went_nowhere j t a.dark a.light (sym c.qualifies.ensures ∙ w.if-qualifies.true) w.in_ok-chosen.field-0 w.in_ok-chosen.ensures.gives w.in_default.is ∙ ap moved (sym w.job-is)
      | else-qualifies w ↦ passed_over j t a.dark a.light (sym c.qualifies.ensures ∙ w.if-qualifies.false) ∙ ap moved (sym w.job-is)
    ] in
    record { gives = accepting j e; untouched = λ w again. said_twice e again }
