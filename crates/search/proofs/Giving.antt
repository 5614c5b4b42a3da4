-- What a call says, in what it gives: accepted with the job that it leaves, or refused with the job as it was. Assumes nothing.
use mathlib.Core.Path.{◌≡◌, sym, ap}
use Rattle.std.specs.Prelude.{Result, Ok, Err}
use Rattle.std.specs.Result.{IsErrAnd}
use Rattle.std.proofs.lemmas.Result.{err_from_is_err_and}
use Rattle.limits.specs.Answers.{Said, value, refused}
use Rattle.limits.specs.Refusals.{number}
use Rattle.limits.specs.declared.Refusal.{Refusal}
use Rattle.search_rules.specs.declared.Job.{Job}
use Rattle.search_rules.specs.Job.{job_after, Gives}

module _ (j : Job) {said : Said Job} where
  pub accepting : {new : Job} → said ≡ value new → Gives (Ok tt) j new said
  accepting e = record { says = sym e; job_is = sym (ap (job_after j) e) }

  pub refusing : (w : Refusal) → said ≡ refused (number w) → Gives (Err w) j j said
  refusing w e = record { says = sym e; job_is = sym (ap (job_after j) e) }

  -- by the exit of a `?`
  pub passing_on : (r : Result (Unit {0}) Refusal) (w : Refusal) → IsErrAnd r (λ e. e ≡ w) → said ≡ refused (number w) → Gives r j j said
  passing_on r w h e =
      let told = err_from_is_err_and r h in
      rw (told.1, told.2) (refusing w e)
