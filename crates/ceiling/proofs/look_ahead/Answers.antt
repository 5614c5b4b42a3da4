-- `ceiling::look_ahead` meets its contract: the check says what is refused, and the rest is the best so far with the ceiling. Assumes nothing.
use mathlib.Core.Path.{◌≡◌, sym, ap, ◌∙◌}
use mathlib.Core.List.{List}
use Prim.Native.Nat.{ℕ}
use lib.Ieee.{Float, nan}
use Rattle.std.proofs.lemmas.Result.{err_from_is_err_and}
use Rattle.limits.specs.Answers.{value, refused, pass}
use Rattle.limits.specs.Each.{F32}
use Rattle.limits.proofs.Lists.{each_at}
use Rattle.limits.proofs.Checks.{AllPass, all_pass, said, failing}
use Rattle.search_rules.specs.declared.Job.{Job}
use Rattle.ceiling_rules.specs.Ceiling.{Ceiling, ceiling_of, outlook_checked, outlook_says}
use Rattle.ceiling_rules.proofs.Accepted.{look_checks, look_passed}
use Rattle.ceiling.proofs.look_ahead.Goals as goal

-- ---- by what the check found
module _ (j : Job) (t : List Float) where
  refusing : (n : ℕ) → refused n ≡ outlook_checked j t pass → refused n ≡ outlook_says j t
  unfolding outlook_says outlook_checked
  refusing n h = sym (failing (look_checks j t) (value (j.best, ceiling_of j t)) tt n (sym h))

  all : pass ≡ outlook_checked j t pass → AllPass (look_checks j t)
  unfolding outlook_checked
  all h = (all_pass (look_checks j t) pass tt (sym h)).0

  passing : pass ≡ outlook_checked j t pass → value (j.best, ceiling_of j t) ≡ outlook_says j t
  unfolding outlook_says outlook_checked
  passing h = sym (said (look_checks j t) (value (j.best, ceiling_of j t)) (all h))

pub ceiling_of-requires : goal.ceiling_of-requires
ceiling_of-requires c =
    let a = c.args in
    record { looked = look_passed a.job a.table.now (all a.job a.table.now c.in_ok-check.ensures); f32 = each_at F32 nan a.table.now c.type_inv.table }

pub returns-in_err-check : goal.returns-in_err-check
returns-in_err-check c = let p = err_from_is_err_and c.from_residual.result c.from_residual.ensures.1 in rw (p.1, p.2) (refusing c.args.job c.args.table.now _ c.in_err-check.ensures)

pub returns : goal.returns
returns c =
    let a = c.args in
    ap (λ (x : Ceiling). value (a.job.best, x)) c.ceiling_of.ensures ∙ passing a.job a.table.now c.in_ok-check.ensures
