-- A page is laid out exactly for a record that is not broken, each of its ranges written out, and a buffer with room for the page (`page_exactly`). Assumes nothing.
use mathlib.Core.Path.{◌≡◌}
use mathlib.Core.Logic.{◌↔◌}
use mathlib.Core.List.{List, [], ◌∷◌}
use Prim.Native.Nat.{ℕ, ◌≤◌}
use native.Mathlib.Omega.{arith}
use lib.Dec.{leb}
use lib.ListN.{length}
use borrow.Author.Tests.{leb-true, le-leb}
use Rattle.limits.specs.Answers.{value}
use Rattle.limits.proofs.Checks.{Check, check, all_pass, said}
use Rattle.search_rules.specs.declared.Job.{Job}
use Rattle.search_rules.specs.Job.{unbroken}
use Rattle.search_rules.specs.Accepted.{Unbroken}
use Rattle.search_rules.proofs.Unbroken.{unbroken_exactly}
use Rattle.page.specs.Page.{page_of, bytes_with, page_says}
use Rattle.page.proofs.Rows.{page_long}

module _ (j : Job) (size : ℕ) (long : length j.hues ≡ 16) where
  abbrev checks : List Check
  checks = check (unbroken j) 15 ∷ check (leb (length (page_of j)) size) 19 ∷ []

  only : (n : ℕ) → page_says j size ≡ value n → Unbroken j × (bytes_with j.settings.k j.best ≤ size)
  unfolding page_says
  only n e =
      let p = (all_pass checks (value (length (page_of j))) n e).0 in
      let l = page_long j long p.0 in
      let m = leb-true (length (page_of j)) size p.1.0 in
      ((unbroken_exactly j).0 p.0, omega arith)

  given : Unbroken j → bytes_with j.settings.k j.best ≤ size → page_says j size ≡ value (length (page_of j))
  unfolding page_says
  given u h =
      let w = (unbroken_exactly j).1 u in
      let l = page_long j long w in
      said checks (value (length (page_of j))) (w, (le-leb (length (page_of j)) size (omega arith), tt))

  pub page_exactly : ((n : ℕ) × (page_says j size ≡ value n)) ↔ (Unbroken j × (bytes_with j.settings.k j.best ≤ size))
  page_exactly = (
    λ (a : (n : ℕ) × (page_says j size ≡ value n)). only a.0 a.1,
    λ (h : Unbroken j × (bytes_with j.settings.k j.best ≤ size)). (length (page_of j), given h.0 h.1),
  )
