-- `run::requests_fit` meets its contract.
use borrow.Author.Rules.{rules}
use borrow.Author.Tests.{tests}
use mathlib.Core.Path.{◌≡◌}
use mathlib.Core.Bool.{true, false}
use Rattle.std.proofs.lemmas.Iterator.{cases_from_all, YieldsList-from_slice, YieldsList-from_take}
use Rattle.isa.specs.Sources.{names_only_sources}
use Rattle.machine.proofs.StepByStep.{fit_taken}
use Rattle.machine.proofs.run.requests_fit.Goals as goal

pub returns : goal.returns
returns c =
    let a = c.args in
    fit_taken a.requests.now a.n _
    (cases_from_all _ _ _ (λ q. names_only_sources q ≡ true) (λ q. names_only_sources q ≡ false) c.all.ensures.ran
    (YieldsList-from_take a.n (YieldsList-from_slice a.requests.now cc) cc)
    (λ x q k. search (rules, tests)) (λ x q k. search (rules, tests)))
