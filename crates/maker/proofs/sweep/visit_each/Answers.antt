-- `sweep::visit_each` meets its contract: the address has been visited with the pages below the next one.
use native.Mathlib.Omega.{arith}
use Rattle.maker.specs.Making.{RunsAt}
use Rattle.maker.proofs.Rising.{impossible, stopped}
use Rattle.maker.proofs.Sweeps.{each_more, pages_all}
use Rattle.maker.proofs.sweep.visit_each.Goals as goal

pub returns-in_err-changed : goal.returns-in_err-changed
returns-in_err-changed c =
    rw (impossible c.from_residual.result c.from_residual.ensures.0)
    (λ w s. stopped (each_more (λ k. RunsAt c.args.image.now k c.args.address) c.loop-page.invariant (λ w s. (c.in_err-changed.ensures w s).0) w s))

pub loop-page-preserved : goal.loop-page-preserved
loop-page-preserved c = each_more (λ k. RunsAt c.args.image.now k c.args.address) c.loop-page.invariant (λ w s. (c.in_ok-changed.ensures w s).0)

pub returns : goal.returns
returns c = pages_all (omega (arith, c.spaces_in-page-end.ensures c.requires)) c.loop-page.invariant
