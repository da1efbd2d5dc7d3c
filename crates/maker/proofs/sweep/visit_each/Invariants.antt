-- `sweep::visit_each` meets its contract: the address has been visited with the pages below the next one.
use Rattle.std.specs.Prelude.{Ok}
use Rattle.maker.specs.Making.{RunsAt}
use Rattle.maker.proofs.Sweeps.{EachBelow}
use Rattle.maker.proofs.sweep.visit_each.Given as goal

abbrev pub invariant-loop-page : goal.invariant-loop-page
invariant-loop-page l =
    EachBelow l.image (λ k. RunsAt l.image k l.address) l.initial.certificate l.certificate l.page (Ok l.changed)
