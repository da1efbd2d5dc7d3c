-- `spread::explore_at` meets its contract.
use Rattle.std.specs.Prelude.{Ok}
use Rattle.maker.specs.Making.{Explored}
use Rattle.maker.proofs.spread.explore_at.Given as goal

abbrev pub invariant-loop-page : goal.invariant-loop-page
invariant-loop-page g l =
    Explored l.image l.initial.certificate l.certificate l.initial.graph.edges l.graph.edges (Ok l.changed)
