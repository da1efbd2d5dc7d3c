-- `spread::explore` meets its contract.
use Rattle.std.specs.Prelude.{Ok}
use Rattle.maker.specs.Making.{Explored}
use Rattle.maker.proofs.spread.explore.Given as goal

abbrev pub invariant-loop : goal.invariant-loop
invariant-loop g l =
    Explored l.image l.initial.certificate l.certificate l.initial.graph.edges l.graph.edges (Ok l.changed)
