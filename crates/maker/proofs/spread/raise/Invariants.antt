-- `spread::raise` meets its contract.
use Rattle.std.specs.Prelude.{Ok}
use Rattle.maker.specs.Making.{Raised}
use Rattle.maker.proofs.spread.raise.Given as goal

abbrev pub invariant-loop : goal.invariant-loop
invariant-loop g l =
    Raised l.initial.certificate l.certificate l.initial.graph.edges l.graph.edges (Ok l.changed)
