-- `spread::find_vectors` meets its contract: it notes no edge.
use Rattle.std.specs.Prelude.{◌≡◌}
use Rattle.maker.proofs.spread.find_vectors.Given as goal

abbrev pub invariant-loop-source : goal.invariant-loop-source
invariant-loop-source g l = l.graph.edges ≡ l.initial.graph.edges
