-- `graph::Graph::note_edge` meets its contract.
use Rattle.maker.proofs.Edges.{recorded_one}
use Rattle.maker.proofs.graph.Graph.note_edge.Goals as goal

pub returns-then-earlier-eq0 : goal.returns-then-earlier-eq0
returns-then-earlier-eq0 g c = recorded_one _ _ _ _ _

pub returns-else-earlier-eq0 : goal.returns-else-earlier-eq0
returns-else-earlier-eq0 g c = recorded_one _ _ _ _ _
