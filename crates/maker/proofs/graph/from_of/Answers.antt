-- `graph::from_of` meets its contract.
use Rattle.maker.proofs.Edges.{leaves_below, leaves_above}
use Rattle.maker.proofs.graph.from_of.Goals as goal

pub returns-then-edge : goal.returns-then-edge
returns-then-edge c = leaves_below _ c.if-edge.true

pub returns : goal.returns
returns c = leaves_above _ c.if-edge.false
