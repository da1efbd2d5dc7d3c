-- `graph::first_edge` meets its contract.
use Rattle.maker.proofs.Edges.{first_page, other_page}
use Rattle.maker.proofs.graph.first_edge.Goals as goal

pub returns-then-page-eq0 : goal.returns-then-page-eq0
returns-then-page-eq0 c = first_page _ c.requires

pub returns-then-row-ge-PAGED : goal.returns-then-row-ge-PAGED
returns-then-row-ge-PAGED c = first_page _ c.requires

pub returns : goal.returns
returns c = other_page _ _ c.requires c.if-row-ge-PAGED.false
