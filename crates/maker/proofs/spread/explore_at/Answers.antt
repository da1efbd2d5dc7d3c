-- `spread::explore_at` meets its contract.
use Rattle.maker.proofs.Rising.{impossible}
use Rattle.maker.proofs.Edges.{explored_one, explored_kept, explored_more}
use Rattle.maker.proofs.spread.explore_at.Goals as goal

pub returns-in_err-visited : goal.returns-in_err-visited
returns-in_err-visited g c =
    rw (impossible c.from_residual.result c.from_residual.ensures.0)
    (explored_more c.loop-page.invariant (explored_kept c.in_err-visited.ensures))

pub loop-page-preserved : goal.loop-page-preserved
loop-page-preserved g c =
    explored_more c.loop-page.invariant (explored_one c.note_edges.ensures c.in_ok-visited.ensures)
