-- `spread::explore` meets its contract.
use Rattle.maker.proofs.Rising.{impossible}
use Rattle.maker.proofs.Edges.{explored_more}
use Rattle.maker.proofs.spread.explore.Goals as goal

pub returns-in_err-changed : goal.returns-in_err-changed
returns-in_err-changed g c =
    rw (impossible c.from_residual.result c.from_residual.ensures.0)
    (explored_more c.loop.invariant c.in_err-changed.ensures)

pub loop-preserved : goal.loop-preserved
loop-preserved g c = explored_more c.loop.invariant c.in_ok-changed.ensures
