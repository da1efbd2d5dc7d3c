-- `spread::spread_by` meets its contract.
use Rattle.maker.proofs.Rising.{impossible}
use Rattle.maker.proofs.Edges.{explored_more, spreads}
use Rattle.maker.proofs.spread.spread_by.Goals as goal

pub returns-in_err-explored : goal.returns-in_err-explored
returns-in_err-explored g c =
    rw (impossible c.from_residual.result c.from_residual.ensures.0)
    (spreads (rw (← c.find_vectors.ensures) at c.requires.1) c.in_err-explored.ensures)

pub returns-in_err-raised : goal.returns-in_err-raised
returns-in_err-raised g c =
    rw (impossible c.from_residual-in_err-raised.result c.from_residual-in_err-raised.ensures.0)
    (spreads (rw (← c.find_vectors.ensures) at c.requires.1)
    (explored_more c.in_ok-explored.ensures (c.in_err-raised.ensures c.args.image.now)))

pub returns : goal.returns
returns g c =
    spreads (rw (← c.find_vectors.ensures) at c.requires.1)
    (explored_more c.in_ok-explored.ensures (c.in_ok-raised.ensures c.args.image.now))
