-- `spread::explore_one` meets its contract.
use Rattle.maker.proofs.Rising.{impossible}
use Rattle.maker.proofs.spread.explore_one.Goals as goal

pub returns-in_err-changed : goal.returns-in_err-changed
returns-in_err-changed g c = rw (impossible c.from_residual.result c.from_residual.ensures.0) c.in_err-changed.ensures
