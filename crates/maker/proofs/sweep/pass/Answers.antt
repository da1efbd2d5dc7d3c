-- `sweep::pass` meets its contract.
use Rattle.maker.proofs.Rising.{impossible, stopped}
use Rattle.maker.proofs.Sweeps.{finishes}
use Rattle.maker.proofs.sweep.pass.Goals as goal

pub returns-in_err-seeded : goal.returns-in_err-seeded
returns-in_err-seeded c =
    rw (impossible c.from_residual.result c.from_residual.ensures.0)
    (stopped (c.in_err-seeded.ensures _ c.requires))

pub returns-in_err-swept : goal.returns-in_err-swept
returns-in_err-swept c =
    rw (impossible c.from_residual-in_err-swept.result c.from_residual-in_err-swept.ensures.0)
    (finishes c.requires c.in_ok-seeded.ensures c.in_err-swept.ensures)

pub returns : goal.returns
returns c = finishes c.requires c.in_ok-seeded.ensures c.in_ok-swept.ensures
