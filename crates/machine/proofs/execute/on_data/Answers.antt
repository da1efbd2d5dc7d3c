-- `execute::on_data` meets its contract.
use Rattle.machine.proofs.execute.on_data.Goals as goal

pub returns : goal.returns
returns c = λ stack.
    (
    rw (c.goes_on.ensures _ stack, c.with_pc.ensures, c.effect-after.ensures c.requires))
