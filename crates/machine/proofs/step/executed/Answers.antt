-- `step::executed` meets its contract.
use Rattle.machine.proofs.Stops.{executed_done, executed_stopped}
use Rattle.machine.proofs.step.executed.Goals as goal

pub returns-in-Ok : goal.returns-in-Ok
returns-in-Ok c = λ pairs.
    (
    let after = rw c.forward-next.ensures at c.execute.ensures in
    rw (c.done.ensures _ _ pairs _)
    (executed_done _ _ _ _ _ _ _ _ _ _ pairs _ after _ c.in-Ok.is))

pub returns-in-Err : goal.returns-in-Err
returns-in-Err c = λ pairs.
    (
    let after = rw c.forward-next.ensures at c.execute.ensures in
    rw (c.stopped.ensures _ _ pairs _, c.stop_at.ensures)
    (executed_stopped _ _ _ _ _ _ _ _ _ _ pairs _ after _ c.in-Err.is))
