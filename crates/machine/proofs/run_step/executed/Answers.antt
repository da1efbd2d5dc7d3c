-- `run_step::executed` meets its contract.
use Rattle.machine.proofs.Stops.{executed_done, executed_stopped}
use Rattle.machine.proofs.run_step.executed.Goals as goal

pub returns-in-Ok : goal.returns-in-Ok
returns-in-Ok c = λ pairs.
    (
    rw (c.done.ensures _ _ pairs _, c.cycles_in.ensures)
    (executed_done _ _ _ _ _ _ _ _ _ _ pairs _ c.execute_word.ensures _ c.in-Ok.is))

pub returns-in-Err : goal.returns-in-Err
returns-in-Err c = λ pairs.
    (
    rw (c.stopped.ensures _ _ pairs _, c.stop_at.ensures)
    (executed_stopped _ _ _ _ _ _ _ _ _ _ pairs _ c.execute_word.ensures _ c.in-Err.is))
