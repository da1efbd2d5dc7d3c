-- `advance::taken` meets its contract.
use Rattle.control.proofs.Stopped.{take_stops}
use Rattle.machine.specs.Advance.{taken_of}
use Rattle.machine.proofs.Stops.{taken_done, taken_stopped}
use Rattle.machine.proofs.advance.taken.Goals as goal

pub returns-in-Ok : goal.returns-in-Ok
unfolding taken_of
returns-in-Ok c = λ bytes pairs.
    (
    rw (c.done.ensures bytes _ pairs _)
    (taken_done _ _ _ _ _ c.take.ensures _ c.in-Ok.is))

pub returns-in-Err : goal.returns-in-Err
unfolding taken_of
returns-in-Err c = λ bytes pairs.
    (
    rw (c.stopped.ensures bytes _ pairs _, c.stop_at.ensures)
    (taken_stopped _ _ _ _ _ c.take.ensures (take_stops _ _ _).kept _ c.in-Err.is))
