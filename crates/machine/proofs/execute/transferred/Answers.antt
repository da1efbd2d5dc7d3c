-- `execute::transferred` meets its contract.
use Rattle.machine.proofs.Stops.{goes}
use Rattle.machine.proofs.execute.transferred.Goals as goal

pub returns : goal.returns
returns c = λ bytes stack at. rw c.in_ok-to.was (goes (c.goes_on.ensures bytes stack))
