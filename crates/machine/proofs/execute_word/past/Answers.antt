-- `execute_word::past` meets its contract.
use Rattle.machine.proofs.execute_word.past.Goals as goal

pub returns : goal.returns
returns c = λ bytes stack.
    rw (c.goes_on.ensures bytes stack, c.with_pc.ensures, c.forward-next.ensures)
