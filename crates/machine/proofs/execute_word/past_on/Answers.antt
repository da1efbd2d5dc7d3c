-- `execute_word::past_on` meets its contract.
use Rattle.machine.proofs.execute_word.past_on.Goals as goal

pub returns : goal.returns
returns c = λ bytes stack. rw (c.past.ensures bytes stack, c.length_with.ensures)
