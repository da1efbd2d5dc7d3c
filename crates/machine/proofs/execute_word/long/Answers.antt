-- `execute_word::long` meets its contract.
use borrow.Author.Rules.{rules}
use Rattle.machine.proofs.execute_word.long.Goals as goal

pub returns : goal.returns
returns c = λ bytes stack.
    rw (
      c.goes_on.ensures bytes stack,
      c.branch-c.ensures,
      c.forward.ensures,
      c.long_target.ensures,
    )
    (search rules)
