-- `execute_word::short` meets its contract.
use borrow.Author.Rules.{rules}
use Rattle.machine.proofs.execute_word.short.Goals as goal

pub returns : goal.returns
returns c = λ bytes stack.
    rw (
      c.goes_on.ensures bytes stack,
      c.branch-c.ensures,
      c.forward.ensures,
      c.short_target.ensures,
    )
    (search rules)
