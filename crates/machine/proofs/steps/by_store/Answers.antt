-- `steps::by_store` meets its contract.
use borrow.Author.Rules.{rules}
use Rattle.machine.proofs.Store.{coherent_none}
use Rattle.machine.proofs.steps.by_store.Goals as goal

pub all_steps-requires : goal.all_steps-requires
all_steps-requires c = (
  c.requires.0,
  c.requires.1,
  c.requires.2,
  c.requires.3,
  search rules,
  coherent_none c.args.image.now 64,
)

pub all_steps-requires-2 : goal.all_steps-requires-2
all_steps-requires-2 c = (
  c.requires.0,
  c.requires.1,
  c.requires.2,
  c.requires.3,
  search rules,
  coherent_none c.args.image.now 4096,
)
