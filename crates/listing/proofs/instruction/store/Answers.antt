-- `instruction::store` meets its contract.
use Rattle.text_line.proofs.LineLaws.{both}
use Rattle.listing.proofs.instruction.store.Goals as goal

pub returns : goal.returns
returns c = both c.on_operand.ensures c.word.ensures
