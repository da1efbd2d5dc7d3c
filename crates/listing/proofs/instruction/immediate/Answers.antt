-- `instruction::immediate` meets its contract.
use Rattle.text_line.proofs.LineLaws.{both}
use Rattle.listing.proofs.instruction.immediate.Goals as goal

pub returns : goal.returns
returns c = both c.word.ensures c.data.ensures
