-- `instruction::data` meets its contract.
use Rattle.text_line.proofs.LineLaws.{both}
use Rattle.listing.proofs.instruction.data.Goals as goal

pub returns : goal.returns
returns c = both c.byte.ensures c.letter.ensures
