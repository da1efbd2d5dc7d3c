-- `instruction::on_operand` meets its contract.
use Rattle.text_line.proofs.LineLaws.{both}
use Rattle.listing.proofs.instruction.on_operand.Goals as goal

pub returns : goal.returns
returns c = both c.word.ensures c.data_operand.ensures
