-- `instruction::bit_jump` meets its contract.
use Rattle.text_line.proofs.LineLaws.{both}
use Rattle.listing.proofs.instruction.bit_jump.Goals as goal

pub returns : goal.returns
returns c = both c.on_bit.ensures c.jump.ensures
