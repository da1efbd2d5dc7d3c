-- `instruction::jump` meets its contract.
use Rattle.text_line.proofs.LineLaws.{both}
use Rattle.listing.proofs.instruction.jump.Goals as goal

pub returns : goal.returns
returns c =
    both c.word.ensures (both c.address.ensures c.letter.ensures)
