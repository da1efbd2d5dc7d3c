-- `instruction::on_bit` meets its contract.
use Rattle.text_line.proofs.LineLaws.{both}
use Rattle.listing.proofs.instruction.on_bit.Goals as goal

pub returns : goal.returns
returns c =
    both c.word.ensures
    (both c.decimal-numbered.ensures (both c.letter.ensures c.data.ensures))
