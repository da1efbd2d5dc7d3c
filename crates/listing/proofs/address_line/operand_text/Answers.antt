-- `address_line::operand_text` meets its contract.
use borrow.Author.Tests.{lt-leb}
use Rattle.listing.specs.AddressLine.{operand_byte_text}
use Rattle.text_line.proofs.LineLaws.{both}
use Rattle.listing.proofs.address_line.operand_text.Goals as goal

pub returns : goal.returns
unfolding operand_byte_text
returns c =
    let more = lt-leb _ _ c.if-length-offset.false in
    rw (more, ← c.forward.ensures, ← c.rom_in.ensures)
    (both c.letter.ensures c.rom_text.ensures)
