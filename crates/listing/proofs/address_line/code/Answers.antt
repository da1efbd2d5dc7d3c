-- `address_line::code` meets its contract.
use Rattle.listing.specs.AddressLine.{code_text}
use Rattle.text_line.proofs.LineLaws.{both}
use Rattle.listing.proofs.address_line.code.Goals as goal

pub returns : goal.returns
unfolding code_text
returns c =
    rw (← c.rom_in.ensures)
    (both c.rom_text-opcode.ensures (both c.operand_text-first.ensures c.operand_text.ensures))
