-- `address_line::mark_text` meets its contract.
use Rattle.listing.specs.AddressLine.{mark_text}
use Rattle.text_line.proofs.LineLaws.{both}
use Rattle.listing.proofs.address_line.mark_text.Goals as goal

pub returns : goal.returns
unfolding mark_text
returns c =
    let byte = both c.byte.ensures c.word.ensures in
    rw (← c.mark_at-mark.ensures) (both (both byte c.kind_name-named.ensures) c.need_text.ensures)
