-- `pages::paged_address` meets its contract.
use Rattle.text_line.proofs.LineLaws.{both}
use Rattle.listing.proofs.pages.paged_address.Goals as goal

pub returns : goal.returns
returns c = both c.page_text.ensures c.address.ensures
