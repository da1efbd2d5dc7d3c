-- `pages::page_text` meets its contract.
use borrow.Author.Tests.{lt-leb}
use Rattle.listing.specs.Pages.{page_text}
use Rattle.text_line.proofs.LineLaws.{both}
use Rattle.listing.proofs.pages.page_text.Goals as goal

pub returns : goal.returns
unfolding page_text
returns c =
    rw (
      ← c.choices_in-pages.ensures,
      lt-leb _ _ c.if-pages-le1.false,
      lt-leb _ _ c.if-address-ge2048.false,
    )
    (both c.decimal.ensures c.letter.ensures)
