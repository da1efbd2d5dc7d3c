-- `pages::rom_in` meets its contract.
use mathlib.Core.Path.{◌∙◌, sym}
use Rattle.isa.specs.Rom.{Halves, space_of}
use Rattle.isa.proofs.Halves.{halves}
use Rattle.listing.specs.Pages.{rom_in}
use Rattle.listing.proofs.PageLaws.{no_rom}
use borrow.Author.Rules.{rules}
use Rattle.listing.proofs.pages.rom_in.Goals as goal

pub returns-then-address-ge4096 : goal.returns-then-address-ge4096
returns-then-address-ge4096 c = sym (no_rom c.args.image.now c.args.bank c.args.address c.if-address-ge4096.true)

pub returns : goal.returns
unfolding rom_in space_of
returns c =
    let is = sym c.is_image_length.ensures ∙ c.if-not-is_image_length.false in
    let space = c.of in
    let parts : Halves space.result.page.now space.result.fixed.now =
    rw (space.ensures.page, space.ensures.fixed) (halves c.args.image.now c.args.bank is) in
    rw (is, ← space.ensures.page, ← space.ensures.fixed) (c.byte.ensures parts (search rules))
