-- `address_line::address_line` meets its contract.
use Prim.Native.Nat.{◌+◌}
use native.Mathlib.Omega.{arith}
use mathlib.Core.Path.{◌≡◌, ap, ◌∙◌}
use lib.ListN.{length}
use Rattle.isa.specs.RoundTrip.{Bytes}
use Rattle.listing.specs.AddressLine.{address_line}
use Rattle.listing.specs.Pages.{page_text}
use Rattle.listing.specs.Pieces.{Holds}
use Rattle.listing.proofs.Fits.{line_fits, page_fits}
use Rattle.text_line.proofs.LineLaws.{empty, pads, then, whole}
use Rattle.listing.proofs.address_line.address_line.Goals as goal

pub returns : goal.returns
unfolding address_line
returns c =
    let image = c.args.image.now in
    let certificate = c.args.certificate.now in
    let bank = c.args.bank in
    let address = c.args.address in
    let paged = then (empty c.new.ensures) c.page_text-paged.ensures in
    let few = page_fits (length image) bank address in
    let wide : c.length-wide.result ≡ length (page_text (length image) bank address) =
    c.length-wide.ensures.counted ∙ ap length (whole paged (omega arith)) in
    let begun = then (then paged c.address.ensures) c.word-begun.ensures in
    let coded = then begun c.code-coded.ensures in
    let padded = pads (c.length-wide.result + 15) (omega arith) coded c.spaces_to.ensures in
    let text = then padded c.standing_text-text.ensures in
    let marked = then (pads (c.length-wide.result + 33) (omega arith) text c.spaces_to-2.ensures) c.mark_text.ensures in
    let bytes : Bytes image = λ j. (c.type_inv.image j).fits in
    let fits = line_fits image bytes bank certificate address in
    let line : Holds (address_line image bank certificate address) c.mark_text.result =
    rw (← c.decode-decoded.ensures, ← c.length_of.ensures, ← wide) marked in
    whole line (omega arith)
