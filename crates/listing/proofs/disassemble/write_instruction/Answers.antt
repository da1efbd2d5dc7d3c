-- `disassemble::write_instruction` meets its contract.
use native.Mathlib.Omega.{arith}
use mathlib.Core.Path.{sym}
use Rattle.isa.specs.RoundTrip.{Bytes}
use Rattle.listing.specs.Disassemble.{WritesText}
use Rattle.listing.proofs.Fits.{text_fits}
use Rattle.text_line.proofs.LineLaws.{empty, then, whole}
use Rattle.listing.proofs.disassemble.write_instruction.Goals as goal

pub returns : goal.returns
unfolding WritesText
returns c =
    let made = then (empty c.new.ensures) c.instruction.ensures in
    let bytes : Bytes c.args.image.now = λ j. (c.type_inv.image j).fits in
    let decoded = rw c.in_ok-decoded.was at c.decode.ensures in
    let fits = text_fits c.args.image.now bytes c.args.bank c.args.address _ _ _ (sym decoded) in
    rw (← decoded) (rw (whole made (omega arith)) at c.write.ensures)
