-- `address_line::call_text` meets its contract.
use Rattle.listing.proofs.Calls.{no_call}
use Rattle.text_line.proofs.LineLaws.{both}
use Rattle.listing.proofs.address_line.call_text.Goals as goal

pub returns-in_default-flow_of : goal.returns-in_default-flow_of
returns-in_default-flow_of c =
    let none = no_call c.args.certificate.now c.flow_of.result c.in_default-flow_of.not-Call in
    rw (c.in-Ok.is, ← c.flow_of.ensures, none) c.word-in_default-flow_of.ensures

pub returns : goal.returns
returns c =
    rw (
      c.in-Ok.is,
      ← c.flow_of.ensures,
      c.in-Call.is,
      ← c.need_at-need.ensures,
    )
    (both c.word-2.ensures c.decimal.ensures)
