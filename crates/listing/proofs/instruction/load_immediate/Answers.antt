-- `instruction::load_immediate` meets its contract.
use Rattle.text_line.proofs.LineLaws.{both}
use Rattle.listing.proofs.instruction.load_immediate.Goals as goal

pub returns : goal.returns
returns c = both c.immediate.ensures c.immediate-2.ensures
