-- `table::timing_by_map` meets its contract.
use Rattle.std.proofs.Common.{◌∙◌}
use Rattle.isa.proofs.Timings.{timings}
use Rattle.isa.proofs.table.timing_by_map.Goals as goal

pub returns : goal.returns
returns c = (
  c.timing_of.ensures.0 ∙ timings.lengths c.args.opcode c.ranges.opcode.fits,
  c.timing_of.ensures.1 ∙ timings.cycles c.args.opcode c.ranges.opcode.fits,
)
