-- `well_formed::addresses_fit` meets its contract.
use Rattle.std.proofs.Common.{arith}
use Rattle.control.proofs.StaysWellFormed.{fit_as_list}
use Rattle.control.proofs.well_formed.addresses_fit.Goals as goal

pub returns : goal.returns
returns c = fit_as_list c.args.stack.now c.args.levels (omega (arith, c.told-stack, c.requires)) c.all_fit.result c.all_fit.ensures
