-- `predecoded::operation_in` meets its contract: what is none of the keys is past the list of codes.
use Rattle.std.proofs.Common.{◌≡◌, ◌%◌, get_or}
use lib.ListN.{get_or-eq_default}
use Rattle.isa.specs.Predecoded.{instruction_by_code}
use Rattle.isa.proofs.Words.{past}
use Rattle.isa.proofs.predecoded.operation_in.Goals as goal

pub returns-in_default : goal.returns-in_default
unfolding instruction_by_code
returns-in_default c = λ h.
    let code : get_or c.to_le_bytes.result 0 0 ≡ c.args.word % 256 = rw c.to_le_bytes.ensures in
    rw (get_or-eq_default _ _ (rw code at (past _ 12 41 (rw code h) c.in_default.in_default-own.rest)))
