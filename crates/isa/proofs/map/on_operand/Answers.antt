-- `map::on_operand` meets its contract.
use mathlib.Core.Path.{◌≡◌}
use Prim.Native.Nat.{◌/◌}
use native.Mathlib.Omega.{arith}
use Rattle.isa.proofs.map.on_operand.Goals as goal

pub returns-in-64-to-95 : goal.returns-in-64-to-95
returns-in-64-to-95 c = let e : c.args.opcode / 32 ≡ 2 = omega arith in rw e

pub returns-in-160-to-191 : goal.returns-in-160-to-191
returns-in-160-to-191 c = let e : c.args.opcode / 32 ≡ 5 = omega arith in rw e
