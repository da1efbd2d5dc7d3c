-- Where an instruction continues.
use Rattle.std.specs.Prelude.{ℕ, ℤ, true, false}
use Rattle.isa.specs.Displacement.{short_target, long_target}
use Rattle.isa.specs.declared.Condition.{Condition}
use Rattle.isa.specs.declared.Condition.TheVariants.{Zero, Carry, Bit}
use Rattle.isa.specs.declared.Flow.{Flow}
use Rattle.isa.specs.declared.Flow.TheVariants as flow
use Rattle.isa.specs.declared.Instruction.{Instruction}
use Rattle.isa.specs.declared.Instruction.TheVariants as I

-- a branch by a short displacement, and by a long one
abbrev pub short_of : Condition → ℕ → ℤ → Flow
short_of condition a e = flow.Branch condition (short_target a e)

abbrev pub long_of : Condition → ℕ → ℤ → Flow
long_of condition a e = flow.Branch condition (long_target a e)

unfoldable pub flow_of : Instruction → ℕ → Flow
flow_of (I.Jrnz e) a = short_of (Zero false) a e
flow_of (I.Jrnc e) a = short_of (Carry false) a e
flow_of (I.Jrz e) a = short_of (Zero true) a e
flow_of (I.Jrc e) a = short_of (Carry true) a e
flow_of (I.Call target) a = flow.Call target
flow_of (I.Jp target) a = flow.Jump target
flow_of (I.Jrr n d e) a = long_of (Bit d n false) a e
flow_of (I.Jrs n d e) a = long_of (Bit d n true) a e
flow_of I.Ret a = flow.Return
flow_of I.Reti a = flow.ReturnFromInterrupt
flow_of I.Stop a = flow.Sleep
flow_of I.Wait a = flow.Sleep
flow_of (I.Res n d) a = flow.Next
flow_of (I.Set n d) a = flow.Next
flow_of (I.LoadA o) a = flow.Next
flow_of (I.StoreA o) a = flow.Next
flow_of (I.LoadAImmediate v) a = flow.Next
flow_of (I.LoadImmediate d v) a = flow.Next
flow_of (I.Inc o) a = flow.Next
flow_of (I.Dec o) a = flow.Next
flow_of (I.Add o) a = flow.Next
flow_of (I.AddImmediate v) a = flow.Next
flow_of (I.Sub o) a = flow.Next
flow_of (I.SubImmediate v) a = flow.Next
flow_of (I.And o) a = flow.Next
flow_of (I.AndImmediate v) a = flow.Next
flow_of (I.Cp o) a = flow.Next
flow_of (I.CpImmediate v) a = flow.Next
flow_of I.Com a = flow.Next
flow_of I.Rlc a = flow.Next
