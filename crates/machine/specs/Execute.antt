-- One instruction: its effect on data and flags, and where its flow takes control. The two do not look at each other,
-- but for the condition of a branch.
use Rattle.std.specs.Prelude.{ℕ, Bool, true, false, not, List, Option, Some, None, Result, Ok, Err}
use Rattle.alu.specs.Alu.{bit_of}
use Rattle.data.specs.Space.{read_of}
use Rattle.data.specs.Effect.{Data, data_of, effect_of}
use Rattle.isa.specs.ControlFlow.{flow_of}
use Rattle.isa.specs.declared.Instruction.{Instruction}
use Rattle.isa.specs.declared.Condition.{Condition}
use Rattle.isa.specs.declared.Condition.TheVariants.{Zero, Carry, Bit}
use Rattle.isa.specs.declared.Flow.{Flow}
use Rattle.isa.specs.declared.Flow.TheVariants as flow
use Rattle.control.specs.declared.Control.{Control}
use Rattle.control.specs.declared.Stop.{Stop}
use Rattle.control.specs.Stack.{Transferred}
use Rattle.control.specs.Transfers.{advance_of}
use Rattle.machine.specs.declared.Executed.{Executed}
use Rattle.machine.specs.declared.Room.TheVariants.{Spare}

-- a flag or a bit is the value at which a branch jumps
abbrev pub agrees : (value is : Bool) → Bool
agrees true is = is
agrees false is = not is

-- whether a branch's condition holds, by the data before the instruction
abbrev pub holds : (image : List ℕ) → Data → Condition → Bool
holds image d (Zero value) = agrees value d.flags.zero
holds image d (Carry value) = agrees value d.flags.carry
holds image d (Bit a n value) = agrees value (bit_of (read_of image d.bytes a) n)

abbrev pub jumps_of : (image : List ℕ) → Data → Flow → Bool
jumps_of image d flow.Next = false
jumps_of image d (flow.Jump to) = false
jumps_of image d (flow.Branch condition to) = holds image d condition
jumps_of image d (flow.Call to) = false
jumps_of image d flow.Return = false
jumps_of image d flow.ReturnFromInterrupt = false
jumps_of image d flow.Sleep = false

-- all that an instruction can change: data and the flag pair in use; control and the stack; and whether it stops
pub record Execution : Type 0 where
  pub space : Data
  pub control : Control
  pub stack : List ℕ
  pub stop : Option Stop

-- the program's answer where it goes on, with the bytes and the stack that it was lent
abbrev pub execution_of : (bytes stack : List ℕ) → Executed → Execution
execution_of bytes stack r =
    record { space = data_of bytes r.flags; control = r.control; stack = stack; stop = None }

-- data and flags as an effect leaves them, control and stack as a transfer does
abbrev pub execution_by : Data → Transferred → Execution
execution_by d t = record { space = d; control = t.control; stack = t.stack; stop = t.stop }

-- an instruction at PC, with its next address
unfoldable pub execute_of :
    (image : List ℕ) → Data → (stack : List ℕ) → Control → Instruction → (next : ℕ) → Execution
execute_of image d stack c i next =
    execution_by (effect_of image d i)
    (advance_of stack c (flow_of i c.pc) (jumps_of image d (flow_of i c.pc)) next)

-- what the program answers of an execution, and how it leaves the bytes and the stack that it was lent
pub record Left : Type 0 where
  pub bytes : List ℕ
  pub stack : List ℕ
  pub answer : Result Executed Stop

abbrev pub left_of : (bytes stack : List ℕ) → Result Executed Stop → Left
left_of bytes stack r = record { bytes = bytes; stack = stack; answer = r }

-- control and flags; of an instruction that stops only why
abbrev pub unless_stopped : Option Stop → Executed → Result Executed Stop
unless_stopped None r = Ok r
unless_stopped (Some s) r = Err s

abbrev pub left_by : Execution → Left
left_by x =
    left_of x.space.bytes x.stack
    (unless_stopped x.stop (record { control = x.control; flags = x.space.flags; room = Spare }))
