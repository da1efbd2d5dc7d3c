-- The effect of a step on the stack of return addresses: by the request that it takes, or the CALL, RET or RETI that it
-- executes.
use Rattle.std.specs.Prelude.{ℕ, cond, List}
use Rattle.isa.specs.ControlFlow.{flow_of}
use Rattle.isa.specs.declared.Flow.{Flow}
use Rattle.isa.specs.declared.Flow.TheVariants as flow
use Rattle.isa.specs.declared.Source.{Source}
use Rattle.control.specs.declared.Control.{Control}
use Rattle.control.specs.Transfers.{ends_start_up}
use Rattle.data.specs.Space.{program_of}
use Rattle.machine.specs.declared.Machine.{Machine}
use Rattle.machine.specs.Actions.{StepAction, takes, idles, executes, refuses, due_of}

-- all that pushes and pops (document 01, "Modes, stack, sleep")
pub data StackEffect : Type 0 where
  -- "Taking one pushes PC"
  by_request : (source : Source) → StackEffect
  -- "CALL pushes its address plus 2."
  by_call : StackEffect
  -- RET, which pops: "7 pop on an empty stack, save as said for RETI"
  by_ret : StackEffect
  -- "RETI pops PC and returns to the mode beneath"
  by_reti : StackEffect
  -- the RETI that ends start-up code: "in reset mode with an empty stack it pops nothing and goes on at the next
  -- address"
  by_start_up : StackEffect
  -- any other instruction; "a sleeping step with nothing to take is idle"
  none : StackEffect

-- of an instruction, by where it continues
unfoldable pub flow_effect : Control → Flow → StackEffect
flow_effect c flow.Next = none
flow_effect c (flow.Jump to) = none
flow_effect c (flow.Branch condition to) = none
flow_effect c (flow.Call to) = by_call
flow_effect c flow.Return = by_ret
flow_effect c flow.ReturnFromInterrupt = cond (ends_start_up c) by_start_up by_reti
flow_effect c flow.Sleep = none

-- of what a step is about to do
unfoldable pub action_effect : Control → StepAction → StackEffect
action_effect c (takes source) = by_request source
action_effect c idles = none
action_effect c (executes i bytes cycles) = flow_effect c (flow_of i c.pc)
action_effect c (refuses r) = none

-- of a step, where it is not refused and does not stop
unfoldable pub stack_effect_of : (image : List ℕ) → Machine → (request : ℕ) → StackEffect
stack_effect_of image m request = action_effect m.control (due_of (program_of image m.bytes) m request)
