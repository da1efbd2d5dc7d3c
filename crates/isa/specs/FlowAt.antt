-- Where the instruction at an address continues: what decoding answers, seen through where its instruction continues.
use Rattle.std.specs.Prelude.{ℕ, Option, Some, None, Result, Ok, Err}
use Rattle.isa.specs.Refusals.{numbered, Answer, done, refused}
use Rattle.isa.specs.Displacement.{forward_of}
use Rattle.isa.specs.Decode as decode
use Rattle.isa.specs.Decode.{Decoding}
use Rattle.isa.specs.ControlFlow.{flow_of}
use Rattle.isa.specs.declared.Flow.{Flow}
use Rattle.isa.specs.declared.Flow.TheVariants as flow
use Rattle.isa.specs.declared.Instruction.{Instruction}
use Rattle.isa.specs.declared.Continuation.{Continuation}
use Rattle.isa.specs.declared.Refusal.{Refusal}

-- a flow with the next address
pub data Continuing : Type 0 where
  goes : Flow → (next : ℕ) → Continuing

-- the program's answer by document 01's numbers
abbrev pub continuation_of : Result Continuation Refusal → Answer Continuing
continuation_of (Ok c) = done (goes c.flow c.next)
continuation_of (Err r) = refused (numbered r)

-- where the instruction of an answer at address a continues
abbrev pub continuation_from : ℕ → Answer Decoding → Answer Continuing
continuation_from a (done (decode.instruction i bytes cycles)) = done (goes (flow_of i a) (forward_of a bytes))
continuation_from a (refused r) = refused r

-- where a form at address a continues; what is undefined is never asked
abbrev pub flow_as : Option Instruction → ℕ → Flow
flow_as (Some i) a = flow_of i a
flow_as None a = flow.Next
