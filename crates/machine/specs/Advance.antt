-- One step that is not refused (document 01, "Modes, stack, sleep" and "Step").
use Rattle.std.specs.Prelude.{ℕ, List, Option, Some, None, Result}
use Rattle.isa.specs.Refusals.{Numbered, located, Answer, done, refused, answered}
use Rattle.isa.specs.Displacement.{forward_of}
use Rattle.isa.specs.declared.Instruction.{Instruction}
use Rattle.isa.specs.declared.Refusal.{Refusal}
use Rattle.isa.specs.declared.Source.{Source}
use Rattle.alu.specs.declared.Flags.{Flags}
use Rattle.control.specs.declared.Mode.{Mode}
use Rattle.control.specs.declared.Stop.{Stop}
use Rattle.control.specs.declared.Stop.TheVariants.{Full, Empty}
use Rattle.control.specs.Stack.{Transferred}
use Rattle.control.specs.Requests.{take_of}
use Rattle.machine.specs.declared.FlagPairs.{FlagPairs}
use Rattle.machine.specs.declared.Machine.{Machine}
use Rattle.machine.specs.declared.Progress.{Progress}
use Rattle.machine.specs.Pairs.{with_pair_of}
use Rattle.machine.specs.Execute.{Execution, execute_of}
use Rattle.machine.specs.State.{machine_of, view_of}
use Rattle.machine.specs.Actions.{StepAction, takes, idles, executes, refuses, due_of}

-- a machine after a step, and the step's answer
pub record Step : Type 0 where
  pub machine : Machine
  pub answer : Answer ℕ

-- the program's answer, with the bytes and the stack that it was lent; its flags are the pair of a mode
abbrev pub advanced_as : FlagPairs → Mode → (bytes stack : List ℕ) → Progress Flags (Result ℕ Refusal) → Step
advanced_as pairs mode bytes stack r = record {
  machine = machine_of r.control stack (with_pair_of pairs mode r.flags) bytes;
  answer = answered r.report;
}

abbrev pub done_of : Machine → (cycles : ℕ) → Step
done_of m cycles = record { machine = m; answer = done cycles }

-- "A refusal is a number, and leaves [..] machine untouched."
abbrev pub refused_of : Machine → Numbered → Step
refused_of m r = record { machine = m; answer = refused r }

-- 6 and 7 give the address at PC
abbrev pub stop_at : Stop → (pc : ℕ) → Numbered
stop_at Full pc = located 6 pc
stop_at Empty pc = located 7 pc

-- by whether a stop is met
abbrev pub stopped_of : Machine → Option Stop → Step → Step
stopped_of m None more = more
stopped_of m (Some s) more = refused_of m (stop_at s m.control.pc)

-- the machine after a request: flags and data as they were
abbrev pub served_of : Machine → Transferred → Machine
served_of m t = machine_of t.control t.stack m.flags m.bytes

-- "Taking one [..] costs one cycle, and is a step by itself."
unfoldable pub taken_by : Machine → Transferred → Step
taken_by m t = stopped_of m t.stop (done_of (served_of m t) 1)

unfoldable pub taken_of : Machine → Source → Step
taken_of m source = taken_by m (take_of m.stack m.control source)

-- the machine after an instruction: its flags go to the pair of the mode before it
abbrev pub after_of : Machine → Execution → Machine
after_of m x =
    machine_of x.control x.stack (with_pair_of m.flags m.control.mode x.space.flags) x.space.bytes

unfoldable pub completed_of : Machine → (cycles : ℕ) → Execution → Step
completed_of m cycles x = stopped_of m x.stop (done_of (after_of m x) cycles)

-- an instruction of so many bytes and cycles
unfoldable pub executed_of : (image : List ℕ) → Machine → Instruction → (bytes cycles : ℕ) → Step
executed_of image m i bytes cycles =
    completed_of m cycles (execute_of image (view_of m) m.stack m.control i (forward_of m.control.pc bytes))

-- what comes of an action
unfoldable pub acted_of : (image : List ℕ) → Machine → StepAction → Step
acted_of image m (takes source) = taken_of m source
-- "a sleeping step with nothing to take is idle, 0 cycles"
acted_of image m idles = done_of m 0
acted_of image m (executes i bytes cycles) = executed_of image m i bytes cycles
acted_of image m (refuses r) = refused_of m r

-- a step that is not refused
unfoldable pub advanced_of : (image : List ℕ) → Machine → (request : ℕ) → Step
advanced_of image m request = acted_of image m (due_of image m request)
