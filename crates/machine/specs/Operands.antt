-- The origin of the data operand that a step reads, on the machine before the step (document 02, W-203). It stands beside
-- the step's answer, and neither a step's effect nor a run knows it.
use Rattle.std.specs.Prelude.{ℕ, List, Option, None}
use Rattle.isa.specs.Refusals.{Answer, done, refused}
use Rattle.data.specs.declared.Origin.{Origin}
use Rattle.data.specs.Space.{program_of}
use Rattle.data.specs.Reads.{origin_read_of}
use Rattle.machine.specs.declared.Machine.{Machine}
use Rattle.machine.specs.Actions.{StepAction, takes, idles, executes, refuses, action_of}
use Rattle.machine.specs.Step.{step_of}

-- only an instruction reads: "Taking one [..] is a step by itself"
abbrev pub action_read : (image bytes : List ℕ) → StepAction → Option Origin
action_read image bytes (takes source) = None
action_read image bytes idles = None
action_read image bytes (executes i length cycles) = origin_read_of image bytes i
action_read image bytes (refuses r) = None

-- a refused or stopped step reads none
abbrev pub read_if_done : Answer ℕ → Option Origin → Option Origin
read_if_done (done cycles) read = read
read_if_done (refused r) read = None

-- "Each step tells the origin of the data operand it read, or that it read none"
unfoldable pub step_read_of : (image : List ℕ) → Machine → (request : ℕ) → Option Origin
step_read_of image m request =
    read_if_done (step_of image m request).answer
    (action_read (program_of image m.bytes) m.bytes (action_of image m request))
