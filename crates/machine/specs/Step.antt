-- One step (document 01, "Step").
use Rattle.std.specs.Prelude.{ℕ, List}
use Rattle.isa.specs.Refusals.{answered}
use Rattle.data.specs.Space.{program_of}
use Rattle.machine.specs.declared.FlagPairs.{FlagPairs}
use Rattle.machine.specs.declared.Machine.{Machine}
use Rattle.machine.specs.declared.After.{After}
use Rattle.machine.specs.declared.Progress.{Progress}
use Rattle.machine.specs.declared.StepReport.{StepReport}
use Rattle.machine.specs.State.{machine_of}
pub use Rattle.machine.specs.Advance.{Step, done_of, refused_of}
pub use Rattle.machine.specs.Actions.{enabled_of, requested_action}
unfoldable pub use Rattle.machine.specs.Actions.{unrequested_action, due_of, action_of}
unfoldable pub use Rattle.machine.specs.Advance.{
  taken_by,
  taken_of,
  completed_of,
  executed_of,
  acted_of,
  advanced_of,
}

abbrev pub stepped_of : After StepReport → Step
stepped_of r = record { machine = r.machine; answer = answered r.report.answer }

-- the program's answer on lent parts, with the bytes and the stack that it was lent
abbrev pub step_progress_as : (bytes stack : List ℕ) → Progress FlagPairs StepReport → Step
step_progress_as bytes stack r =
    record { machine = machine_of r.control stack r.flags bytes; answer = answered r.report.answer }

-- what comes of the action that is due, or of the refusal
unfoldable pub step_of : (image : List ℕ) → Machine → (request : ℕ) → Step
step_of image m request = acted_of (program_of image m.bytes) m (action_of image m request)
