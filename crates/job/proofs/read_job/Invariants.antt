-- `read_job` ends: the loop fills the buffer.
use Rattle.std.proofs.Common.{◌≤◌, ◌-◌, length}
use Rattle.job.proofs.read_job.Given as goal

abbrev pub invariant-loop-done : goal.invariant-loop-done
invariant-loop-done l = l.done ≤ length l.job

abbrev pub decreases-loop-done : goal.decreases-loop-done
decreases-loop-done l = length l.job - l.done
