-- `sleep::first_sleep` meets its contract. The loop's invariant: the machine held is the one after so many steps, and
-- it was awake before each of them.
use Rattle.std.proofs.Common.{ℕ, ◌≡◌, ◌<◌}
use Rattle.gauge.specs.Sleep.{machine_after, AwakeAfter}
use Rattle.gauge.proofs.sleep.first_sleep.Given as goal

abbrev pub invariant-loop-steps : goal.invariant-loop-steps
invariant-loop-steps l = record {
  reached : l.held ≡ machine_after l.image l.initial.held l.steps;
  awake : (n : ℕ) → n < l.steps → AwakeAfter l.image l.initial.held n;
}
