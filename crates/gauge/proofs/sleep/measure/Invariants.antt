-- `sleep::measure` meets its contract. The loop's invariant: the machine held is the one after i runs, and it is awake.
use Rattle.std.proofs.Common.{◌≡◌, ◌*◌}
use Rattle.gauge.specs.Sleep.{machine_after, AwakeAfter}
use Rattle.gauge.proofs.sleep.measure.Given as goal

abbrev pub invariant-loop-i : goal.invariant-loop-i
invariant-loop-i l = record {
  reached : l.held ≡ machine_after l.image l.initial.held (l.i * 1285);
  awake : AwakeAfter l.image l.initial.held (l.i * 1285);
}
