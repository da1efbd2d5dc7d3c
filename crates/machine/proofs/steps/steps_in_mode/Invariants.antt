-- `steps::steps_in_mode` meets its contract. The loop's invariant: the steps up to i completed, whatever they
-- continue; the machine is well formed and the store coherent; as long as the loop goes on the mode and the bank byte
-- are those of its start, and when it ends a step was made.
use Prim.Native.Nat.{◌≤◌, ◌<◌, ◌-◌, ◌*◌}
use mathlib.Core.Path.{◌≡◌}
use mathlib.Core.Bool.{true, false}
use lib.ListN.{length, get_or}
use Rattle.isa.specs.Refusals.{done}
use Rattle.control.specs.WellFormed.{well_formed}
use Rattle.machine.specs.declared.FlagPairs.{FlagPairs}
use Rattle.machine.specs.declared.Machine.{Machine}
use Rattle.machine.specs.Fetch.{Coherent}
use Rattle.machine.specs.Pairs.{with_pair_of}
use Rattle.machine.specs.State.{machine_of}
use Rattle.machine.specs.Steps.{run_at, steps_of}
use Rattle.machine.proofs.steps.steps_in_mode.Given as goal

abbrev pub invariant-loop-same : goal.invariant-loop-same
invariant-loop-same l =
    (l.first ≤ l.i) × (l.i ≤ l.n) × (l.cycles ≤ 255 * l.i) × (well_formed l.stack l.c ≡ true) × (length l.store ≡ length l.initial.store)
    × Coherent l.image l.store × (l.same ≡ true → (l.i < l.n) × (l.c.mode ≡ l.initial.c.mode) × (get_or l.bytes 0xCA 0 ≡ l.bank)) × (l.same ≡ false → l.first < l.i)
    × ((pairs : FlagPairs) (m : Machine) →
    run_at (machine_of l.initial.c l.initial.stack (with_pair_of pairs l.initial.c.mode l.initial.flags) l.initial.bytes) l.first l.spent (done tt)
    ≡ steps_of l.image l.requests m l.first →
    run_at (machine_of l.c l.stack (with_pair_of pairs l.initial.c.mode l.flags) l.bytes) l.i l.cycles (done tt) ≡ steps_of l.image l.requests m l.i)

abbrev pub decreases-loop-same : goal.decreases-loop-same
decreases-loop-same l = l.n - l.i
