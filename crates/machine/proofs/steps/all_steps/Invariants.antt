-- `steps::all_steps` meets its contract. The loop's invariant: the first i steps completed, the machine is well formed
-- and the store coherent.
use Prim.Native.Nat.{◌≤◌, ◌-◌, ◌*◌}
use mathlib.Core.Path.{◌≡◌}
use mathlib.Core.Bool.{true}
use lib.ListN.{length}
use Rattle.isa.specs.Refusals.{done}
use Rattle.control.specs.WellFormed.{well_formed}
use Rattle.machine.specs.Fetch.{Coherent}
use Rattle.machine.specs.State.{machine_of}
use Rattle.machine.specs.Steps.{run_at, steps_of}
use Rattle.machine.proofs.steps.all_steps.Given as goal

abbrev pub invariant-loop-i : goal.invariant-loop-i
invariant-loop-i l =
    (l.i ≤ l.n) × (l.cycles ≤ 255 * l.i) × (well_formed l.stack l.c ≡ true) × (length l.store ≡ length l.initial.store) × Coherent l.image l.store
    × (run_at (machine_of l.c l.stack l.flags l.bytes) l.i l.cycles (done tt)
    ≡ steps_of l.image l.requests (machine_of l.initial.c l.initial.stack l.initial.flags l.initial.bytes) l.i)

abbrev pub decreases-loop-i : goal.decreases-loop-i
decreases-loop-i l = l.n - l.i
