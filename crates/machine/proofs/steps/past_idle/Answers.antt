-- `steps::past_idle` meets its contract.
use native.Mathlib.Omega.{arith}
use borrow.Author.Count.{below_more}
use Rattle.std.proofs.Common.{◌≡◌, ◌≤◌, get_or}
use Rattle.machine.specs.Advance.{done_of, advanced_of}
use Rattle.machine.specs.State.{machine_of}
use Rattle.machine.proofs.StepByStep.{idle_advance}
use Rattle.machine.proofs.steps.past_idle.Goals as goal

pub loop-k-preserved : goal.loop-k-preserved
loop-k-preserved c =
    let loop = c.loop-k in
    record {
      idle = λ image stack flags k l h.
          let m = machine_of c.args.c stack flags c.args.bytes.now in
          below_more
          (λ j. c.args.i ≤ j → done_of m 0 ≡ advanced_of image m (get_or c.args.requests.now j 0)) loop.k
          (λ j b a. loop.invariant.idle image stack flags j a b)
          (λ a. idle_advance image m _ (grind arith) (grind arith)) k (omega (arith, h)) l;
    }
