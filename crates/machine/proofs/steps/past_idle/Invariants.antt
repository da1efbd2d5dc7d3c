-- `steps::past_idle` meets its contract. The loop's invariant: the steps so far are idle.
use Rattle.std.proofs.Common.{◌≡◌, List, ℕ, ◌≤◌, ◌<◌, get_or}
use Rattle.machine.specs.declared.FlagPairs.{FlagPairs}
use Rattle.machine.specs.Advance.{done_of, advanced_of}
use Rattle.machine.specs.State.{machine_of}
use Rattle.machine.proofs.steps.past_idle.Given as goal

abbrev pub invariant-loop-k : goal.invariant-loop-k
invariant-loop-k l = record {
  idle :
      (image stack : List ℕ) (flags : FlagPairs) (k : ℕ) → l.i ≤ k → k < l.k →
      done_of (machine_of l.c stack flags l.bytes) 0
      ≡ advanced_of image (machine_of l.c stack flags l.bytes) (get_or l.requests k 0);
}
