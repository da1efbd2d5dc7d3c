-- A step takes at most 255 cycles: of the instruction at PC, one for a request that is taken, or none.
use Prim.Native.Nat.{ℕ, ◌≤◌}
use native.Mathlib.Omega.{arith}
use mathlib.Core.Path.{◌≡◌, sym}
use mathlib.Core.Bool.{Bool, true, false, cond}
use mathlib.Core.List.{List}
use lib.Dec.{ltb}
use lib.ListN.{length}
use Rattle.std.specs.Prelude.{Option, Some, None}
use Rattle.isa.specs.Refusals.{plain, Answer, done, refused}
use Rattle.isa.specs.Displacement.{forward_of}
use Rattle.isa.specs.Rom.{is_space}
use Rattle.isa.specs.Decode.{instruction, decode_of, decode_at}
use Rattle.isa.specs.declared.Instruction.{Instruction}
use Rattle.isa.proofs.CyclesFit.{cycles_fit}
use Rattle.control.specs.declared.Stop.{Stop}
use Rattle.control.specs.Requests.{take_of}
use Rattle.data.specs.Space.{program_of}
use Rattle.machine.specs.declared.Machine.{Machine}
use Rattle.machine.specs.Execute.{Execution, execute_of}
use Rattle.machine.specs.State.{view_of}
use Rattle.machine.specs.Actions.{StepAction, action_of}
use Rattle.machine.specs.Advance.{stopped_of, served_of, taken_by, taken_of, after_of, completed_of}
use Rattle.machine.specs.Advance.{executed_of, done_of, acted_of}
use Rattle.machine.proofs.Due.{Due, taking, idling, executing, undecoding, is_due, ActionTested}
use Rattle.machine.proofs.Due.{refusing, passing, is_tested}
use Rattle.machine.specs.Step.{step_of}

-- an answer in at most 255 cycles
abbrev pub Short : Answer ℕ → Type 0
Short (done cycles) = cycles ≤ 255
Short (refused why) = Unit {0}

-- ---- decoding
module _ (space : List ℕ) (address : ℕ) where
  decode_short :
      (i : Instruction) (bytes cycles : ℕ) → decode_at space address ≡ done (instruction i bytes cycles) → cycles ≤ 255
  unfolding decode_at
  decode_short i bytes cycles = by_tests (is_space (length space)) (ltb address 4096)
    where
      by_tests :
          (s a : Bool) →
          cond s (cond a (decode_of space address) (refused (plain 3))) (refused (plain 1))
          ≡ done (instruction i bytes cycles) → cycles ≤ 255
      by_tests true true is = omega (arith, cycles_fit space address i bytes cycles (sym is))
      by_tests true false is = cc
      by_tests false a is = cc

-- ---- a step
module _ (space : List ℕ) (m : Machine) where
  unless_stopped : (s : Option Stop) (after : Machine) (n : ℕ) → n ≤ 255 → Short (stopped_of m s (done_of after n)).answer
  unless_stopped None after n few = few
  unless_stopped (Some s) after n few = tt

  -- what is due takes few cycles, or stops
  by_due : (request : ℕ) (a : StepAction) → Due space m request a → Short (acted_of space m a).answer
  unfolding acted_of taken_of taken_by executed_of completed_of
  by_due request _ (taking source is) =
      let t = take_of m.stack m.control source in unless_stopped t.stop (served_of m t) 1 (omega arith)
  by_due request _ (idling nothing asleep) = omega arith
  by_due request _ (executing i bytes cycles nothing awake at) =
      let x : Execution = execute_of space (view_of m) m.stack m.control i (forward_of m.control.pc bytes) in
      unless_stopped x.stop (after_of m x) cycles (decode_short space m.control.pc i bytes cycles at)
  by_due request _ (undecoding why nothing awake at) = tt

pub step_short : (image : List ℕ) (m : Machine) (request : ℕ) → Short (step_of image m request).answer
unfolding step_of acted_of
step_short image m request = by_test (action_of image m request) (is_tested image m request)
  where
    by_test :
        (a : StepAction) → ActionTested image m request a →
        Short (acted_of (program_of image m.bytes) m a).answer
    by_test _ (refusing why is) = tt
    by_test _ (passing size formed sources) =
        by_due (program_of image m.bytes) m request _ (is_due (program_of image m.bytes) m request)
