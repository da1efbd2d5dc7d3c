-- A machine that is well formed stays so under every operation.
use Prim.Native.Nat.{ℕ, zero, suc}
use mathlib.Core.Path.{◌≡◌}
use mathlib.Core.Bool.{Bool, true, false, not}
use mathlib.Core.List.{List}
use native.Mathlib.Omega.{arith}
use lib.Dec.{leb}
use lib.ListN.{length, get_or, replicate}
use Rattle.isa.specs.Displacement.{forward_of}
use Rattle.isa.specs.RoundTrip.{Bytes}
use Rattle.isa.specs.ControlFlow.{flow_of}
use Rattle.isa.specs.Refusals.{plain, Answer, Ended, done, refused, unless}
use Rattle.isa.specs.Rom.{is_image}
use Rattle.isa.proofs.Halves.{space_bytes}
use Rattle.data.specs.Space.{program_of}
use Rattle.isa.proofs.Targets.{in_range_there}
use Rattle.control.specs.WellFormed.{Formed}
use Rattle.control.proofs.StaysWellFormed.{formed_exactly, stays_formed}
use Rattle.machine.specs.declared.Machine.{Machine}
use Rattle.machine.specs.Execute.{jumps_of, execute_of}
use Rattle.data.specs.Space.{in_window}
use Rattle.machine.specs.State.{view_of, is_well_formed, with_byte, host_stored, host_store_of, reset_control, reset_of}
use Rattle.machine.specs.Advance.{Step, advanced_of}
use Rattle.machine.specs.Step.{step_of}
use Rattle.machine.specs.Steps.{Run, joined_by, continued_by, steps_of, requests_fit}
use Rattle.machine.specs.Run.{refused_run, run_of}
use Rattle.machine.specs.Laws.{Does, stops, takes, idles, executes, StaysWellFormed}
use Rattle.machine.proofs.StepDoes.{advance_does, Tested, refuses, passes, step_tested}

-- the machine after a step is well formed
abbrev pub FormedStep : Step → Type 0
FormedStep s = is_well_formed s.machine ≡ true

module _ (image : List ℕ) (all : Bytes image) (m : Machine) (formed : is_well_formed m ≡ true) (request : ℕ) where
  facts : Formed m.stack m.control
  facts = formed_exactly.facts m.stack m.control formed

  by_case : (s : Step) → Does image m request s → FormedStep s
  unfolding execute_of
  by_case _ (stops r is) = formed
  by_case _ (takes source e none) =
      formed_exactly.test _ _ (stays_formed.by_request m.stack m.control facts source)
  by_case _ (idles none asleep) = formed
  by_case _ (executes i bytes cycles none awake at goes) =
      formed_exactly.test _ _
      (stays_formed.by_flow m.stack m.control facts (flow_of i m.control.pc)
      (in_range_there image all m.control.pc i bytes cycles at)
      (jumps_of image (view_of m) (flow_of i m.control.pc)) (forward_of m.control.pc bytes) (omega arith))

-- in program space as it stands
module _ (image : List ℕ) (all : Bytes image) (m : Machine) (formed : is_well_formed m ≡ true) (request : ℕ) where
  in_place : (s : Step) → Does (program_of image m.bytes) m request s → FormedStep s
  in_place = by_case (program_of image m.bytes) (space_bytes image (get_or m.bytes 0xCA 0) all) m formed request

  -- of what the program was handed
  pub formed_step : (s : Step) → s ≡ advanced_of (program_of image m.bytes) m request → FormedStep s
  formed_step s e = rw e (in_place _ (advance_does (program_of image m.bytes) m request formed))

  -- a step, refused or not
  by_test : (s : Step) → Tested image m request s → FormedStep s
  by_test _ (refuses r why) = formed
  by_test s (passes size w sources _ deed) = in_place s deed

  by_step : FormedStep (step_of image m request)
  by_step = by_test _ (step_tested image m request)

-- a run, step by step
module _ (image : List ℕ) (all : Bytes image) (requests : List ℕ) (m : Machine) (formed : is_well_formed m ≡ true) where
  joined :
      (r : Run) (n : Machine) (a : Answer ℕ) → is_well_formed n ≡ true → is_well_formed (joined_by r n a).machine ≡ true
  joined r n (done cycles) f = f
  joined r n (refused reason) f = f

  continued :
      (r : Run) (request : ℕ) (ending : Ended) → is_well_formed r.machine ≡ true →
      is_well_formed (continued_by image r request ending).machine ≡ true
  continued r request (done tt) f =
      joined r (step_of image r.machine request).machine (step_of image r.machine request).answer
      (by_step image all r.machine f request)
  continued r request (refused reason) f = f

  by_steps : (n : ℕ) → is_well_formed (steps_of image requests m n).machine ≡ true
  unfolding steps_of
  by_steps zero = formed
  by_steps (suc n) =
      continued (steps_of image requests m n) (get_or requests n 0) (steps_of image requests m n).report.ending
      (by_steps n)

  by_run : (n : ℕ) → is_well_formed (run_of image m requests n).machine ≡ true
  unfolding run_of
  by_run n = by_tests (is_image (length image)) (is_well_formed m) (leb n 65535) (requests_fit requests n)
    where
      by_tests :
          (a b c d : Bool) →
          is_well_formed
          (unless a (refused_run m (plain 1))
          (unless b (refused_run m (plain 2))
          (unless c (refused_run m (plain 12)) (unless d (refused_run m (plain 11)) (steps_of image requests m n))))
          ).machine
          ≡ true
      by_tests false b c d = formed
      by_tests true false c d = formed
      by_tests true true false d = formed
      by_tests true true true false = formed
      by_tests true true true true = by_steps n

by_store : (m : Machine) → is_well_formed m ≡ true → (a value : ℕ) → is_well_formed (host_store_of m a value).machine ≡ true
unfolding host_store_of
by_store m formed a value = by_tests (is_well_formed m) (not (in_window a))
  where
    by_tests :
        (b c : Bool) →
        is_well_formed
        (unless b (host_stored m (refused (plain 2)))
        (unless c (host_stored m (refused (plain 10))) (host_stored (with_byte m a value) (done tt)))
        ).machine
        ≡ true
    by_tests false c = formed
    by_tests true false = formed
    by_tests true true = formed

by_reset : (m : Machine) → is_well_formed (reset_of m) ≡ true
unfolding reset_of
by_reset m =
    formed_exactly.test (replicate 6 0) reset_control
    (record { pc = omega arith; levels = omega arith; addresses = λ k h. absurd (omega arith) })

pub stays_well_formed : StaysWellFormed
stays_well_formed = record {
  by_step = λ image all m formed request. by_step image all m formed request;
  by_steps = by_steps;
  by_run = λ image all m formed requests n. by_run image all requests m formed n;
  by_store = by_store;
  by_reset = by_reset;
}
