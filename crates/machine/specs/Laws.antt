-- What callers may rely on of step, run, host store and reset: claims about the definitions (document 01, "Modes,
-- stack, sleep" and "What each operation turns down").
use Rattle.std.specs.Prelude.{ℕ, ◌+◌, ◌≤◌, ◌≡◌, true, false, List, [], ◌∷◌, length, drop, None}
use Rattle.isa.specs.Refusals.{Numbered, located, Ended, done, refused}
use Rattle.isa.specs.RoundTrip.{Bytes}
use Rattle.isa.specs.Sources.{names_only_sources}
use Rattle.isa.specs.Displacement.{forward_of}
use Rattle.isa.specs.ControlFlow.{flow_of}
use Rattle.isa.specs.Rom.{is_image, is_space}
use Rattle.isa.specs.declared.Instruction.{Instruction}
use Rattle.isa.specs.declared.Flow.TheVariants as flow
use Rattle.isa.specs.declared.Source.{Source}
use Rattle.data.specs.Space.{program_of}
use Rattle.control.specs.Update.{with_pc}
use Rattle.control.specs.Requests.{take_of}
use Rattle.machine.specs.declared.Machine.{Machine}
use Rattle.machine.specs.Execute.{Execution, execute_of}
use Rattle.machine.specs.State.{view_of, is_well_formed, host_store_of, reset_of}
use Rattle.machine.specs.Advance.{Step, done_of, refused_of, served_of, after_of, executed_of}
use Rattle.machine.specs.Step.{step_of}
use Rattle.machine.specs.Steps.{Run, run_at, steps_of, requests_fit}
use Rattle.machine.specs.Run.{run_of}
use Rattle.machine.specs.Refusals.{Takes, TakesNone, AtPc, StepStops}

-- what executing an instruction at PC does
abbrev pub execution_at : (image : List ℕ) → Machine → Instruction → (bytes : ℕ) → Execution
execution_at image m i bytes = execute_of image (view_of m) m.stack m.control i (forward_of m.control.pc bytes)

-- "A stop is a step's 4, 5, 6 or 7"
pub record StopNumber (number : ℕ) : Type 0 where
  pub least : 4 ≤ number
  pub most : number ≤ 7

-- .. with the address of its instruction, and "a request's 6 gives PC": that of the machine on which the step stops
pub record IsStop (m : Machine) (r : Numbered) : Type 0 where
  pub number : ℕ
  pub stops : StopNumber number
  pub is : r ≡ located number m.control.pc

-- .. of every case in which a step stops
-- proved by stops_numbered, proofs/StepDoes
abbrev pub StopsNumbered : Type 0
StopsNumbered =
    (image : List ℕ) (m : Machine) (request : ℕ) → is_space (length image) ≡ true → is_well_formed m ≡ true →
    (r : Numbered) → StepStops image m request r → IsStop m r

-- What a step that is not refused does in a program space: it stops and leaves the machine as it was, or takes a
-- request
-- in one cycle, or is idle in none, or executes the instruction at PC in the cycles of the table
pub data Does (image : List ℕ) (m : Machine) (request : ℕ) : Step → Type 0 where
  stops : (r : Numbered) → StepStops image m request r → Does image m request (refused_of m r)
  takes :
      (source : Source) → Takes m request source → (take_of m.stack m.control source).stop ≡ None →
      Does image m request (done_of (served_of m (take_of m.stack m.control source)) 1)
  idles : TakesNone m request → m.control.asleep ≡ true → Does image m request (done_of m 0)
  executes :
      (i : Instruction) (bytes cycles : ℕ) → TakesNone m request → m.control.asleep ≡ false →
      AtPc image m i bytes cycles →
      (execution_at image m i bytes).stop ≡ None →
      Does image m request (done_of (after_of m (execution_at image m i bytes)) cycles)

-- of every step to which 1, 2 and 11 do not apply
-- proved by step_does, proofs/StepDoes
abbrev pub StepDoes : Type 0
StepDoes =
    (image : List ℕ) (m : Machine) (request : ℕ) → is_image (length image) ≡ true → is_well_formed m ≡ true →
    names_only_sources request ≡ true →
    Does (program_of image m.bytes) m request (step_of image m request)

-- a data instruction, whose flow is the next address, moves PC there, and leaves stack, mode, levels and sleep
pub record GoesOn (image : List ℕ) (m : Machine) (i : Instruction) (bytes cycles : ℕ) : Type 0 where
  pub control :
      (executed_of image m i bytes cycles).machine.control ≡ with_pc m.control (forward_of m.control.pc bytes)
  pub stack : (executed_of image m i bytes cycles).machine.stack ≡ m.stack
  pub answer : (executed_of image m i bytes cycles).answer ≡ done cycles

-- proved by data_goes_on, proofs/Laws
abbrev pub DataGoesOn : Type 0
DataGoesOn =
    (image : List ℕ) (m : Machine) (i : Instruction) (bytes cycles : ℕ) → flow_of i m.control.pc ≡ flow.Next →
    GoesOn image m i bytes cycles

-- a machine that is well formed stays so under every operation; reset makes one of any machine
-- proved by stays_well_formed, proofs/StaysWellFormed
pub record StaysWellFormed : Type 0 where
  pub by_step :
      (image : List ℕ) → Bytes image → (m : Machine) → is_well_formed m ≡ true → (request : ℕ) →
      is_well_formed (step_of image m request).machine ≡ true
  pub by_steps :
      (image : List ℕ) → Bytes image → (requests : List ℕ) (m : Machine) → is_well_formed m ≡ true → (n : ℕ) →
      is_well_formed (steps_of image requests m n).machine ≡ true
  pub by_run :
      (image : List ℕ) → Bytes image → (m : Machine) → is_well_formed m ≡ true → (requests : List ℕ) (n : ℕ) →
      is_well_formed (run_of image m requests n).machine ≡ true
  pub by_store :
      (m : Machine) → is_well_formed m ≡ true → (a value : ℕ) → is_well_formed (host_store_of m a value).machine ≡ true
  pub by_reset : (m : Machine) → is_well_formed (reset_of m) ≡ true

-- so a run ends early only where a step stops, never with 1, 2 or 11 midway, and with PC of the machine that it leaves
abbrev pub StopsOnly : Machine → Ended → Type 0
StopsOnly m (done tt) = Unit {0}
StopsOnly m (refused r) = IsStop m r

-- proved by run_ends_by_stop, proofs/Laws
abbrev pub RunEndsByStop : Type 0
RunEndsByStop =
    (image : List ℕ) → Bytes image → is_image (length image) ≡ true → (requests : List ℕ) (n : ℕ) →
    requests_fit requests n ≡ true →
    (m : Machine) → is_well_formed m ≡ true →
    StopsOnly (steps_of image requests m n).machine (steps_of image requests m n).report.ending

-- a run, and another on the machine that it leaves
abbrev pub followed_by : Run → Run → Run
followed_by r s =
    run_at s.machine (r.report.steps + s.report.steps) (r.report.cycles + s.report.cycles) s.report.ending

-- "A run of n steps is n single steps": a run of one is the step, and a run of n + k is a run of n, then, where that
-- completes, of k
-- proved by run_is_steps, proofs/Laws
pub record RunIsSteps : Type 0 where
  pub one :
      (image : List ℕ) (m : Machine) (q : ℕ) (n : Machine) (cycles : ℕ) → step_of image m q ≡ done_of n cycles →
      steps_of image (q ∷ []) m 1 ≡ run_at n 1 cycles (done tt)
  pub one_stops :
      (image : List ℕ) (m : Machine) (q : ℕ) (n : Machine) (r : Numbered) → step_of image m q ≡ refused_of n r →
      steps_of image (q ∷ []) m 1 ≡ run_at n 0 0 (refused r)
  pub more :
      (image requests : List ℕ) (m : Machine) (n k : ℕ) → (steps_of image requests m n).report.ending ≡ done tt →
      steps_of image requests m (n + k)
      ≡ followed_by (steps_of image requests m n)
      (steps_of image (drop n requests) (steps_of image requests m n).machine k)

-- "a sleeping step with nothing to take is idle, 0 cycles": without requests there is nothing to take, so a sleeping
-- machine stays as it is
-- proved by sleeper_stays, proofs/Laws
pub record SleeperStays : Type 0 where
  pub by_step :
      (image : List ℕ) (m : Machine) → is_image (length image) ≡ true → is_well_formed m ≡ true →
      m.control.asleep ≡ true → step_of image m 0 ≡ done_of m 0
  pub by_steps :
      (image : List ℕ) (m : Machine) → is_image (length image) ≡ true → is_well_formed m ≡ true →
      m.control.asleep ≡ true → (n : ℕ) → steps_of image [] m n ≡ run_at m n 0 (done tt)
