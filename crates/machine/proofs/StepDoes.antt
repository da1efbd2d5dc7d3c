-- What a step does, by what is due. Later laws go by the cases of `Does`.
use Prim.Native.Nat.{ℕ, ◌<◌}
use mathlib.Core.Path.{◌≡◌, refl}
use mathlib.Core.Logic.{inl, inr}
use mathlib.Core.Bool.{Bool, true, false, cond, not, ◌&&◌}
use mathlib.Core.List.{List}
use native.Mathlib.Omega.{arith}
use borrow.Author.Tests.{leb-true, eqb-true}
use lib.Dec.{eqb}
use lib.ListN.{length}
use Rattle.isa.specs.Refusals.{Numbered, located, Answer, done, refused}
use Rattle.isa.specs.Displacement.{forward_of}
use Rattle.isa.specs.ControlFlow.{flow_of}
use Rattle.isa.specs.Sources.{names_only_sources}
use Rattle.isa.specs.Rom.{is_image, is_space}
use Rattle.isa.specs.Decode.{decode_at}
use Rattle.isa.specs.Decode as decode
use Rattle.isa.specs.declared.Instruction.{Instruction}
use Rattle.isa.specs.declared.Source.{Source}
use Rattle.isa.proofs.AtAddress.{AtAddress, at_address}
use Rattle.std.specs.Prelude.{Option, Some, None}
use Rattle.control.specs.declared.Stop.{Stop}
use Rattle.control.specs.declared.Stop.TheVariants.{Full, Empty}
use Rattle.control.specs.Modes.{is_reset}
use Rattle.control.specs.Stack.{is_full}
use Rattle.control.specs.Transfers.{advance_of}
use Rattle.control.proofs.StaysWellFormed.{formed_exactly}
use Rattle.control.proofs.Stopped.{take_stops, call_stops, pop_stops, return_stops}
use Rattle.data.specs.Space.{program_of}
use Rattle.machine.specs.declared.Machine.{Machine}
use Rattle.machine.specs.Execute.{execute_of}
use Rattle.machine.specs.State.{view_of, is_well_formed}
use Rattle.machine.specs.Advance.{
  Step,
  refused_of,
  stop_at,
  stopped_of,
  taken_by,
  taken_of,
  completed_of,
  executed_of,
  acted_of,
  advanced_of,
}
use Rattle.machine.specs.Actions.{StepAction, action_of}
use Rattle.machine.specs.Step.{step_of}
use Rattle.machine.specs.Refusals.{
  Takes,
  TakesNone,
  AtPc,
  StepStops,
  request_full,
  undecoded,
  call_full,
  ret_empty,
  reti_empty,
  StepRefused,
}
use Rattle.machine.specs.Laws.{IsStop, StopsNumbered, Does, stops, takes, idles, executes, StepDoes}
use Rattle.machine.proofs.Due.{
  Due,
  taking,
  idling,
  executing,
  undecoding,
  is_due,
  ActionTested,
  refusing,
  passing,
  is_tested,
  action_due,
}
use Rattle.machine.proofs.Stops.{MayStop, is_call, is_ret, is_reti_lem, goes_on_lem, may_stop}

never : {P : Type 0} → ◌≡◌ {A = Bool} false true → P
never e = let z : ◌≡◌ {A = ℕ} 0 1 = cc in absurd (omega arith)

-- a RETI that pops from an empty stack is not in reset mode
not_start_up : (empty reset : Bool) → (not (empty && reset) && empty) ≡ true → (empty ≡ true) × (reset ≡ false)
not_start_up true true e = never e
not_start_up true false e = (refl, refl)
not_start_up false reset e = never e

module _ (image : List ℕ) (m : Machine) (request : ℕ) (formed : is_well_formed m ≡ true) where
  -- by the test that makes it stop
  by_test :
      (x : Option Stop) (more : Step) (s : Stop) (test : Bool) → x ≡ cond test (Some s) None → (x ≡ None →
      Does image m request more) →
      (test ≡ true → Does image m request (refused_of m (stop_at s m.control.pc))) → Does image m request (stopped_of m x more)
  by_test x more s true e goes stopping = rw e (stopping refl)
  by_test x more s false e goes stopping = rw e (goes e)

  -- a stack that has no room has six levels in use
  six : is_full m.control ≡ true → m.control.levels ≡ 6
  six e = omega (arith, leb-true 6 m.control.levels e, (formed_exactly.facts m.stack m.control formed).levels)

  taken : (source : Source) → Takes m request source → Does image m request (taken_of m source)
  unfolding taken_of taken_by
  taken source e =
      by_test _ _ Full (is_full m.control) (take_stops m.stack m.control source).stop (takes source e)
      (λ f. stops _ (request_full source e (six f)))

  executed :
      TakesNone m request → m.control.asleep ≡ false → (i : Instruction) (bytes cycles : ℕ) →
      AtPc image m i bytes cycles → MayStop i →
      Does image m request (executed_of image m i bytes cycles)
  unfolding executed_of completed_of execute_of advance_of flow_of
  executed none awake i bytes cycles at (is_call to) =
      by_test _ _ Full (is_full m.control)
      (call_stops m.stack m.control to (forward_of m.control.pc bytes)).stop
      (executes i bytes cycles none awake at) (λ f. stops _ (call_full to bytes cycles none awake at (six f)))
  executed none awake i bytes cycles at is_ret =
      by_test _ _ Empty (eqb m.control.levels 0) (pop_stops m.stack m.control).stop
      (executes i bytes cycles none awake at)
      (λ f. stops _ (ret_empty bytes cycles none awake at (eqb-true m.control.levels 0 f)))
  executed none awake i bytes cycles at is_reti_lem =
      by_test _ _ Empty _ (return_stops m.stack m.control (forward_of m.control.pc bytes)).stop
      (executes i bytes cycles none awake at)
      (λ f.
      let p = not_start_up (eqb m.control.levels 0) (is_reset m.control.mode) f in
      stops _ (reti_empty bytes cycles none awake at (eqb-true m.control.levels 0 p.0) p.1))
  executed none awake i bytes cycles at (goes_on_lem e) =
      by_test _ _ Full false (e image (view_of m) m.stack m.control (forward_of m.control.pc bytes))
      (executes i bytes cycles none awake at) (λ f. never f)

  -- what comes of an action that is due
  acts : (a : StepAction) → Due image m request a → Does image m request (acted_of image m a)
  unfolding acted_of
  acts _ (taking source e) = taken source e
  acts _ (idling none asleep) = idles none asleep
  acts _ (executing i bytes cycles none awake at) = executed none awake i bytes cycles at (may_stop i)
  acts _ (undecoding r none awake e) = stops r (undecoded r none awake e)

-- of a step in program space
pub advance_does :
    (image : List ℕ) (m : Machine) (request : ℕ) → is_well_formed m ≡ true →
    Does image m request (advanced_of image m request)
unfolding advanced_of
advance_does image m request formed = acts image m request formed _ (is_due image m request)

pub step_does : StepDoes
unfolding step_of
step_does image m request size formed sources =
    rw (action_due image m request size formed sources)
    (acts (program_of image m.bytes) m request formed _ (is_due (program_of image m.bytes) m request))

-- a stop has one of four numbers, and PC
is_stop : (m : Machine) (number : ℕ) → 3 < number → number < 8 → IsStop m (located number m.control.pc)
is_stop m number h l = record {
  number = number;
  stops = record { least = omega arith; most = omega arith };
  is = refl;
}

module _ (image : List ℕ) (m : Machine) (request : ℕ) (size : is_space (length image) ≡ true)
    (formed : is_well_formed m ≡ true) where
  by_decoding :
      (a : Answer decode.Decoding) → AtAddress m.control.pc a → (r : Numbered) → a ≡ refused r → IsStop m r
  by_decoding (done d) at r e = let z : ◌≡◌ {A = ℕ} 0 1 = cc in absurd (omega arith)
  by_decoding (refused q) (inl is) r e =
      let f : r ≡ located 4 m.control.pc = cc in rw f (is_stop m 4 (omega arith) (omega arith))
  by_decoding (refused q) (inr is) r e =
      let f : r ≡ located 5 m.control.pc = cc in rw f (is_stop m 5 (omega arith) (omega arith))

  numbered_stop : (r : Numbered) → StepStops image m request r → IsStop m r
  numbered_stop _ (request_full source e l) = is_stop m 6 (omega arith) (omega arith)
  numbered_stop r (undecoded _ none awake e) =
      by_decoding (decode_at image m.control.pc)
      (at_address image m.control.pc size (formed_exactly.facts m.stack m.control formed).pc) r e
  numbered_stop _ (call_full to bytes cycles none awake at l) = is_stop m 6 (omega arith) (omega arith)
  numbered_stop _ (ret_empty bytes cycles none awake at l) = is_stop m 7 (omega arith) (omega arith)
  numbered_stop _ (reti_empty bytes cycles none awake at l mode) = is_stop m 7 (omega arith) (omega arith)

pub stops_numbered : StopsNumbered
stops_numbered image m request size formed r stop = numbered_stop image m request size formed r stop

-- a step: refused for one of three reasons, or as above
pub data Tested (image : List ℕ) (m : Machine) (request : ℕ) : Step → Type 0 where
  refuses : (r : Numbered) → StepRefused image m request r → Tested image m request (refused_of m r)
  passes :
      is_image (length image) ≡ true → is_well_formed m ≡ true → names_only_sources request ≡ true →
      (s : Step) → Does (program_of image m.bytes) m request s → Tested image m request s

pub step_tested : (image : List ℕ) (m : Machine) (request : ℕ) → Tested image m request (step_of image m request)
unfolding step_of acted_of
step_tested image m request = by_tests (action_of image m request) (is_tested image m request)
  where
    by_tests :
        (a : StepAction) → ActionTested image m request a →
        Tested image m request (acted_of (program_of image m.bytes) m a)
    by_tests _ (refusing r why) = refuses r why
    by_tests _ (passing i w n) =
        passes i w n _
        (acts (program_of image m.bytes) m request w _ (is_due (program_of image m.bytes) m request))
