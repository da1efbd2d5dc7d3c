-- A step writes and reads one flag pair, that of its mode.
use Prim.Native.Nat.{ℕ}
use mathlib.Core.Path.{◌≡◌, refl, sym, ap}
use mathlib.Core.Logic.{◌⊎◌, inl, inr, ◌≢◌}
use mathlib.Core.Bool.{Bool, true, false, cond, ◌&&◌}
use mathlib.Core.List.{List}
use native.Mathlib.Omega.{arith}
use Rattle.alu.specs.declared.Flags.{Flags}
use Rattle.data.specs.Effect.{data_of, effect_of}
use Rattle.isa.specs.Refusals.{Numbered, Answer, done, refused}
use Rattle.isa.specs.Displacement.{forward_of}
use Rattle.isa.specs.ControlFlow.{flow_of}
use Rattle.isa.specs.declared.Instruction.TheVariants as I
use Rattle.control.specs.declared.Mode.{Mode}
use Rattle.control.specs.declared.Mode.TheVariants.{Reset, Normal, Interrupt, NmiOverNormal, NmiOverInterrupt}
use Rattle.control.specs.declared.Control.{Control}
use Rattle.control.specs.declared.Stop.{Stop}
use Rattle.std.specs.Prelude.{Option, Some, None}
use Rattle.control.specs.Modes.{mode_beneath}
use Rattle.control.specs.Stack.{goes_on, pop_of}
use Rattle.control.specs.Update.{with_pc, with_mode}
use Rattle.control.specs.Transfers.{then_in, ends_start_up, return_from_interrupt_of, advance_of}
use Rattle.control.specs.Requests.{requested_of, take_of}
use Rattle.data.specs.Space.{program_of}
use Rattle.machine.specs.declared.FlagPairs.{FlagPairs}
use Rattle.machine.specs.declared.Machine.{Machine}
use Rattle.machine.specs.Pairs.{pair_of, with_nmi, with_pair_of}
use Rattle.machine.specs.Execute.{Execution, execute_of}
use Rattle.machine.specs.State.{view_of}
use Rattle.machine.specs.Actions as action
use Rattle.machine.specs.Actions.{StepAction, enabled_of, due_of, action_of}
use Rattle.machine.specs.Advance.{
  Step,
  done_of,
  stopped_of,
  after_of,
  taken_by,
  taken_of,
  completed_of,
  executed_of,
  acted_of,
}
use Rattle.machine.specs.Step.{step_of}
use Rattle.machine.specs.Refusals.{TakesNone, AtPc}
use Rattle.machine.specs.Laws.{execution_at, Does, stops, takes, idles, executes}
use Rattle.machine.specs.PairUse.{
  pair_number,
  OtherPairsKept,
  with_flags,
  Alike,
  OwnPairRead,
  FlagsAfterReti,
  NmiNotNested,
}
use Rattle.machine.proofs.StepDoes.{Tested, refuses, passes, step_tested}

-- a pair that was stored is that of the mode alone
other_than_nmi : (p : FlagPairs) (f : Flags) (b : Mode) → 3 ≢ pair_number b → pair_of (with_nmi p f) b ≡ pair_of p b
other_than_nmi p f Normal n = refl
other_than_nmi p f Interrupt n = refl
other_than_nmi p f Reset n = absurd (n refl)
other_than_nmi p f NmiOverNormal n = absurd (n refl)
other_than_nmi p f NmiOverInterrupt n = absurd (n refl)

other_pair :
    (p : FlagPairs) (f : Flags) (a b : Mode) → pair_number a ≢ pair_number b → pair_of (with_pair_of p a f) b ≡ pair_of p b
other_pair p f Normal Normal n = absurd (n refl)
other_pair p f Normal Interrupt n = refl
other_pair p f Normal Reset n = refl
other_pair p f Normal NmiOverNormal n = refl
other_pair p f Normal NmiOverInterrupt n = refl
other_pair p f Interrupt Normal n = refl
other_pair p f Interrupt Interrupt n = absurd (n refl)
other_pair p f Interrupt Reset n = refl
other_pair p f Interrupt NmiOverNormal n = refl
other_pair p f Interrupt NmiOverInterrupt n = refl
other_pair p f Reset b n = other_than_nmi p f b n
other_pair p f NmiOverNormal b n = other_than_nmi p f b n
other_pair p f NmiOverInterrupt b n = other_than_nmi p f b n

module _ (image : List ℕ) (m : Machine) (request : ℕ) (mode : Mode)
    (apart : pair_number m.control.mode ≢ pair_number mode) where
  by_case : (s : Step) → Does (program_of image m.bytes) m request s → pair_of s.machine.flags mode ≡ pair_of m.flags mode
  by_case _ (stops r is) = refl
  by_case _ (takes source e none) = refl
  by_case _ (idles none asleep) = refl
  by_case _ (executes i bytes cycles none awake at goes) = other_pair m.flags _ m.control.mode mode apart

  by_test : (s : Step) → Tested image m request s → pair_of s.machine.flags mode ≡ pair_of m.flags mode
  by_test _ (refuses r why) = refl
  by_test s (passes size formed sources _ deed) = by_case s deed

pub other_pairs_kept : OtherPairsKept
other_pairs_kept image m request mode apart = by_test image m request mode apart _ (step_tested image m request)

-- the pair of the mode is the one that was stored
own_pair :
    (p q : FlagPairs) (f : Flags) (mode : Mode) →
    pair_of (with_pair_of p mode f) mode ≡ pair_of (with_pair_of q mode f) mode
own_pair p q f Normal = refl
own_pair p q f Interrupt = refl
own_pair p q f Reset = refl
own_pair p q f NmiOverNormal = refl
own_pair p q f NmiOverInterrupt = refl

module _ (image : List ℕ) (m : Machine) (flags : FlagPairs)
    (same : pair_of flags m.control.mode ≡ pair_of m.flags m.control.mode) where
  unmoved :
      (a : Answer ℕ) →
      Alike m.control.mode (record { machine = m; answer = a }) (record { machine = with_flags m flags; answer = a })
  unmoved a = record { answer = refl; control = refl; stack = refl; bytes = refl; pair = sym same }

  unless_stopped :
      (s : Option Stop) (a b : Step) → Alike m.control.mode a b →
      Alike m.control.mode (stopped_of m s a) (stopped_of (with_flags m flags) s b)
  unless_stopped None a b h = h
  unless_stopped (Some s) a b h = unmoved _

  -- an instruction sees the same of data in both machines
  acted :
      (a : StepAction) → Alike m.control.mode (acted_of image m a) (acted_of image (with_flags m flags) a)
  unfolding acted_of taken_of taken_by executed_of completed_of
  acted (action.takes source) =
      unless_stopped (take_of m.stack m.control source).stop _ _
      (record { answer = refl; control = refl; stack = refl; bytes = refl; pair = sym same })
  acted action.idles = unmoved _
  acted (action.executes i bytes cycles) =
      let next : ℕ = forward_of m.control.pc bytes in
      let x : Execution = execute_of image (view_of m) m.stack m.control i next in
      let seen : execute_of image (view_of (with_flags m flags)) m.stack m.control i next ≡ x =
      ap (λ (f : Flags). execute_of image (data_of m.bytes f) m.stack m.control i next) same in
      rw seen
      (unless_stopped x.stop _ _
      (record {
        answer = refl;
        control = refl;
        stack = refl;
        bytes = refl;
        pair = own_pair m.flags flags x.space.flags m.control.mode;
      }))
  acted (action.refuses r) = unmoved _

-- what is due does not go by flags
pub own_pair_read : OwnPairRead
unfolding step_of action_of due_of
own_pair_read image m request flags same =
    acted (program_of image m.bytes) m flags same (action_of image m request)

-- RETI goes to the mode beneath, and puts back the pair that it was handed
beneath :
    (stack : List ℕ) (c : Control) (next : ℕ) →
    (return_from_interrupt_of stack c next).control.mode ≡ mode_beneath c.mode
unfolding return_from_interrupt_of
beneath stack c next = by_test (ends_start_up c)
  where
    by_test :
        (b : Bool) →
        (cond b (goes_on stack (with_mode (with_pc c next) (mode_beneath c.mode)))
        (then_in (pop_of stack c) (mode_beneath c.mode))).control.mode
        ≡ mode_beneath c.mode
    by_test true = refl
    by_test false = refl

put_back : (p : FlagPairs) (mode : Mode) → with_pair_of p mode (pair_of p mode) ≡ p
put_back p Normal = refl
put_back p Interrupt = refl
put_back p Reset = refl
put_back p NmiOverNormal = refl
put_back p NmiOverInterrupt = refl

not_done : {P : Type 0} (r : Numbered) (used : ℕ) → ◌≡◌ {A = Answer ℕ} (refused r) (done used) → P
not_done r used e = let z : ◌≡◌ {A = ℕ} 0 1 = cc in absurd (omega arith)

module _ (image : List ℕ) (m n : Machine) (request bytes cycles used : ℕ) (none : TakesNone m request)
    (awake : m.control.asleep ≡ false) (at : AtPc (program_of image m.bytes) m I.Reti bytes cycles) where
  abbrev Returned : Type 0
  Returned = pair_of n.flags n.control.mode ≡ pair_of m.flags (mode_beneath m.control.mode)

  returned : (next : ℕ) → after_of m
      (execute_of (program_of image m.bytes) (view_of m) m.stack m.control I.Reti next) ≡ n → Returned
  unfolding execute_of effect_of advance_of flow_of
  returned next e = rw (← e, put_back m.flags m.control.mode, beneath m.stack m.control next)

  by_deed : (s : Step) → Does (program_of image m.bytes) m request s → s ≡ done_of n used → Returned
  by_deed _ (stops r why) e = not_done r used (ap (λ (s : Step). s.answer) e)
  by_deed _ (takes source taken room) e = let z : ◌≡◌ {A = ℕ} 0 1 = cc in absurd (omega arith)
  by_deed _ (idles nothing asleep) e = let z : ◌≡◌ {A = ℕ} 0 1 = cc in absurd (omega arith)
  by_deed _ (executes i b c nothing up here goes) e =
      let is : i ≡ I.Reti = cc in
      let after : after_of m (execution_at (program_of image m.bytes) m i b) ≡ n = ap (λ (s : Step). s.machine) e in
      returned (forward_of m.control.pc b) (rw is at after)

  by_answer : (s : Step) → Tested image m request s → s ≡ done_of n used → Returned
  by_answer _ (refuses r why) e = not_done r used (ap (λ (s : Step). s.answer) e)
  by_answer s (passes size formed sources _ deed) e = by_deed s deed e

pub flags_after_reti : FlagsAfterReti
flags_after_reti image m n request bytes cycles used none awake at e =
    by_answer image m n request bytes cycles used none awake at (step_of image m request) (step_tested image m request) e

-- in the NMI modes nothing is taken
and_false : (b : Bool) → (b && false) ≡ false
and_false true = refl
and_false false = refl

nothing_taken :
    (mode : Mode) → (mode ≡ NmiOverNormal) ⊎ (mode ≡ NmiOverInterrupt) → (enabled : Bool) (request : ℕ) →
    requested_of mode enabled request ≡ None
unfolding requested_of
nothing_taken mode (inl e) enabled request = rw e (simp and_false)
nothing_taken mode (inr e) enabled request = rw e (simp and_false)

pub nmi_not_nested : NmiNotNested
unfolding step_of action_of due_of
nmi_not_nested image m request nmi named =
    rw (
      named,
      nothing_taken m.control.mode nmi (enabled_of m.bytes) request,
      nothing_taken m.control.mode nmi (enabled_of m.bytes) 0,
    )
