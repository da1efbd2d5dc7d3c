-- The origin that a step tells is that of the byte which its instruction used; and what the reading answers.
use Prim.Native.Nat.{ℕ}
use mathlib.Core.Path.{◌≡◌, refl, ap, ◌∙◌}
use mathlib.Core.Bool.{Bool, true}
use mathlib.Core.List.{List}
use native.Mathlib.Omega.{arith}
use lib.ListN.{length, get_or}
use Rattle.std.specs.Prelude.{Option, Some, None}
use Rattle.isa.specs.Refusals.{Answer, done, refused}
use Rattle.isa.specs.Sources.{names_only_sources}
use Rattle.isa.specs.Rom.{is_image}
use Rattle.isa.specs.Displacement.{forward_of}
use Rattle.isa.specs.ControlFlow.{flow_of}
use Rattle.isa.specs.declared.Operand.{Operand}
use Rattle.isa.specs.declared.Instruction.{Instruction}
use Rattle.data.specs.declared.Origin.{Origin}
use Rattle.data.specs.Space.{read_of, origin_of, address_of, operand_of}
use Rattle.data.specs.Effect.{accumulator_of, effect_of}
use Rattle.data.specs.Reads.{operand_read_of, origin_at, origin_read_of}
use Rattle.data.proofs.Origins.{byte_comes_from}
use Rattle.control.specs.declared.Control.{Control}
use Rattle.control.specs.declared.Stop.{Stop}
use Rattle.control.specs.Stack.{Transferred}
use Rattle.control.specs.Transfers.{advance_of}
use Rattle.data.specs.Space.{program_of}
use Rattle.machine.specs.declared.Machine.{Machine}
use Rattle.machine.specs.Pairs.{with_pair_of}
use Rattle.machine.specs.Execute.{jumps_of, execute_of}
use Rattle.machine.specs.State.{machine_of, view_of, is_well_formed}
use Rattle.machine.specs.Advance.{
  Step,
  done_of,
  refused_of,
  stop_at,
  stopped_of,
  completed_of,
  executed_of,
  acted_of,
}
use Rattle.machine.specs.Actions.{StepAction, executes, action_of}
use Rattle.machine.specs.Step.{step_of}
use Rattle.machine.specs.Reading.{reading_of}
use Rattle.machine.specs.Operands.{action_read, read_if_done, step_read_of}
use Rattle.machine.specs.OriginTold.{
  Executes,
  TellsOf,
  Reads,
  AgreeOn,
  AgreeApart,
  nothing,
  stored_by,
  StepsAlike,
  OriginTold,
}
use Rattle.machine.proofs.Due.{
  Due,
  taking,
  idling,
  executing,
  undecoding,
  awake_due,
  is_due,
  ActionTested,
  refusing,
  passing,
  is_tested,
  action_due,
}
use Rattle.machine.proofs.Matters.{matters}
use Rattle.machine.proofs.ReadForms.{Change, changed, MadeOf, MadeApart, read_form, made_of, made_apart}

-- the end of a step that comes to an instruction, by what its change and its transfer of control are
abbrev ended : Machine → Transferred → Change → (cycles : ℕ) → Step
ended m t x cycles =
    stopped_of m t.stop
    (done_of
    (machine_of t.control t.stack (with_pair_of m.flags m.control.mode x.flags)
    (stored_by x.stores m.bytes))
    cycles)

abbrev transfer_of : Machine → Instruction → (jumps : Bool) → (bytes : ℕ) → Transferred
transfer_of m i jumps bytes =
    advance_of m.stack m.control (flow_of i m.control.pc) jumps (forward_of m.control.pc bytes)

module _ (image : List ℕ) (m : Machine) (request : ℕ) (i : Instruction) (bytes cycles : ℕ)
    (at : Executes image m request i bytes cycles) where
  pub is_action : action_of image m request ≡ executes i bytes cycles
  is_action =
      action_due image m request at.image_length at.formed at.sources
      ∙ awake_due (program_of image m.bytes) m request at.none_taken at.awake _ at.at_pc

  -- a step that comes to an instruction is that instruction
  pub comes : step_of image m request ≡ executed_of (program_of image m.bytes) m i bytes cycles
  unfolding step_of acted_of
  comes = ap (acted_of (program_of image m.bytes) m) is_action

  step_is :
      (x : Change) (jumps : Bool) → effect_of (program_of image m.bytes) (view_of m) i ≡ changed (view_of m) x →
      jumps_of (program_of image m.bytes) (view_of m) (flow_of i m.control.pc) ≡ jumps →
      step_of image m request ≡ ended m (transfer_of m i jumps bytes) x cycles
  unfolding executed_of completed_of execute_of
  step_is x jumps effect jump = comes ∙ rw (effect, jump)

-- two steps with the same change and transfer are alike, also where they stop
alike :
    (m m' : Machine) → m.control ≡ m'.control → m.stack ≡ m'.stack → m.flags ≡ m'.flags →
    (t : Transferred) (x : Change) (cycles : ℕ) → StepsAlike m m' (ended m t x cycles) (ended m' t x cycles)
alike m m' control stack flags t x cycles = by_stop t.stop
  where
    after : Machine → Step
    after n =
        done_of
        (machine_of t.control t.stack (with_pair_of n.flags n.control.mode x.flags)
        (stored_by x.stores n.bytes))
        cycles

    stays : (s : Stop) → StepsAlike m m' (refused_of m (stop_at s m.control.pc))
        (refused_of m' (stop_at s m'.control.pc))
    stays s = record {
      answer = ap (λ (c : Control). refused (stop_at s c.pc)) control;
      control = control;
      stack = stack;
      flags = flags;
      stores = nothing;
      first = refl;
      second = refl;
    }

    by_stop : (s : Option Stop) → StepsAlike m m' (stopped_of m s (after m)) (stopped_of m' s (after m'))
    by_stop None = record {
      answer = refl;
      control = refl;
      stack = refl;
      flags = rw (control, flags);
      stores = x.stores;
      first = refl;
      second = refl;
    }
    by_stop (Some s) = stays s

-- two steps that come to one instruction, from machines with the same control, stack and flags
module _ (image : List ℕ) (m : Machine) (image' : List ℕ) (m' : Machine) (request request' : ℕ) (i : Instruction)
    (bytes cycles : ℕ) (at : Executes image m request i bytes cycles) (at' : Executes image' m' request' i bytes cycles)
    (control : m.control ≡ m'.control) (stack : m.stack ≡ m'.stack) (flags : m.flags ≡ m'.flags) where
  both_alike :
      (x : Change) (jumps : Bool) →
      effect_of (program_of image m.bytes) (view_of m) i ≡ changed (view_of m) x → effect_of (program_of image' m'.bytes) (view_of m') i ≡ changed (view_of m') x →
      jumps_of (program_of image m.bytes) (view_of m) (flow_of i m.control.pc) ≡ jumps →
      jumps_of (program_of image' m'.bytes) (view_of m') (flow_of i m'.control.pc) ≡ jumps →
      StepsAlike m m' (step_of image m request) (step_of image' m' request')
  both_alike x jumps effect effect' jump jump' =
      let same : transfer_of m i jumps bytes ≡ transfer_of m' i jumps bytes = rw (control, stack) in
      rw (
        step_is image m request i bytes cycles at x jumps effect jump,
        step_is image' m' request' i bytes cycles at' x jumps effect' jump',
        same,
      )
      (alike m m' control stack flags (transfer_of m' i jumps bytes) x cycles)

  -- the flags in use
  view_flags : (view_of m).flags ≡ (view_of m').flags
  view_flags = rw (control, flags)

  unread_alike :
      MadeApart i → AgreeApart m m' → StepsAlike m m' (step_of image m request) (step_of image' m' request')
  unread_alike made agree =
      both_alike
      (made.change_of (accumulator_of m.bytes) (get_or m.bytes 0x80 0) (get_or m.bytes 0x81 0) (view_of m).flags)
      (made.jumps (view_of m).flags)
      (made.effect_is (program_of image m.bytes) (view_of m))
      (rw (agree.accumulator, agree.x, agree.y, view_flags) (made.effect_is (program_of image' m'.bytes) (view_of m')))
      (made.jumps_is (program_of image m.bytes) (view_of m) m.control.pc)
      (rw view_flags (made.jumps_is (program_of image' m'.bytes) (view_of m') m'.control.pc))

  used_alike :
      (o : Operand) → MadeOf i o → AgreeOn image m image' m' i o →
      StepsAlike m m' (step_of image m request) (step_of image' m' request')
  unfolding operand_of
  used_alike o made agree =
      both_alike
      (made.change_of (accumulator_of m.bytes) (operand_of (program_of image m.bytes) m.bytes o) (address_of m.bytes o)
      (view_of m).flags)
      (made.jumps (operand_of (program_of image m.bytes) m.bytes o))
      (made.effect_is (program_of image m.bytes) (view_of m))
      (rw (
        agree.byte,
        agree.address,
        view_flags,
        made.same (accumulator_of m.bytes) (accumulator_of m'.bytes) (operand_of (program_of image' m'.bytes) m'.bytes o)
            (address_of m'.bytes o) (view_of m').flags agree.accumulator,
      )
      (made.effect_is (program_of image' m'.bytes) (view_of m')))
      (made.jumps_is (program_of image m.bytes) (view_of m) m.control.pc)
      (rw agree.byte (made.jumps_is (program_of image' m'.bytes) (view_of m') m'.control.pc))

-- a step that comes to an instruction which reads is done, and tells its operand's origin
tells :
    {i : Instruction} {o : Operand} → MadeOf i o → (image : List ℕ) (m : Machine) (request bytes cycles : ℕ) →
    Executes image m request i bytes cycles → operand_read_of i ≡ Some o →
    TellsOf image m request cycles (address_of m.bytes o)
unfolding reading_of step_read_of origin_read_of executed_of completed_of
tells {i} {o} made image m request bytes cycles at reads =
    let completed : (step_of image m request).answer ≡ done cycles =
    ap (λ (s : Step). s.answer) (comes image m request i bytes cycles at)
    ∙ rw (made.goes (program_of image m.bytes) (view_of m) m.stack m.control (forward_of m.control.pc bytes)) in
    record {
      completed = completed;
      byte = read_of (program_of image m.bytes) m.bytes (address_of m.bytes o);
      origin = origin_of (program_of image m.bytes) m.bytes (address_of m.bytes o);
      reading = rw (at.image_length, at.formed);
      comes = byte_comes_from (program_of image m.bytes) m.bytes (address_of m.bytes o);
      told = rw (completed, is_action image m request i bytes cycles at, reads);
    }

-- none and an origin are apart
not_read : {P : Type 0} (x : Origin) → ◌≡◌ {A = Option Origin} None (Some x) → P
not_read x e = let z : ◌≡◌ {A = ℕ} 0 1 = cc in absurd (omega arith)

-- a step that tells an origin comes to an instruction that reads
module _ (image : List ℕ) (m : Machine) (request : ℕ) (x : Origin) where
  module _ (i : Instruction) (bytes cycles : ℕ) (at : Executes image m request i bytes cycles) where
    by_operand :
        (r : Option Operand) → operand_read_of i ≡ r →
        origin_at (program_of image m.bytes) m.bytes r ≡ Some x → Reads image m request
    by_operand None reads e = not_read x e
    by_operand (Some o) reads e = record {
      i = i;
      bytes = bytes;
      cycles = cycles;
      o = o;
      executes = at;
      reads = reads;
      completed = (tells (made_of i o (read_form i o reads)) image m request bytes cycles at reads).completed;
    }

  by_due :
      is_image (length image) ≡ true → is_well_formed m ≡ true → names_only_sources request ≡ true →
      (a : StepAction) → Due (program_of image m.bytes) m request a →
      action_read (program_of image m.bytes) m.bytes a ≡ Some x → Reads image m request
  unfolding origin_read_of
  by_due size formed sources _ (taking source is) e = not_read x e
  by_due size formed sources _ (idling none asleep) e = not_read x e
  by_due size formed sources _ (executing i bytes cycles none awake at) e =
      by_operand i bytes cycles (record {
        image_length = size;
        formed = formed;
        sources = sources;
        none_taken = none;
        awake = awake;
        at_pc = at;
      }) (operand_read_of i) refl e
  by_due size formed sources _ (undecoding r none awake at) e = not_read x e

  by_action :
      (a : StepAction) → ActionTested image m request a →
      action_read (program_of image m.bytes) m.bytes a ≡ Some x → Reads image m request
  by_action _ (refusing r why) e = not_read x e
  by_action _ (passing size formed sources) e =
      by_due size formed sources _ (is_due (program_of image m.bytes) m request) e

  by_answer :
      (a : Answer ℕ) →
      read_if_done a (action_read (program_of image m.bytes) m.bytes (action_of image m request)) ≡ Some x →
      Reads image m request
  by_answer (done spent) e = by_action (action_of image m request) (is_tested image m request) e
  by_answer (refused r) e = not_read x e

pub origin_told : OriginTold
unfolding step_read_of
origin_told = record {
  told = λ image m request i bytes cycles o at reads.
      tells (made_of i o (read_form i o reads)) image m request bytes cycles at reads;
  only = λ image m request x e. by_answer image m request x (step_of image m request).answer e;
  used = λ image m image' m' request request' i bytes cycles o at at' reads agree.
      used_alike image m image' m' request request' i bytes cycles at at' agree.control agree.stack agree.flags
      o (made_of i o (read_form i o reads)) agree;
  matters = matters;
  unread = λ image m image' m' request request' i bytes cycles at at' reads agree.
      unread_alike image m image' m' request request' i bytes cycles at at' agree.control agree.stack
      agree.flags (made_apart i reads) agree;
}
