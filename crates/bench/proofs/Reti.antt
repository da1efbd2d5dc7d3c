-- A step whose effect on the stack is that of RETI executes one, and the other way round.
use Prim.Native.Nat.{ℕ}
use mathlib.Core.Path.{◌≡◌, refl}
use mathlib.Core.Bool.{Bool, true, false, cond, ◌&&◌}
use mathlib.Core.List.{List, []}
use lib.Dec.{eqb}
use Rattle.isa.specs.ControlFlow.{flow_of}
use Rattle.isa.specs.Sources.{names_only_sources}
use Rattle.isa.specs.declared.Flow.{Flow}
use Rattle.isa.specs.declared.Flow.TheVariants as flow
use Rattle.isa.specs.declared.Instruction.{Instruction}
use Rattle.isa.specs.declared.Instruction.TheVariants as I
use Rattle.isa.specs.declared.Source.{Source}
use Rattle.control.specs.declared.Mode.{Mode}
use Rattle.control.specs.declared.Control.{Control}
use Rattle.control.specs.Modes.{is_reset}
use Rattle.control.specs.declared.Mode.TheVariants.{Normal}
use Rattle.std.specs.Prelude.{Option, Some, None}
use Rattle.control.specs.declared.Stop.{Stop}
use Rattle.control.specs.declared.Stop.TheVariants as stop
use Rattle.control.specs.Stack.{pop_of}
use Rattle.control.specs.Transfers.{return_from_interrupt_of, advance_of}
use Rattle.data.specs.Space.{program_of}
use Rattle.machine.specs.declared.Machine.{Machine}
use Rattle.machine.specs.Execute.{execute_of}
use Rattle.machine.specs.State.{view_of, fresh_of}
use Rattle.machine.specs.Actions.{StepAction, due_of}
use Rattle.machine.specs.Refusals.{Takes}
use Rattle.machine.proofs.Stops.{MayStop, may_stop}
use Rattle.machine.proofs.Stops as stops
use Rattle.machine.proofs.Due.{Due, taking, idling, executing, undecoding, takes_due, awake_due, is_due}
use Rattle.bench.specs.StackEffect.{by_request, by_reti, by_start_up, flow_effect}
use Rattle.bench.specs.StackEffect.{action_effect, stack_effect_of}
use Rattle.bench.specs.NoTrace.{RetiIn}

-- the effect of a RETI that pops is had only by its flow
flow_reti : (c : Control) (f : Flow) → flow_effect c f ≡ by_reti → f ≡ flow.ReturnFromInterrupt
unfolding flow_effect
flow_reti c flow.Next e = cc
flow_reti c (flow.Jump to) e = cc
flow_reti c (flow.Branch condition to) e = cc
flow_reti c (flow.Call to) e = cc
flow_reti c flow.Return e = cc
flow_reti c flow.ReturnFromInterrupt e = refl
flow_reti c flow.Sleep e = cc

-- no other instruction has the flow of RETI: what else pops nothing off an empty stack goes on
is_reti_lem : (i : Instruction) (a : ℕ) → flow_of i a ≡ flow.ReturnFromInterrupt → i ≡ I.Reti
unfolding execute_of advance_of flow_of return_from_interrupt_of pop_of
is_reti_lem i a h = by_kind i (may_stop i) h
  where
    emptied : Control
    emptied = record { pc = a; levels = 0; mode = Normal; asleep = false }

    by_kind : (i : Instruction) → MayStop i → flow_of i a ≡ flow.ReturnFromInterrupt → i ≡ I.Reti
    by_kind _ (stops.is_call to) h = cc
    by_kind _ stops.is_ret h = cc
    by_kind _ stops.is_reti_lem h = refl
    by_kind i (stops.goes_on_lem e) h =
        let x : ◌≡◌ {A = Option Stop} (Some stop.Empty) None = rw h at (e [] (view_of fresh_of) [] emptied 0) in
        cc

-- the effect of a RETI that pops is had only by a RETI
pub reti_executed : (image : List ℕ) (mode : Mode) (m : Machine) (request : ℕ) → names_only_sources request ≡ true
    → m.control.mode ≡ mode → stack_effect_of image m request ≡ by_reti → RetiIn image mode m request
unfolding stack_effect_of action_effect
reti_executed image mode m request named in_mode e =
    by_due (due_of (program_of image m.bytes) m request) (is_due (program_of image m.bytes) m request) e
  where
    by_due : (a : StepAction) → Due (program_of image m.bytes) m request a → action_effect m.control a ≡ by_reti
        → RetiIn image mode m request
    by_due _ (taking source is) e = cc
    by_due _ (idling nothing asleep) e = cc
    by_due _ (undecoding r nothing awake at) e = cc
    by_due _ (executing i bytes cycles nothing awake at) e =
        let is = is_reti_lem i m.control.pc (flow_reti m.control (flow_of i m.control.pc) e) in
        record {
          named = named;
          none_taken = nothing;
          awake = awake;
          bytes = bytes;
          cycles = cycles;
          at_pc = rw is at at;
          in_mode = in_mode;
        }

not_start_up : (b : Bool) (r : Bool) → r ≡ false → cond (b && r) by_start_up by_reti ≡ by_reti
not_start_up true r e = rw e refl
not_start_up false r e = refl

-- and a RETI outside start-up code has it
pub reti_effect : (image : List ℕ) (mode : Mode) (m : Machine) (request : ℕ) → RetiIn image mode m request
    → is_reset mode ≡ false → stack_effect_of image m request ≡ by_reti
unfolding stack_effect_of action_effect flow_effect flow_of
reti_effect image mode m request x started =
    rw (awake_due (program_of image m.bytes) m request x.none_taken x.awake _ x.at_pc)
    (not_start_up (eqb m.control.levels 0) (is_reset m.control.mode) (rw x.in_mode started))

-- a step that takes a request has its effect
pub request_effect : (image : List ℕ) (m : Machine) (request : ℕ) (source : Source) → Takes m request source
    → stack_effect_of image m request ≡ by_request source
unfolding stack_effect_of action_effect
request_effect image m request source e = rw (takes_due (program_of image m.bytes) m request source e)
