-- The walk of a step: from frames of an accepted certificate a step does not stop, and is one of the moves. Data, flags
-- and cycles are not looked at.
use Prim.Native.Nat.{ℕ, zero, suc, ◌+◌, ◌<◌}
use native.Mathlib.Omega.{arith}
use mathlib.Core.Path.{◌≡◌, refl, sym, ap, subst, ◌∙◌}
use mathlib.Core.Logic.{inl, inr}
use mathlib.Core.Bool.{Bool, true, false, cond}
use mathlib.Core.List.{List, ◌∷◌}
use lib.Dec.{eqb-suc-zero}
use lib.ListN.{length, get_or, set, length-set}
use borrow.Author.Tests.{lt-leb}
use Rattle.isa.specs.Displacement.{forward_of}
use Rattle.isa.specs.ControlFlow.{flow_of}
use Rattle.isa.specs.declared.Flow.{Flow}
use Rattle.isa.specs.declared.Flow.TheVariants as flow
use Rattle.isa.specs.declared.Source.{Source}
use Rattle.control.specs.declared.Mode.{Mode}
use Rattle.control.specs.declared.Mode.TheVariants.{Reset, Normal, Interrupt, NmiOverNormal, NmiOverInterrupt}
use Rattle.control.specs.declared.Control.{Control}
use Rattle.std.specs.Prelude.{None}
use Rattle.control.specs.Stack.{Transferred, in_use, is_full, push_of, pop_of}
use Rattle.control.specs.Transfers.{slept_of, call_of, return_from_interrupt_of, advance_of}
use Rattle.control.specs.Requests.{serving_of, take_of}
use Rattle.data.specs.Space.{program_of}
use Rattle.data.specs.Effect.{Data, effect_of}
use Rattle.machine.specs.declared.Machine.{Machine}
use Rattle.machine.specs.Execute.{execution_by, jumps_of, execute_of}
use Rattle.machine.specs.State.{view_of}
use Rattle.machine.specs.Actions.{StepAction, executes, decoded_action, enabled_of, due_of}
use Rattle.machine.specs.Step.{Step, taken_by, taken_of, completed_of, executed_of, acted_of, advanced_of}
use Rattle.machine.proofs.Due.{Due, taking, idling, executing, undecoding, is_due}
use Rattle.certificate.specs.Marks.{kind_at}
use Rattle.certificate.specs.Rules.{Continues, EndsStartUp, FlowRule, Runs, Rules}
use Rattle.bench.specs.Calls.{AsksOnly}
use Rattle.bench.specs.Session.{return_addresses, StepDone}
use Rattle.bench.specs.StackEffect.{StackEffect, by_request, by_call, by_ret, flow_effect, action_effect}
use Rattle.bench.specs.StackEffect.{stack_effect_of}
use Rattle.bench.proofs.Stack.{length_in_use, in_use_push, control_at, pop_is}
use Rattle.bench.proofs.Marks.{marked}
use Rattle.bench.proofs.StackFrames.{within_number, has_kind_lem, ret_empty, reti_empty, at_start}
use Rattle.bench.proofs.Moves as moves
use Rattle.bench.proofs.Moves.{Moves, frames_kept}
use Rattle.bench.proofs.Requests.{Allowed, taken_allowed}
use Rattle.bench.proofs.Invariant.{Invariant, MachineInvariant}

-- control and stack go on without a stop, by a move from where they were
pub record Goes (certificate : List ℕ) (wired : ℕ) (d : StackEffect) (slots : List ℕ) (c : Control)
    (t : Transferred) : Type 0 where
  pub no_stop : t.stop ≡ None
  pub six : length t.stack ≡ 6
  pub moves : Moves certificate wired d
      c.mode c.pc (in_use c.levels slots) t.control.mode t.control.pc
      (in_use t.control.levels t.stack)

-- a step is done, and is a move of the machine
pub record Advances (certificate : List ℕ) (wired : ℕ) (d : StackEffect) (m : Machine) (s : Step) : Type 0 where
  pub done : StepDone s
  pub six : length s.machine.stack ≡ 6
  pub moves : Moves certificate wired d
      m.control.mode m.control.pc (return_addresses m) s.machine.control.mode s.machine.control.pc
      (return_addresses s.machine)

-- so the machine after it has frames again
pub invariant_after : (certificate : List ℕ) (wired : ℕ) {d : StackEffect} {m : Machine} {s : Step}
    → Advances certificate wired d m s
    → MachineInvariant certificate wired m → MachineInvariant certificate wired s.machine
invariant_after certificate wired a g = record { six = a.six; frames = frames_kept a.moves g.frames }

-- there is room for a push, and its address is then on top
record Room (slots : List ℕ) (c : Control) (address : ℕ) : Type 0 where
  pub not_full : is_full c ≡ false
  pub six : length (set slots c.levels address) ≡ 6
  pub on_top : in_use (c.levels + 1) (set slots c.levels address) ≡ address ∷ in_use c.levels slots

module _ (image certificate : List ℕ) (wired number : ℕ) (ok : Rules image certificate wired number) where
  -- a push for a move: since the move keeps the frames, there is room
  room : (slots : List ℕ) (c : Control) (address : ℕ) {d : StackEffect} {mode : Mode} {pc : ℕ}
      → Invariant certificate wired slots c
      → Moves certificate wired d c.mode c.pc (in_use c.levels slots) mode pc
      (address ∷ in_use c.levels slots) → Room slots c address
  room slots c address g move =
      let h = within_number (frames_kept move g.frames) in
      let six = g.six in
      let less : c.levels < 6 = omega (arith, length_in_use c.levels slots, ok.counted, ok.at_most_six) in
      record {
        not_full = lt-leb 6 c.levels less;
        six = length-set slots c.levels address ∙ six;
        on_top = in_use_push c.levels address slots (omega arith);
      }

  call : (slots : List ℕ) (c : Control) (to next : ℕ) → Invariant certificate wired slots c
      → Moves certificate wired by_call c.mode c.pc (in_use c.levels slots) c.mode to
      (next ∷ in_use c.levels slots)
      → Goes certificate wired by_call slots c (call_of slots c to next)
  unfolding call_of push_of
  call slots c to next g move =
      let r = room slots c next g move in
      rw r.not_full (record { no_stop = refl; six = r.six; moves = rw r.on_top move })

  -- a request that is taken
  take : (slots : List ℕ) (c : Control) (source : Source) → Allowed certificate wired c.mode source
      → Invariant certificate wired slots c
      → Goes certificate wired (by_request source) slots c (take_of slots c source)
  unfolding take_of push_of serving_of
  take slots c source a g =
      let move = moves.takes a.takes a.wired_source in
      let r = room slots c c.pc g move in
      rw r.not_full (record { no_stop = refl; six = r.six; moves = rw r.on_top move })

  -- RET and RETI, by the number of levels in use
  module _ (slots : List ℕ) (pc : ℕ) (asleep : Bool) where
    return : (n : ℕ) (mode : Mode) → kind_at certificate pc ≡ 4
        → Invariant certificate wired slots (control_at pc n mode asleep)
        → Goes certificate wired by_ret slots (control_at pc n mode asleep) (pop_of slots (control_at pc n mode asleep))
    return zero mode k g = absurd (ret_empty g.frames k)
    return (suc n) mode k g =
        rw (pop_is slots pc n mode asleep) (record { no_stop = refl; six = g.six; moves = moves.returns k })

    -- control goes on after a RETI
    abbrev AfterReti : Control → (next : ℕ) → Type 0
    AfterReti c next =
        Goes certificate wired (flow_effect c flow.ReturnFromInterrupt) slots c (return_from_interrupt_of slots c next)

    -- of a service
    leave : (n : ℕ) (mode : Mode) (next : ℕ) → kind_at certificate pc ≡ 3
        → Invariant certificate wired slots (control_at pc n mode asleep)
        → AfterReti (control_at pc n mode asleep) next
    unfolding return_from_interrupt_of flow_effect
    leave zero mode next k g = absurd (reti_empty g.frames k)
    leave (suc n) mode next k g =
        rw (eqb-suc-zero n, pop_is slots pc n mode asleep)
        (record { no_stop = refl; six = g.six; moves = moves.leaves k })

    -- of start-up code
    begin : (n : ℕ) (mode : Mode) (next : ℕ) → EndsStartUp certificate pc next
        → Invariant certificate wired slots (control_at pc n mode asleep)
        → AfterReti (control_at pc n mode asleep) next
    unfolding return_from_interrupt_of flow_effect
    begin zero Reset next e g = record { no_stop = refl; six = g.six; moves = moves.begins e }
    begin (suc n) Reset next e g = absurd (at_start g.frames e.kind)
    begin n Normal next e g = absurd (at_start g.frames e.kind)
    begin n Interrupt next e g = absurd (at_start g.frames e.kind)
    begin n NmiOverNormal next e g = absurd (at_start g.frames e.kind)
    begin n NmiOverInterrupt next e g = absurd (at_start g.frames e.kind)

  branch : (p to next : ℕ) (jumps : Bool) → Continues certificate p to × Continues certificate p next
      → Continues certificate p (cond jumps to next)
  branch p to next true r = r.0
  branch p to next false r = r.1

  -- an instruction that obeys its rule
  obey : (slots : List ℕ) (c : Control) (f : Flow) (jumps : Bool) (next : ℕ) → FlowRule certificate c.pc f next
      → Invariant certificate wired slots c
      → Goes certificate wired (flow_effect c f) slots c (advance_of slots c f jumps next)
  unfolding advance_of slept_of flow_effect
  obey slots c flow.Next jumps next r g = record { no_stop = refl; six = g.six; moves = moves.continues r }
  obey slots c (flow.Jump to) jumps next r g = record { no_stop = refl; six = g.six; moves = moves.continues r }
  obey slots c (flow.Branch condition to) jumps next r g =
      record { no_stop = refl; six = g.six; moves = moves.continues (branch c.pc to next jumps r) }
  obey slots c (flow.Call to) jumps next r g = call slots c to next g (moves.calls r)
  obey slots c flow.Return jumps next r g = return slots c.pc c.asleep c.levels c.mode r g
  obey slots c flow.ReturnFromInterrupt jumps next (inl k) g =
      leave slots c.pc c.asleep c.levels c.mode next k g
  obey slots c flow.ReturnFromInterrupt jumps next (inr e) g =
      begin slots c.pc c.asleep c.levels c.mode next e g
  obey slots c flow.Sleep jumps next r g = record { no_stop = refl; six = g.six; moves = moves.continues r }

  module _ (m : Machine) where
    -- the step of an instruction or of a request, whatever happens to data
    completed : (cycles : ℕ) (d : StackEffect) (e : Data) (t : Transferred)
        → Goes certificate wired d m.stack m.control t
        → Advances certificate wired d m (completed_of m cycles (execution_by e t))
    unfolding completed_of
    completed cycles d e t g =
        rw g.no_stop (record { done = record { cycles = cycles; answer = refl }; six = g.six; moves = g.moves })

    served : (d : StackEffect) (t : Transferred) → Goes certificate wired d m.stack m.control t
        → Advances certificate wired d m (taken_by m t)
    unfolding taken_by
    served d t g =
        rw g.no_stop (record { done = record { cycles = 1; answer = refl }; six = g.six; moves = g.moves })

  module _ (m : Machine) (g : MachineInvariant certificate wired m) where
    -- program space as it stands
    abbrev program : List ℕ
    program = program_of image m.bytes

    -- PC is at a marked address, so an instruction stands there
    runs : Runs program certificate m.control.pc
    runs =
        (ok.marked m.control.pc (marked certificate m.control.pc (has_kind_lem g.frames))
        ).runs (get_or m.bytes 0xCA 0)

    -- it obeys its rule
    abbrev Goes_on : StepAction → Type 0
    Goes_on a = Advances certificate wired (action_effect m.control a) m (acted_of program m a)

    instruct : Goes_on (executes runs.instruction runs.bytes runs.cycles)
    unfolding acted_of action_effect executed_of execute_of
    instruct =
        let f = flow_of runs.instruction m.control.pc in
        completed m runs.cycles (flow_effect m.control f) (effect_of program (view_of m) runs.instruction) _
        (obey m.stack m.control f (jumps_of program (view_of m) f) (forward_of m.control.pc runs.bytes)
        runs.rule g)

    acts : (request : ℕ) → AsksOnly wired request → (a : StepAction) → Due program m request a → Goes_on a
    unfolding acted_of action_effect taken_of
    acts request asks _ (taking source is) =
        served m (by_request source) (take_of m.stack m.control source)
        (take m.stack m.control source
        (rw is at
        (taken_allowed image certificate wired number ok m.control.mode (enabled_of m.bytes) request asks)) g)
    acts request asks _ (idling nothing asleep) =
        record { done = record { cycles = 0; answer = refl }; six = g.six; moves = moves.idles }
    acts request asks a (executing i bytes cycles nothing awake at) =
        subst Goes_on (ap decoded_action (sym runs.decodes ∙ at)) instruct
    acts request asks _ (undecoding r nothing awake at) =
        let x = sym at ∙ runs.decodes in
        cc

    -- a step whose requests are of wired sources goes on
    pub advances : (request : ℕ) → AsksOnly wired request
        → Advances certificate wired (stack_effect_of image m request) m (advanced_of program m request)
    unfolding advanced_of stack_effect_of
    advances request asks = acts request asks (due_of program m request) (is_due program m request)
