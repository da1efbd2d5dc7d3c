-- What a step makes of a stop: the machine as it was.
use Prim.Native.Nat.{ℕ}
use mathlib.Core.Path.{◌≡◌, refl, sym, ap, ◌∙◌}
use mathlib.Core.Logic.{◌⊎◌, inl, inr}
use mathlib.Core.List.{List}
use native.Mathlib.Omega.{arith}
use Rattle.std.specs.Prelude.{Option, Some, None, Result, Ok, Err}
use Rattle.alu.specs.declared.Flags.{Flags}
use Rattle.data.specs.Effect.{Data, data_of, effect_of}
use Rattle.isa.specs.ControlFlow.{flow_of}
use Rattle.isa.specs.Displacement.{forward_of}
use Rattle.isa.specs.declared.Instruction.{Instruction}
use Rattle.isa.specs.declared.Instruction.TheVariants as I
use Rattle.control.specs.declared.Control.{Control}
use Rattle.control.specs.declared.Stop.{Stop}
use Rattle.control.specs.Stack.{Transferred, stops, transfer_of, pop_of}
use Rattle.control.specs.Transfers.{call_of, return_from_interrupt_of, advance_of}
use Rattle.control.proofs.Stopped.{call_stops, pop_stops, return_stops}
use Rattle.control.proofs.Stopped as control
use Rattle.machine.specs.declared.FlagPairs.{FlagPairs}
use Rattle.machine.specs.declared.Machine.{Machine}
use Rattle.machine.specs.declared.Executed.{Executed}
use Rattle.machine.specs.declared.Room.{Room}
use Rattle.machine.specs.declared.Room.TheVariants.{Spare}
use Rattle.machine.specs.Pairs.{with_pair_of}
use Rattle.machine.specs.Execute.{Execution, execution_of, execution_by, execute_of, Left, left_of, unless_stopped, left_by}
use Rattle.machine.specs.State.{machine_of, view_of}
use Rattle.machine.specs.Advance.{stop_at, done_of, refused_of, taken_by, completed_of, executed_of}
use Rattle.machine.proofs.PairTests.{pair_put, put_twice}

-- there is one such byte
spare : (q : Room) → q ≡ Spare
spare Spare = refl

-- an execution from the answer of one that goes on
pub goes :
    {bytes stack : List ℕ} {r : Executed} {x : Execution} → execution_of bytes stack r ≡ x →
    left_of bytes stack (Ok r) ≡ left_by x
goes {bytes = bytes} {stack = stack} {r = r} e =
    ap (λ (q : Room). left_of bytes stack (Ok (record { control = r.control; flags = r.flags; room = q }))) (spare r.room)
    ∙ ap left_by e

-- .. and from that of a transfer
pub goes_by :
    (d : Data) (stack : List ℕ) (c : Control) (to : Result Control Stop) (t : Transferred) →
    transfer_of stack c to ≡ t →
    left_by (execution_by d (transfer_of stack c to)) ≡ left_by (execution_by d t)
goes_by d stack c to t e = ap (λ (u : Transferred). left_by (execution_by d u)) e

-- it goes on, or data and stack are as they were
abbrev pub Kept : Data → List ℕ → Execution → Type 0
Kept d stack x = (x.stop ≡ None) ⊎ ((x.space ≡ d) × (x.stack ≡ stack))

-- Only CALL, RET and RETI stop, and they have no effect on data.
pub data MayStop : Instruction → Type 0 where
  is_call : (to : ℕ) → MayStop (I.Call to)
  is_ret : MayStop I.Ret
  is_reti_lem : MayStop I.Reti
  goes_on_lem :
      {i : Instruction}
      → ((image : List ℕ) (d : Data) (stack : List ℕ) (c : Control) (next : ℕ)
      → (execute_of image d stack c i next).stop ≡ None)
      → MayStop i

pub may_stop : (i : Instruction) → MayStop i
unfolding execute_of advance_of flow_of
may_stop (I.Call to) = is_call to
may_stop I.Ret = is_ret
may_stop I.Reti = is_reti_lem
may_stop (I.Jrnz e) = goes_on_lem (λ image d stack c next. refl)
may_stop (I.Jrnc e) = goes_on_lem (λ image d stack c next. refl)
may_stop (I.Jrz e) = goes_on_lem (λ image d stack c next. refl)
may_stop (I.Jrc e) = goes_on_lem (λ image d stack c next. refl)
may_stop (I.Jp t) = goes_on_lem (λ image d stack c next. refl)
may_stop (I.Jrr n a e) = goes_on_lem (λ image d stack c next. refl)
may_stop (I.Jrs n a e) = goes_on_lem (λ image d stack c next. refl)
may_stop (I.Res n a) = goes_on_lem (λ image d stack c next. refl)
may_stop (I.Set n a) = goes_on_lem (λ image d stack c next. refl)
may_stop (I.LoadA o) = goes_on_lem (λ image d stack c next. refl)
may_stop (I.StoreA o) = goes_on_lem (λ image d stack c next. refl)
may_stop (I.LoadAImmediate v) = goes_on_lem (λ image d stack c next. refl)
may_stop (I.LoadImmediate a v) = goes_on_lem (λ image d stack c next. refl)
may_stop (I.Inc o) = goes_on_lem (λ image d stack c next. refl)
may_stop (I.Dec o) = goes_on_lem (λ image d stack c next. refl)
may_stop (I.Add o) = goes_on_lem (λ image d stack c next. refl)
may_stop (I.AddImmediate v) = goes_on_lem (λ image d stack c next. refl)
may_stop (I.Sub o) = goes_on_lem (λ image d stack c next. refl)
may_stop (I.SubImmediate v) = goes_on_lem (λ image d stack c next. refl)
may_stop (I.And o) = goes_on_lem (λ image d stack c next. refl)
may_stop (I.AndImmediate v) = goes_on_lem (λ image d stack c next. refl)
may_stop (I.Cp o) = goes_on_lem (λ image d stack c next. refl)
may_stop (I.CpImmediate v) = goes_on_lem (λ image d stack c next. refl)
may_stop I.Com = goes_on_lem (λ image d stack c next. refl)
may_stop I.Rlc = goes_on_lem (λ image d stack c next. refl)
may_stop I.Stop = goes_on_lem (λ image d stack c next. refl)
may_stop I.Wait = goes_on_lem (λ image d stack c next. refl)

module _ (image : List ℕ) (d : Data) (stack : List ℕ) (c : Control) where
  by_transfer : (t : Transferred) → control.Kept stack t → Kept d stack (execution_by d t)
  by_transfer t (inl e) = inl e
  by_transfer t (inr e) = inr (refl, e)

  by_kind : (i : Instruction) (next : ℕ) → MayStop i → Kept d stack (execute_of image d stack c i next)
  unfolding execute_of advance_of flow_of effect_of
  by_kind _ next (is_call to) = by_transfer (call_of stack c to next) (call_stops stack c to next).kept
  by_kind _ next is_ret = by_transfer (pop_of stack c) (pop_stops stack c).kept
  by_kind _ next is_reti_lem = by_transfer (return_from_interrupt_of stack c next) (return_stops stack c next).kept
  by_kind i next (goes_on_lem e) = inl (e image d stack c next)

  execution_keeps : (i : Instruction) (next : ℕ) → Kept d stack (execute_of image d stack c i next)
  execution_keeps i next = by_kind i next (may_stop i)

-- what an answer says of the stop
going : (o : Option Stop) (x y : Executed) → Ok y ≡ unless_stopped o x → (o ≡ None) × (y ≡ x)
going None x y e = (refl, cc)
going (Some s) x y e = let z : ◌≡◌ {A = ℕ} 0 1 = cc in absurd (omega arith)

stopping : (o : Option Stop) (x : Executed) (s : Stop) → Err s ≡ unless_stopped o x → o ≡ Some s
stopping None x s e = let z : ◌≡◌ {A = ℕ} 0 1 = cc in absurd (omega arith)
stopping (Some t) x s e = cc

-- no stop and a stop are apart
never : {P : Type 0} (s : Stop) → ◌≡◌ {A = Option Stop} None (Some s) → P
never s e = let z : ◌≡◌ {A = ℕ} 0 1 = cc in absurd (omega arith)

-- an instruction's end, from what the program was handed
module _ (m : Machine) (cycles : ℕ) (x : Execution) (bytes stack : List ℕ) (r : Result Executed Stop)
    (e : left_of bytes stack r ≡ left_by x) where
  bytes_left : bytes ≡ x.space.bytes
  bytes_left = ap (λ (l : Left). l.bytes) e

  stack_left : stack ≡ x.stack
  stack_left = ap (λ (l : Left). l.stack) e

  completed :
      (y : Executed) → r ≡ Ok y →
      done_of (machine_of y.control stack (with_pair_of m.flags m.control.mode y.flags) bytes) cycles
      ≡ completed_of m cycles x
  unfolding completed_of
  completed y h =
      let p = going x.stop _ y (sym h ∙ ap (λ (l : Left). l.answer) e) in
      rw (p.0, p.1, bytes_left, stack_left)

  stopped :
      Kept (view_of m) m.stack x → (s : Stop) → r ≡ Err s →
      refused_of (machine_of m.control stack m.flags bytes) (stop_at s m.control.pc) ≡ completed_of m cycles x
  unfolding completed_of
  stopped k s h =
      let stop : x.stop ≡ Some s = stopping x.stop _ s (sym h ∙ ap (λ (l : Left). l.answer) e) in
      let same : machine_of m.control stack m.flags bytes ≡ m = by_kept k stop in
      rw stop (ap (λ (n : Machine). refused_of n (stop_at s m.control.pc)) same)
    where
      by_kept : Kept (view_of m) m.stack x → x.stop ≡ Some s → machine_of m.control stack m.flags bytes ≡ m
      by_kept (inl n) stop = never s (sym n ∙ stop)
      by_kept (inr q) stop =
          let b : bytes ≡ m.bytes = bytes_left ∙ ap (λ (d : Data). d.bytes) q.0 in
          let p : stack ≡ m.stack = stack_left ∙ q.1 in
          rw (b, p)

-- the same where the pair in use is apart from the others: for both ways to execute an instruction
module _ (program : List ℕ) (c : Control) (flags : Flags) (i : Instruction) (n cycles : ℕ)
    (bytes stack left pushed : List ℕ) (pairs : FlagPairs) (r : Result Executed Stop)
    (e : left_of left pushed r ≡ left_by (execute_of program (data_of bytes flags) stack c i (forward_of c.pc n))) where
  abbrev before : Machine
  before = machine_of c stack (with_pair_of pairs c.mode flags) bytes

  seen : left_of left pushed r ≡ left_by (execute_of program (view_of before) stack c i (forward_of c.pc n))
  seen = rw (pair_put pairs c.mode flags) e

  pub executed_done :
      (y : Executed) → r ≡ Ok y →
      done_of (machine_of y.control pushed (with_pair_of pairs c.mode y.flags) left) cycles
      ≡ executed_of program before i n cycles
  unfolding executed_of
  executed_done y h =
      ap (λ (p : FlagPairs). done_of (machine_of y.control pushed p left) cycles)
      (sym (put_twice pairs c.mode flags y.flags))
      ∙ completed before cycles _ left pushed r seen y h

  pub executed_stopped :
      (s : Stop) → r ≡ Err s →
      refused_of (machine_of c pushed (with_pair_of pairs c.mode flags) left) (stop_at s c.pc)
      ≡ executed_of program before i n cycles
  unfolding executed_of
  executed_stopped s h =
      stopped before cycles _ left pushed r seen
      (execution_keeps program (view_of before) stack c i (forward_of c.pc n)) s h

-- a request's end, likewise
module _ (m : Machine) (t : Transferred) (stack : List ℕ) (c : Control) (r : Result Control Stop)
    (e : transfer_of stack c r ≡ t) where
  pub taken_done : (y : Control) → r ≡ Ok y → done_of (machine_of y stack m.flags m.bytes) 1 ≡ taken_by m t
  unfolding taken_by
  taken_done y h = rw (← e, h)

  pub taken_stopped :
      control.Kept m.stack t → (s : Stop) → r ≡ Err s →
      refused_of (machine_of m.control stack m.flags m.bytes) (stop_at s m.control.pc) ≡ taken_by m t
  unfolding taken_by
  taken_stopped k s h =
      let is : stops stack c s ≡ t = rw h at e in
      rw (← is) (ap (λ (n : Machine). refused_of n (stop_at s m.control.pc)) (same k is))
    where
      same : control.Kept m.stack t → stops stack c s ≡ t → machine_of m.control stack m.flags m.bytes ≡ m
      same (inl n) is = never s (sym n ∙ sym (ap (λ (y : Transferred). y.stop) is))
      same (inr q) is =
          let p : stack ≡ m.stack = ap (λ (y : Transferred). y.stack) is ∙ q in
          rw p
