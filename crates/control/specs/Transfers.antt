-- Where each kind of flow takes control (document 01, "Modes, stack, sleep").
use Rattle.std.specs.Prelude.{ℕ, Bool, true, cond, ◌&&◌, List, eqb}
use Rattle.isa.specs.declared.Flow.{Flow}
use Rattle.isa.specs.declared.Flow.TheVariants as flow
use Rattle.control.specs.declared.Mode.{Mode}
use Rattle.control.specs.declared.Control.{Control}
use Rattle.control.specs.Update.{with_pc, with_mode, with_sleep}
use Rattle.control.specs.Modes.{mode_beneath, is_reset}
use Rattle.control.specs.Stack.{Transferred, goes_on, push_of, pop_of}

-- "STOP and WAIT sleep with PC at the next address"
unfoldable pub slept_of : Control → ℕ → Control
slept_of c next = with_sleep (with_pc c next) true

-- a branch: to the target where it jumps, else to the next address
abbrev pub branch_of : Control → Bool → ℕ → ℕ → Control
branch_of c jumps to next = with_pc c (cond jumps to next)

-- after a push or a pop
abbrev pub then_at : Transferred → ℕ → Transferred
then_at t pc = record { control = with_pc t.control pc; stack = t.stack; stop = t.stop }

abbrev pub then_in : Transferred → Mode → Transferred
then_in t mode = record { control = with_mode t.control mode; stack = t.stack; stop = t.stop }

-- "6 CALL on six levels"; "CALL pushes its address plus 2", which is the next address
unfoldable pub call_of : List ℕ → Control → (to next : ℕ) → Transferred
call_of stack c to next = then_at (push_of stack c next) to

-- "in reset mode with an empty stack"
abbrev pub ends_start_up : Control → Bool
ends_start_up c = eqb c.levels 0 && is_reset c.mode

-- "RETI pops PC and returns to the mode beneath [..]; in reset mode with an empty stack it pops nothing and goes on
-- at the next address."
unfoldable pub return_from_interrupt_of : List ℕ → Control → (next : ℕ) → Transferred
return_from_interrupt_of stack c next =
    cond (ends_start_up c) (goes_on stack (with_mode (with_pc c next) (mode_beneath c.mode)))
    (then_in (pop_of stack c) (mode_beneath c.mode))

-- control and stack after an instruction of this flow; `jumps` says whether a branch's condition holds, `next` is the
-- next address
unfoldable pub advance_of : List ℕ → Control → Flow → (jumps : Bool) → (next : ℕ) → Transferred
advance_of stack c flow.Next jumps next = goes_on stack (with_pc c next)
advance_of stack c (flow.Jump to) jumps next = goes_on stack (with_pc c to)
advance_of stack c (flow.Branch condition to) jumps next = goes_on stack (branch_of c jumps to next)
advance_of stack c (flow.Call to) jumps next = call_of stack c to next
advance_of stack c flow.Return jumps next = pop_of stack c
advance_of stack c flow.ReturnFromInterrupt jumps next = return_from_interrupt_of stack c next
advance_of stack c flow.Sleep jumps next = goes_on stack (slept_of c next)
