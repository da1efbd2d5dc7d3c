-- The stack of six return addresses: the one push and the one pop (document 01, "Modes, stack, sleep" and "Step").
use Rattle.std.specs.Prelude.{ℕ, zero, suc, ◌+◌, ◌-◌, Bool, cond, List, [], ◌∷◌, get_or, set, leb, eqb, Option, Some, None, Result, Ok, Err}
use Rattle.control.specs.declared.Control.{Control}
use Rattle.control.specs.declared.Stop.{Stop}
use Rattle.control.specs.declared.Stop.TheVariants.{Full, Empty}
use Rattle.control.specs.Update.{with_pc, with_levels}

-- where control and the stack go, and what stops them, if anything does
pub record Transferred : Type 0 where
  pub control : Control
  pub stack : List ℕ
  pub stop : Option Stop

abbrev pub goes_on : List ℕ → Control → Transferred
goes_on stack c = record { control = c; stack = stack; stop = None }

abbrev pub stops : List ℕ → Control → Stop → Transferred
stops stack c s = record { control = c; stack = stack; stop = Some s }

-- the program's answer, with the stack that it was lent, and the control at which it stops
abbrev pub transfer_of : List ℕ → Control → Result Control Stop → Transferred
transfer_of stack c (Ok c') = goes_on stack c'
transfer_of stack c (Err s) = stops stack c s

-- the return addresses in use, the top first: the slots below the number of levels
abbrev pub in_use : ℕ → List ℕ → List ℕ
in_use zero slots = []
in_use (suc n) slots = get_or slots n 0 ∷ in_use n slots

-- six levels are in use
abbrev pub is_full : Control → Bool
is_full c = leb 6 c.levels

-- a push: a stop on six levels; else the address is on top
unfoldable pub push_of : List ℕ → Control → ℕ → Transferred
push_of stack c address =
    cond (is_full c) (stops stack c Full)
    (goes_on (set stack c.levels address) (with_levels c (c.levels + 1)))

-- "7 pop on an empty stack"; else PC is the top return address
unfoldable pub pop_of : List ℕ → Control → Transferred
pop_of stack c =
    cond (eqb c.levels 0) (stops stack c Empty)
    (goes_on stack (with_levels (with_pc c (get_or stack (c.levels - 1) 0)) (c.levels - 1)))
