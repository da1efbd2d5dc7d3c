-- Where control stops, and that the stack is then as it was.
use Prim.Native.Nat.{ℕ}
use mathlib.Core.Path.{◌≡◌, refl}
use mathlib.Core.Logic.{◌⊎◌, inl, inr}
use mathlib.Core.Bool.{Bool, true, false, cond, not, ◌&&◌}
use mathlib.Core.List.{List}
use lib.Dec.{eqb}
use Rattle.std.specs.Prelude.{Some, None}
use Rattle.isa.specs.declared.Source.{Source}
use Rattle.control.specs.declared.Control.{Control}
use Rattle.control.specs.declared.Stop.{Stop}
use Rattle.control.specs.declared.Stop.TheVariants.{Full, Empty}
use Rattle.control.specs.Update.{with_pc, with_mode}
use Rattle.control.specs.Modes.{mode_beneath}
use Rattle.control.specs.Stack.{Transferred, goes_on, stops, is_full, push_of, pop_of}
use Rattle.control.specs.Transfers.{then_in, call_of, ends_start_up, return_from_interrupt_of}
use Rattle.control.specs.Requests.{take_of}

-- it goes on, or the stack is as it was
abbrev pub Kept : List ℕ → Transferred → Type 0
Kept stack t = (t.stop ≡ None) ⊎ (t.stack ≡ stack)

-- it stops exactly where a test holds, and then the stack is as it was
pub record StopsWhere (test : Bool) (s : Stop) (stack : List ℕ) (t : Transferred) : Type 0 where
  pub stop : t.stop ≡ cond test (Some s) None
  pub kept : Kept stack t

module _ (stack : List ℕ) (c : Control) where
  by_test :
      (test : Bool) (s : Stop) (more : Transferred) → more.stop ≡ None →
      StopsWhere test s stack (cond test (stops stack c s) more)
  by_test true s more e = record { stop = refl; kept = inr refl }
  by_test false s more e = record { stop = e; kept = inl e }

  push_stops : (address : ℕ) → StopsWhere (is_full c) Full stack (push_of stack c address)
  unfolding push_of
  push_stops address = by_test (is_full c) Full _ refl

  pub call_stops : (to next : ℕ) → StopsWhere (is_full c) Full stack (call_of stack c to next)
  unfolding call_of
  call_stops to next = record { stop = (push_stops next).stop; kept = (push_stops next).kept }

  pub take_stops : (s : Source) → StopsWhere (is_full c) Full stack (take_of stack c s)
  unfolding take_of
  take_stops s = record { stop = (push_stops c.pc).stop; kept = (push_stops c.pc).kept }

  pub pop_stops : StopsWhere (eqb c.levels 0) Empty stack (pop_of stack c)
  unfolding pop_of
  pop_stops = by_test (eqb c.levels 0) Empty _ refl

  pub return_stops :
      (next : ℕ) →
      StopsWhere (not (ends_start_up c) && eqb c.levels 0) Empty stack (return_from_interrupt_of stack c next)
  unfolding return_from_interrupt_of
  return_stops next = by_start_up (ends_start_up c)
    where
      by_start_up :
          (b : Bool) → StopsWhere (not b && eqb c.levels 0) Empty stack
          (cond b (goes_on stack (with_mode (with_pc c next) (mode_beneath c.mode)))
          (then_in (pop_of stack c) (mode_beneath c.mode)))
      by_start_up true = record { stop = refl; kept = inl refl }
      by_start_up false = record { stop = pop_stops.stop; kept = pop_stops.kept }
