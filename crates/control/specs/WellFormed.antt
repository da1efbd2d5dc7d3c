-- Well-formedness (document 01, "Host store: 2 ill-formed machine").
use Rattle.std.specs.Prelude.{ℕ, zero, suc, ◌<◌, ◌≤◌, ◌≡◌, Bool, true, ◌&&◌, List, get_or, ltb, leb}
use Rattle.isa.specs.Targets.{InRange}
use Rattle.isa.specs.declared.Flow.{Flow}
use Rattle.isa.specs.declared.Source.{Source}
use Rattle.control.specs.declared.Control.{Control}
use Rattle.control.specs.Stack.{Transferred}
use Rattle.control.specs.Transfers.{advance_of}
use Rattle.control.specs.Requests.{take_of}

-- the first n return addresses are at most FFFh
unfoldable pub addresses_fit : List ℕ → ℕ → Bool
addresses_fit stack zero = true
addresses_fit stack (suc n) = ltb (get_or stack n 0) 0x1000 && addresses_fit stack n

-- not "PC or a return address in use above FFFh, or more than six levels"
unfoldable pub well_formed : List ℕ → Control → Bool
well_formed stack c = ltb c.pc 0x1000 && (leb c.levels 6 && addresses_fit stack c.levels)

-- the same as facts
pub record Formed (stack : List ℕ) (c : Control) : Type 0 where
  pub pc : c.pc < 0x1000
  pub levels : c.levels ≤ 6
  pub addresses : (k : ℕ) → k < c.levels → get_or stack k 0 < 0x1000

-- proved by formed_exactly, proofs/StaysWellFormed
pub record FormedExactly : Type 0 where
  pub facts : (stack : List ℕ) (c : Control) → well_formed stack c ≡ true → Formed stack c
  pub test : (stack : List ℕ) (c : Control) → Formed stack c → well_formed stack c ≡ true

abbrev pub FormedAfter : Transferred → Type 0
FormedAfter t = Formed t.stack t.control

-- control and stack stay well formed, wherever an instruction's flow or a request takes them
-- proved by stays_formed, proofs/StaysWellFormed
pub record StaysFormed : Type 0 where
  pub by_flow :
      (stack : List ℕ) (c : Control) → Formed stack c → (f : Flow) → InRange f → (jumps : Bool) (next : ℕ) →
      next < 0x1000 →
      FormedAfter (advance_of stack c f jumps next)
  pub by_request :
      (stack : List ℕ) (c : Control) → Formed stack c → (s : Source) → FormedAfter (take_of stack c s)
