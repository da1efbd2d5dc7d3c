-- Levels in use are the pushes since the last reset less the pops (document 01, "The certificate", last paragraph).
use Rattle.std.specs.Prelude.{ℕ, zero, suc, ◌+◌, ◌≡◌, cond, ◌&&◌, List, [], ◌∷◌, leb, get_or, take}
use Rattle.isa.specs.Sources.{names_only_sources}
use Rattle.machine.specs.declared.Machine.{Machine}
use Rattle.machine.specs.State.{reset_of}
use Rattle.machine.specs.Run.{steps_of, requests_fit}
use Rattle.certificate.specs.Check.{check_of, accepted}
use Rattle.bench.specs.Calls.{Call, step, run, store, reset, leaves, leaves_all, AllAskOnly, unrolled}
use Rattle.bench.specs.Session.{levels_in_use}
use Rattle.bench.specs.StackEffect.{StackEffect, by_request, by_call, by_ret, by_reti, by_start_up, none}
use Rattle.bench.specs.StackEffect.{stack_effect_of}

-- "the pushes since the last reset", and "the pops"
pub record Tally : Type 0 where
  pub pushes : ℕ
  pub pops : ℕ

-- "Reset [..] empties the stack"
abbrev pub cleared : Tally
cleared = record { pushes = 0; pops = 0 }

-- a push more
abbrev pub pushed : Tally → Tally
pushed t = record { pushes = t.pushes + 1; pops = t.pops }

-- a pop more
abbrev pub popped : Tally → Tally
popped t = record { pushes = t.pushes; pops = t.pops + 1 }

-- "Taking one pushes PC", "CALL pushes its address plus 2", RET and "RETI pops PC"; "in reset mode with an empty stack
-- it pops nothing"
unfoldable pub counted : Tally → StackEffect → Tally
counted t (by_request source) = pushed t
counted t by_call = pushed t
counted t by_ret = popped t
counted t by_reti = popped t
counted t by_start_up = t
counted t none = t

-- a step; "a refused call leaves the machine as it was"
unfoldable pub step_counted : (image : List ℕ) → Machine → (request : ℕ) → Tally → Tally
step_counted image m request t = cond (names_only_sources request) (counted t (stack_effect_of image m request)) t

-- "A run of n steps is n single steps"
unfoldable pub steps_counted : (image requests : List ℕ) → Machine → (n : ℕ) → Tally → Tally
steps_counted image requests m zero t = t
steps_counted image requests m (suc n) t =
    step_counted image (steps_of image requests m n).machine (get_or requests n 0) (steps_counted image requests m n t)

-- a call; a run refused with 12 or 11 does nothing, and the count is "since the last reset"
unfoldable pub call_counted : (image : List ℕ) → Call → Machine → Tally → Tally
call_counted image (step request) m t = step_counted image m request t
call_counted image (run requests n) m t =
    cond (leb n 65535 && requests_fit requests n) (steps_counted image requests m n t) t
call_counted image (store address value) m t = t
call_counted image reset m t = cleared

-- a list of calls, "each [..] gets the machine as the one before left it"
abbrev pub all_counted : (image : List ℕ) → List Call → Machine → Tally → Tally
all_counted image [] m t = t
all_counted image (c ∷ calls) m t = all_counted image calls (leaves image c m) (call_counted image c m t)

-- "the pushes [..] less the pops"
abbrev pub Balances : (levels : ℕ) → Tally → Type 0
Balances levels t = levels + t.pops ≡ t.pushes

-- after a list of calls on a machine just reset
abbrev pub BalancesAfter : (image : List ℕ) → Machine → List Call → Type 0
BalancesAfter image m calls =
    Balances (levels_in_use (leaves_all image calls (reset_of m))) (all_counted image calls (reset_of m) cleared)

-- "Levels in use are [..] the pushes since the last reset less the pops", of a list of calls as in demand 3: after
-- every call, and after every step of a run, which is a call of the list with its runs as steps
-- proved by balanced, proofs/Balance
pub record Balanced : Type 0 where
  pub after_calls :
      (image certificate : List ℕ) (wired number : ℕ) → check_of image certificate wired ≡ accepted number
      → (m : Machine) (calls : List Call) → AllAskOnly wired calls → (k : ℕ) → BalancesAfter image m (take k calls)
  pub after_steps :
      (image certificate : List ℕ) (wired number : ℕ) → check_of image certificate wired ≡ accepted number
      → (m : Machine) (calls : List Call) → AllAskOnly wired calls → (k : ℕ)
      → BalancesAfter image m (take k (unrolled calls))

-- "Levels in use are the return addresses on the stack": the machine's own count is their number
-- proved by levels_counted, proofs/Balance
abbrev pub LevelsCounted : Type 0
LevelsCounted = (m : Machine) → levels_in_use m ≡ m.control.levels
