-- Levels in use are the pushes since the last reset less the pops.
use Prim.Native.Nat.{ℕ, zero, suc}
use native.Mathlib.Omega.{arith}
use mathlib.Core.Path.{◌≡◌, refl}
use mathlib.Core.Bool.{Bool, true, false, cond, not, ◌&&◌}
use mathlib.Core.List.{List, [], ◌∷◌}
use lib.Dec.{leb}
use lib.ListN.{length, get_or, take}
use Rattle.isa.specs.Refusals.{plain, done, refused, unless}
use Rattle.isa.specs.Sources.{names_only_sources}
use Rattle.control.specs.declared.Mode.{Mode}
use Rattle.machine.specs.declared.Machine.{Machine}
use Rattle.data.specs.Space.{in_window}
use Rattle.machine.specs.State.{HostStore, with_byte, host_store_of, reset_of}
use Rattle.machine.specs.Step.{step_of}
use Rattle.machine.specs.Run.{refused_run, steps_of, requests_fit, run_of}
use Rattle.machine.proofs.StepByStep.{fits_at}
use Rattle.certificate.specs.Rules.{Rules}
use Rattle.certificate.proofs.Agreement.{agreement}
use Rattle.bench.specs.Calls.{Call, step, run, store, reset, leaves, leaves_all, AsksOnly, FirstAskOnly}
use Rattle.bench.specs.Calls.{CallAsksOnly, AllAskOnly, unrolled}
use Rattle.bench.specs.Session.{levels_in_use}
use Rattle.bench.specs.StackEffect.{StackEffect, stack_effect_of}
use Rattle.bench.specs.Balance.{Tally, cleared, counted, step_counted, steps_counted, call_counted, all_counted}
use Rattle.bench.specs.Balance.{Balances, BalancesAfter, Balanced, LevelsCounted}
use Rattle.bench.proofs.Stack.{length_in_use}
use Rattle.bench.proofs.Moves as moves
use Rattle.bench.proofs.Moves.{Moves}
use Rattle.bench.proofs.Invariant.{MachineInvariant, reset_invariant, well_formed_lem}
use Rattle.bench.proofs.Steps.{FirstKnown, step_goes, step_refused, run_is, steps_go}
use Rattle.bench.proofs.Session.{call_kept}
use Rattle.bench.proofs.Unrolled.{continued_machine, asks_take, asks_unrolled}

pub levels_counted : LevelsCounted
unfolding levels_in_use
levels_counted m = length_in_use m.control.levels m.stack

-- a move has one address more exactly where it pushes, and one less where it pops
pub move_balances : {certificate : List ℕ} {wired : ℕ} {d : StackEffect} {m m' : Mode} {p p' : ℕ} {s s' : List ℕ}
    → Moves certificate wired d m p s m' p' s' → (t : Tally) → Balances (length s) t
    → Balances (length s') (counted t d)
unfolding counted
move_balances moves.idles t b = b
move_balances (moves.continues c) t b = b
move_balances (moves.calls c) t b = omega arith
move_balances (moves.returns k) t b = omega arith
move_balances (moves.leaves k) t b = omega arith
move_balances (moves.begins e) t b = b
move_balances (moves.takes a w) t b = omega arith

-- the levels in use of a machine balance
abbrev BalancesAt : Machine → Tally → Type 0
BalancesAt m t = Balances (levels_in_use m) t

just_reset : (m : Machine) → BalancesAt (reset_of m) cleared
unfolding levels_in_use reset_of
just_reset m = refl

module _ (image certificate : List ℕ) (wired number : ℕ) (ok : Rules image certificate wired number) where
  step_balances : (m : Machine) → MachineInvariant certificate wired m → (request : ℕ) → AsksOnly wired request
      → (t : Tally) → BalancesAt m t
      → BalancesAt (step_of image m request).machine (step_counted image m request t)
  unfolding step_counted levels_in_use
  step_balances m g request asks t b = by_test (names_only_sources request) refl
    where
      by_test : (known : Bool) → names_only_sources request ≡ known
          → BalancesAt (step_of image m request).machine (cond known (counted t (stack_effect_of image m request)) t)
      by_test true e = move_balances (step_goes image certificate wired number ok m g request e asks).moves t b
      by_test false e = rw (step_refused image certificate wired number ok m g request e) b

  module _ (m : Machine) (g : MachineInvariant certificate wired m) (t : Tally) (b : BalancesAt m t) where
    steps_balance : (requests : List ℕ) (n : ℕ) → FirstKnown requests n → FirstAskOnly wired requests n
        → BalancesAt (steps_of image requests m n).machine (steps_counted image requests m n t)
    unfolding steps_of steps_counted
    steps_balance requests zero known asks = b
    steps_balance requests (suc n) known asks =
        let before =
        steps_go image certificate wired number ok m g requests n (λ i h. known i (omega arith))
        (λ i h. asks i (omega arith)) in
        rw (continued_machine image (steps_of image requests m n) (get_or requests n 0) _ before.ending)
        (step_balances (steps_of image requests m n).machine before.invariant (get_or requests n 0)
        (asks n (omega arith)) (steps_counted image requests m n t)
        (steps_balance requests n (λ i h. known i (omega arith)) (λ i h. asks i (omega arith))))

    run_balances : (requests : List ℕ) (n : ℕ) → FirstAskOnly wired requests n
        → BalancesAt (run_of image m requests n).machine
        (cond (leb n 65535 && requests_fit requests n) (steps_counted image requests m n t) t)
    run_balances requests n asks =
        rw (run_is image certificate wired number ok m g requests n)
        (by_tests (leb n 65535) (requests_fit requests n) refl)
      where
        by_tests : (short fit : Bool) → requests_fit requests n ≡ fit
            → BalancesAt
            (unless short (refused_run m (plain 12))
            (unless fit (refused_run m (plain 11)) (steps_of image requests m n))).machine
            (cond (short && fit) (steps_counted image requests m n t) t)
        by_tests false fit e = b
        by_tests true false e = b
        by_tests true true e = steps_balance requests n (fits_at requests n e) asks

    store_balances : (address value : ℕ) → BalancesAt (host_store_of m address value).machine t
    unfolding host_store_of levels_in_use
    store_balances address value =
        rw (well_formed_lem image certificate wired number ok m g) (by_test (not (in_window address)))
      where
        stored : (outside : Bool) → HostStore
        stored outside =
            unless outside (record { machine = m; ending = refused (plain 10) })
            (record { machine = with_byte m address value; ending = (done tt) })

        by_test : (outside : Bool) → BalancesAt (stored outside).machine t
        by_test true = b
        by_test false = b

  call_balances : (c : Call) (m : Machine) → CallAsksOnly wired c → MachineInvariant certificate wired m → (t : Tally)
      → BalancesAt m t
      → BalancesAt (leaves image c m) (call_counted image c m t)
  unfolding leaves call_counted
  call_balances (step request) m asks g t b = step_balances m g request asks t b
  call_balances (run requests n) m asks g t b = run_balances m g t b requests n asks
  call_balances (store address value) m asks g t b = store_balances m g t b address value
  call_balances reset m asks g t b = just_reset m

  all_balance : (calls : List Call) (m : Machine) → AllAskOnly wired calls → MachineInvariant certificate wired m
      → (t : Tally) → BalancesAt m t
      → BalancesAt (leaves_all image calls m) (all_counted image calls m t)
  all_balance [] m asks g t b = b
  all_balance (c ∷ calls) m asks g t b =
      all_balance calls (leaves image c m) asks.1 (call_kept image certificate wired number ok c m asks.0 g).1
      (call_counted image c m t) (call_balances c m asks.0 g t b)

  -- a list of calls on a machine just reset
  after_calls : (m : Machine) (calls : List Call) → AllAskOnly wired calls → BalancesAfter image m calls
  after_calls m calls asks =
      all_balance calls (reset_of m) asks (reset_invariant image certificate wired number ok m) cleared (just_reset m)

pub balanced : Balanced
balanced =
    record {
      after_calls = λ image certificate wired number e m calls asks k.
          after_calls image certificate wired number ((agreement image certificate wired number).sound e) m
          (take k calls) (asks_take wired k calls asks);
      after_steps = λ image certificate wired number e m calls asks k.
          after_calls image certificate wired number ((agreement image certificate wired number).sound e) m
          (take k (unrolled calls))
          (asks_take wired k (unrolled calls) (asks_unrolled wired calls asks));
    }
