-- Demand 3: every list of calls on a machine just reset keeps what an accepted certificate promises.
use Prim.Native.Nat.{ℕ, ◌≤◌}
use native.Mathlib.Omega.{arith}
use mathlib.Core.Path.{◌≡◌, refl}
use mathlib.Core.Logic.{◌⊎◌, inl, inr}
use mathlib.Core.Bool.{Bool, true, false, not}
use mathlib.Core.List.{List, [], ◌∷◌}
use lib.Dec.{leb}
use lib.ListN.{get_or}
use Rattle.isa.specs.Refusals.{plain, done, refused, unless}
use Rattle.isa.specs.Sources.{names_only_sources}
use Rattle.machine.specs.declared.Machine.{Machine}
use Rattle.data.specs.Space.{in_window}
use Rattle.machine.specs.State.{HostStore, with_byte, host_store_of, reset_of}
use Rattle.machine.specs.Step.{Step, step_of}
use Rattle.machine.specs.Run.{Run, refused_run, steps_of, requests_fit, run_of}
use Rattle.machine.proofs.StepByStep.{fits_at}
use Rattle.certificate.specs.Rules.{Rules}
use Rattle.certificate.proofs.Agreement.{agreement}
use Rattle.bench.specs.Calls.{Call, step, run, store, reset, leaves, AsksOnly, FirstAskOnly, CallAsksOnly}
use Rattle.bench.specs.Calls.{AllAskOnly}
use Rattle.bench.specs.Session.{StepRefusedWith, StepDone, RunRefusedWith, RunDone}
use Rattle.bench.specs.Session.{StoreRefusedWith, StoreDone, Keeps}
use Rattle.bench.specs.Session.{AllKeep, Promised, NeverStops}
use Rattle.bench.proofs.Invariant.{MachineInvariant, reset_invariant, levels_within, well_formed_lem}
use Rattle.bench.proofs.StepMoves.{invariant_after}
use Rattle.bench.proofs.Steps.{step_goes, step_refused, run_is, AllGo, steps_go}

module _ (image certificate : List ℕ) (wired number : ℕ) (ok : Rules image certificate wired number) where
  -- what a call answers keeps the promise, and the machine that it leaves has frames
  module _ (m : Machine) (g : MachineInvariant certificate wired m) where
    abbrev StepKept : Step → Type 0
    StepKept s = (StepRefusedWith m 11 s ⊎ StepDone s) × MachineInvariant certificate wired s.machine

    step_kept : (request : ℕ) → AsksOnly wired request → StepKept (step_of image m request)
    step_kept request asks = by_test (names_only_sources request) refl
      where
        by_test : (known : Bool) → names_only_sources request ≡ known → StepKept (step_of image m request)
        by_test true e =
            let a = step_goes image certificate wired number ok m g request e asks in
            (inr a.done, invariant_after certificate wired a g)
        by_test false e =
            rw (step_refused image certificate wired number ok m g request e)
            (inl (record { refusal = refl; same = refl }), g)

    -- a host store leaves control and stack as they are
    abbrev StoreKept : HostStore → Type 0
    StoreKept s = (StoreRefusedWith m 10 s ⊎ StoreDone s) × MachineInvariant certificate wired s.machine

    store_kept : (address value : ℕ) → StoreKept (host_store_of m address value)
    unfolding host_store_of
    store_kept address value = rw (well_formed_lem image certificate wired number ok m g) (by_test (not (in_window address)))
      where
        by_test : (outside : Bool)
            → StoreKept
            (unless outside (record { machine = m; ending = refused (plain 10) })
            (record { machine = with_byte m address value; ending = (done tt) }))
        by_test true = (inr (record { ending = refl }), g)
        by_test false = (inl (record { refusal = refl; same = refl }), g)

    module _ (requests : List ℕ) (n : ℕ) (asks : FirstAskOnly wired requests n) where
      abbrev RunKept : Run → Type 0
      RunKept r =
          ((RunRefusedWith m 12 r ⊎ RunRefusedWith m 11 r) ⊎ RunDone image number requests m n r)
          × MachineInvariant certificate wired r.machine

      run_done : requests_fit requests n ≡ true → RunKept (steps_of image requests m n)
      run_done fit = (inr done, (first n (omega arith)).invariant)
        where
          first : (j : ℕ) → j ≤ n → AllGo certificate wired j (steps_of image requests m j)
          first j h =
              steps_go image certificate wired number ok m g requests j (λ i l. fits_at requests n fit i (omega arith))
              (λ i l. asks i (omega arith))

          done : RunDone image number requests m n (steps_of image requests m n)
          done =
              record {
                ending = (first n (omega arith)).ending;
                steps = refl;
                all = (first n (omega arith)).all;
                each = λ j h.
                    (step_goes image certificate wired number ok (steps_of image requests m j).machine
                    (first j (omega arith)).invariant
                    (get_or requests j 0) (fits_at requests n fit j h) (asks j h)).done;
                within =
                    λ j h. levels_within image certificate wired number ok (steps_of image requests m j).machine
                    (first j h).invariant;
              }

      run_kept : RunKept (run_of image m requests n)
      run_kept =
          rw (run_is image certificate wired number ok m g requests n)
          (by_tests (leb n 65535) (requests_fit requests n) refl)
        where
          by_tests : (short fit : Bool) → requests_fit requests n ≡ fit
              → RunKept
              (unless short (refused_run m (plain 12))
              (unless fit (refused_run m (plain 11)) (steps_of image requests m n)))
          by_tests false fit e =
              (inl (inl (record { refusal = refl; no_steps = refl; no_cycles = refl; same = refl })), g)
          by_tests true false e =
              (inl (inr (record { refusal = refl; no_steps = refl; no_cycles = refl; same = refl })), g)
          by_tests true true e = run_done e

  pub call_kept : (c : Call) (m : Machine) → CallAsksOnly wired c → MachineInvariant certificate wired m
      → Keeps image number c m × MachineInvariant certificate wired (leaves image c m)
  unfolding leaves
  call_kept (step request) m asks g = step_kept m g request asks
  call_kept (run requests n) m asks g = run_kept m g requests n asks
  call_kept (store address value) m asks g = store_kept m g address value
  call_kept reset m asks g = (tt, reset_invariant image certificate wired number ok m)

  all_keep : (calls : List Call) (m : Machine) → AllAskOnly wired calls → MachineInvariant certificate wired m
      → AllKeep image number calls m
  all_keep [] m asks g = levels_within image certificate wired number ok m g
  all_keep (c ∷ calls) m asks g =
      let k = call_kept c m asks.0 g in
      (levels_within image certificate wired number ok m g, k.0, all_keep calls (leaves image c m) asks.1 k.1)

-- the certificate's rules suffice
pub rules_suffice : (image certificate : List ℕ) (wired number : ℕ) → Rules image certificate wired number
    → Promised image wired number
rules_suffice image certificate wired number ok = (
  ok.at_most_six,
  λ m calls asks. all_keep image certificate wired number ok calls (reset_of m) asks
      (reset_invariant image certificate wired number ok m),
)

-- DEMAND 3
pub never_stops : NeverStops
never_stops image certificate wired number e =
    rules_suffice image certificate wired number ((agreement image certificate wired number).sound e)
