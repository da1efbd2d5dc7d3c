-- A list of calls with its runs as steps.
use Prim.Native.Nat.{ℕ, zero, suc}
use native.Mathlib.Omega.{arith}
use mathlib.Core.Path.{◌≡◌, refl, sym, ap, ◌∙◌}
use mathlib.Core.Bool.{Bool, true, false, cond, ◌&&◌, false≢true}
use mathlib.Core.List.{List, [], ◌∷◌, ◌++◌}
use lib.Dec.{leb}
use lib.ListN.{get_or, take}
use Rattle.isa.specs.Refusals.{plain, Answer, Ended, done, refused, unless}
use Rattle.isa.specs.declared.Source.TheVariants.{Nmi, First, Second, Third, Fourth}
use Rattle.machine.specs.declared.Machine.{Machine}
use Rattle.machine.specs.State.{reset_of}
use Rattle.machine.specs.Step.{step_of}
use Rattle.machine.specs.Run.{Run, refused_run, joined_by, continued_by, steps_of, requests_fit}
use Rattle.machine.proofs.StepByStep.{fits_at}
use Rattle.certificate.specs.Rules.{Rules}
use Rattle.certificate.proofs.Agreement.{agreement}
use Rattle.bench.specs.Calls.{
  Call,
  step,
  run,
  store,
  reset,
  leaves,
  leaves_all,
  FirstAskOnly,
  CallAsksOnly,
  AllAskOnly,
  NoneAsks,
  as_steps,
  unrolled_call,
  unrolled,
  AllSingle,
  NoRuns,
  UnrolledLeaves,
}
use Rattle.bench.proofs.Invariant.{MachineInvariant, reset_invariant}
use Rattle.bench.proofs.Steps.{run_is, steps_go}
use Rattle.bench.proofs.Session.{call_kept}

pub none_asks : NoneAsks
none_asks wired Nmi e = absurd (false≢true e)
none_asks wired First e = absurd (false≢true e)
none_asks wired Second e = absurd (false≢true e)
none_asks wired Third e = absurd (false≢true e)
none_asks wired Fourth e = absurd (false≢true e)

-- only wired sources ask, in a first part of a list, in one list after another, and in the steps of a run
module _ (wired : ℕ) where
  pub asks_take : (k : ℕ) (calls : List Call) → AllAskOnly wired calls → AllAskOnly wired (take k calls)
  asks_take zero calls asks = tt
  asks_take (suc k) [] asks = tt
  asks_take (suc k) (c ∷ calls) asks = (asks.0, asks_take k calls asks.1)

  asks_append : (xs ys : List Call) → AllAskOnly wired xs → AllAskOnly wired ys → AllAskOnly wired (xs ++ ys)
  asks_append [] ys a b = b
  asks_append (c ∷ xs) ys a b = (a.0, asks_append xs ys a.1 b)

  pub asks_split : (xs ys : List Call) → AllAskOnly wired (xs ++ ys) → AllAskOnly wired xs × AllAskOnly wired ys
  asks_split [] ys asks = (tt, asks)
  asks_split (c ∷ xs) ys asks = let h = asks_split xs ys asks.1 in ((asks.0, h.0), h.1)

  asks_steps : (requests : List ℕ) (n : ℕ) → FirstAskOnly wired requests n → AllAskOnly wired (as_steps requests n)
  asks_steps requests zero asks = tt
  asks_steps requests (suc n) asks =
      asks_append (as_steps requests n) (step (get_or requests n 0) ∷ [])
      (asks_steps requests n (λ i h. asks i (omega arith)))
      (asks n (omega arith), tt)

  asks_call : (c : Call) → CallAsksOnly wired c → AllAskOnly wired (unrolled_call c)
  asks_call (step request) asks = (asks, tt)
  asks_call (run requests n) asks = by_test (leb n 65535 && requests_fit requests n)
    where
      by_test : (b : Bool) → AllAskOnly wired (cond b (as_steps requests n) [])
      by_test true = asks_steps requests n asks
      by_test false = tt
  asks_call (store address value) asks = (tt, tt)
  asks_call reset asks = (tt, tt)

  pub asks_unrolled : (calls : List Call) → AllAskOnly wired calls → AllAskOnly wired (unrolled calls)
  asks_unrolled [] asks = tt
  asks_unrolled (c ∷ calls) asks =
      asks_append (unrolled_call c) (unrolled calls) (asks_call c asks.0) (asks_unrolled calls asks.1)

-- no run is left in a list with its runs as steps
single_append : (xs ys : List Call) → AllSingle xs → AllSingle ys → AllSingle (xs ++ ys)
single_append [] ys a b = b
single_append (step request ∷ xs) ys a b = single_append xs ys a b
single_append (run requests n ∷ xs) ys a b = a
single_append (store address value ∷ xs) ys a b = single_append xs ys a b
single_append (reset ∷ xs) ys a b = single_append xs ys a b

steps_single : (requests : List ℕ) (n : ℕ) → AllSingle (as_steps requests n)
steps_single requests zero = tt
steps_single requests (suc n) =
    single_append (as_steps requests n) (step (get_or requests n 0) ∷ []) (steps_single requests n) tt

call_single : (c : Call) → AllSingle (unrolled_call c)
call_single (step request) = tt
call_single (run requests n) = by_test (leb n 65535 && requests_fit requests n)
  where
    by_test : (b : Bool) → AllSingle (cond b (as_steps requests n) [])
    by_test true = steps_single requests n
    by_test false = tt
call_single (store address value) = tt
call_single reset = tt

pub no_runs : NoRuns
no_runs [] = tt
no_runs (c ∷ calls) = single_append (unrolled_call c) (unrolled calls) (call_single c) (no_runs calls)

-- the machine after one more step of a run
joined_machine : (r : Run) (m : Machine) (a : Answer ℕ) → (joined_by r m a).machine ≡ m
joined_machine r m (done cycles) = refl
joined_machine r m (refused n) = refl

pub continued_machine : (image : List ℕ) (r : Run) (request : ℕ) (e : Ended) → e ≡ done tt
    → (continued_by image r request e).machine ≡ (step_of image r.machine request).machine
continued_machine image r request e q =
    rw q (joined_machine r (step_of image r.machine request).machine (step_of image r.machine request).answer)

module _ (image : List ℕ) where
  pub leaves_append : (xs ys : List Call) (m : Machine)
      → leaves_all image (xs ++ ys) m ≡ leaves_all image ys (leaves_all image xs m)
  leaves_append [] ys m = refl
  leaves_append (c ∷ xs) ys m = leaves_append xs ys (leaves image c m)

  -- steps that do not end early leave what the step calls leave, of any image
  pub steps_unrolled : (requests : List ℕ) (m : Machine) (n : ℕ) → (steps_of image requests m n).report.ending ≡ done tt
      → leaves_all image (as_steps requests n) m ≡ (steps_of image requests m n).machine
  unfolding steps_of leaves
  steps_unrolled requests m zero e = refl
  steps_unrolled requests m (suc n) e =
      by_ending (steps_of image requests m n).report.ending refl (steps_unrolled requests m n) e
    where
      before : Run
      before = steps_of image requests m n

      request : ℕ
      request = get_or requests n 0

      by_ending : (x : Ended) → before.report.ending ≡ x
          → (before.report.ending ≡ done tt → leaves_all image (as_steps requests n) m ≡ before.machine)
          → (continued_by image before request x).report.ending ≡ done tt
          → leaves_all image (as_steps requests n ++ (step request ∷ [])) m ≡ (continued_by image before request x).machine
      by_ending (done tt) is first all =
          leaves_append (as_steps requests n) (step request ∷ []) m
          ∙ rw (first is) (sym (continued_machine image before request (done tt) refl))
      by_ending (refused r) is first all = cc

module _ (image certificate : List ℕ) (wired number : ℕ) (ok : Rules image certificate wired number) where
  call_unrolled : (c : Call) (m : Machine) → CallAsksOnly wired c → MachineInvariant certificate wired m
      → leaves_all image (unrolled_call c) m ≡ leaves image c m
  unfolding leaves
  call_unrolled (step request) m asks g = refl
  call_unrolled (run requests n) m asks g =
      by_tests (leb n 65535) (requests_fit requests n) refl
      ∙ sym (ap (λ (r : Run). r.machine) (run_is image certificate wired number ok m g requests n))
    where
      by_tests : (short fit : Bool) → requests_fit requests n ≡ fit
          → leaves_all image (cond (short && fit) (as_steps requests n) []) m
          ≡ (unless short (refused_run m (plain 12))
          (unless fit (refused_run m (plain 11)) (steps_of image requests m n))).machine
      by_tests false fit e = refl
      by_tests true false e = refl
      by_tests true true e =
          steps_unrolled image requests m n
          (steps_go image certificate wired number ok m g requests n (fits_at requests n e) asks).ending
  call_unrolled (store address value) m asks g = refl
  call_unrolled reset m asks g = refl

  all_unrolled : (calls : List Call) (m : Machine) → AllAskOnly wired calls → MachineInvariant certificate wired m
      → leaves_all image (unrolled calls) m ≡ leaves_all image calls m
  all_unrolled [] m asks g = refl
  all_unrolled (c ∷ calls) m asks g =
      leaves_append image (unrolled_call c) (unrolled calls) m
      ∙ rw (call_unrolled c m asks.0 g)
      (all_unrolled calls (leaves image c m) asks.1 (call_kept image certificate wired number ok c m asks.0 g).1)

pub unrolled_leaves : UnrolledLeaves
unrolled_leaves =
    record {
      same = λ image certificate wired number e m calls asks.
          let ok = (agreement image certificate wired number).sound e in
          all_unrolled image certificate wired number ok calls (reset_of m) asks
          (reset_invariant image certificate wired number ok m);
      asks = asks_unrolled;
    }
