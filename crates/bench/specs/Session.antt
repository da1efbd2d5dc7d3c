-- DEMAND 3: what holds of every list of calls on one machine, once a certificate is accepted (the customer's demand 3;
-- document 01, "The certificate", last paragraph). The claim is `NeverStops`, at the end.
use Rattle.std.specs.Prelude.{ℕ, ◌≤◌, ◌<◌, ◌≡◌, ◌⊎◌, List, [], ◌∷◌, length, get_or}
use Rattle.isa.specs.Refusals.{plain, done, refused}
use Rattle.control.specs.Stack.{in_use}
use Rattle.machine.specs.declared.Machine.{Machine}
use Rattle.machine.specs.State.{HostStore, host_store_of, reset_of}
use Rattle.machine.specs.Step.{Step, step_of}
use Rattle.machine.specs.Run.{Run, steps_of, run_of}
use Rattle.certificate.specs.Check.{check_of, accepted}
use Rattle.bench.specs.Calls.{Call, step, run, store, reset, leaves, AllAskOnly}

-- "the return addresses on the stack", the top first
abbrev pub return_addresses : Machine → List ℕ
return_addresses m = in_use m.control.levels m.stack

-- "Levels in use are the return addresses on the stack"; that they are "the pushes since the last reset less the pops"
-- is `Balanced`
unfoldable pub levels_in_use : Machine → ℕ
levels_in_use m = length (return_addresses m)

-- a step is refused with a number: "a refused call leaves the machine as it was"
pub record StepRefusedWith (m : Machine) (number : ℕ) (s : Step) : Type 0 where
  pub refusal : s.answer ≡ refused (plain number)
  pub same : s.machine ≡ m

-- a step is done: it is not refused, and "no step ever stops", since a stop is an answer `refused` too
pub record StepDone (s : Step) : Type 0 where
  pub cycles : ℕ
  pub answer : s.answer ≡ done cycles

-- a run is refused with a number: "these report 0 steps, 0 cycles", and the machine is as it was
pub record RunRefusedWith (m : Machine) (number : ℕ) (r : Run) : Type 0 where
  pub refusal : r.report.ending ≡ refused (plain number)
  pub no_steps : r.report.steps ≡ 0
  pub no_cycles : r.report.cycles ≡ 0
  pub same : r.machine ≡ m

-- a run that is not refused
pub record RunDone (image : List ℕ) (number : ℕ) (requests : List ℕ) (m : Machine) (n : ℕ) (r : Run) : Type 0 where
  -- it does not end early, and is its n single steps
  pub ending : r.report.ending ≡ done tt
  pub steps : r ≡ steps_of image requests m n
  -- "every run not refused completes all the steps it was asked for"; "a run not refused reports n steps"
  pub all : r.report.steps ≡ n
  -- "no step ever stops, alone or in a run"
  pub each : (j : ℕ) → j < n → StepDone (step_of image (steps_of image requests m j).machine (get_or requests j 0))
  -- "after every step of a run, the levels in use are at most that number"
  pub within : (j : ℕ) → j ≤ n → levels_in_use (steps_of image requests m j).machine ≤ number

-- a host store is refused with a number, and leaves the machine as it was
pub record StoreRefusedWith (m : Machine) (number : ℕ) (s : HostStore) : Type 0 where
  pub refusal : s.ending ≡ refused (plain number)
  pub same : s.machine ≡ m

-- a host store is done
pub record StoreDone (s : HostStore) : Type 0 where
  pub ending : s.ending ≡ done tt

-- "a step is refused only with 11, a run only with 12 or 11, a host store only with 10, and reset never"; else each is
-- done
abbrev pub Keeps : (image : List ℕ) → (number : ℕ) → Call → Machine → Type 0
Keeps image number (step request) m = StepRefusedWith m 11 (step_of image m request) ⊎ StepDone (step_of image m request)
Keeps image number (run requests n) m =
    (RunRefusedWith m 12 (run_of image m requests n) ⊎ RunRefusedWith m 11 (run_of image m requests n))
    ⊎ RunDone image number requests m n (run_of image m requests n)
Keeps image number (store address value) m =
    StoreRefusedWith m 10 (host_store_of m address value) ⊎ StoreDone (host_store_of m address value)
Keeps image number reset m = Unit {0}

-- every call of the list keeps the promise, on the machine as the one before left it; "after every call [..] the levels
-- in use are at most that number"
abbrev pub AllKeep : (image : List ℕ) → (number : ℕ) → List Call → Machine → Type 0
AllKeep image number [] m = levels_in_use m ≤ number
AllKeep image number (c ∷ calls) m =
    (levels_in_use m ≤ number) × Keeps image number c m × AllKeep image number calls (leaves image c m)

-- what is promised of an image with wired sources and a number of levels, "which is at most six": "It starts from any
-- machine just reset", "an ill-formed one too"
abbrev pub Promised : (image : List ℕ) → (wired number : ℕ) → Type 0
Promised image wired number =
    (number ≤ 6) × ((m : Machine) (calls : List Call) → AllAskOnly wired calls → AllKeep image number calls (reset_of m))

-- DEMAND 3. "Let an unpaged image, a set of wired interrupt sources and a certificate be accepted with some number of
-- levels", and a paged one as well: "demand 3 then holds for them too, under any bank changes" (document 02, W-210).
-- Then of every list of calls, whatever it stores at 0CAh, all that is promised holds: "one claim about the whole list of
-- calls, and not a claim for each call".
-- proved by never_stops, proofs/Session
abbrev pub NeverStops : Type 0
NeverStops =
    (image certificate : List ℕ) (wired number : ℕ) → check_of image certificate wired ≡ accepted number
    → Promised image wired number
