-- A machine whose steps without requests are all done: runs go on where they ended, and a sleeper stays asleep.
use Prim.Native.Nat.{ℕ, zero, suc, ◌+◌, ◌-◌, ◌<◌, ◌≤◌}
use mathlib.Core.Path.{◌≡◌, refl, sym, ap, ◌∙◌}
use mathlib.Core.Logic.{inr}
use mathlib.Core.Bool.{Bool, true, false}
use mathlib.Core.List.{List, []}
use native.Mathlib.Omega.{arith}
use native.Mathlib.Nat.{add-zero}
use native.Mathlib.Numerals.{add-one}
use lib.ListN.{drop}
use Rattle.isa.specs.Refusals.{Answer, Ended, done, refused}
use Rattle.machine.specs.declared.Machine.{Machine}
use Rattle.machine.specs.Step.{Step, step_of}
use Rattle.machine.specs.Run.{Run, joined_by, continued_by, continued_of, steps_of, run_of}
use Rattle.machine.proofs.Laws.{run_is_steps, sleeper_stays}
use Rattle.gauge.specs.Sleep.{machine_after, asleep_after, AsleepAfter, AwakeAfter, AllDone}
use Rattle.gauge.proofs.Steps.{Fits, fits, run_as_steps}

no_requests : (n : ℕ) → drop {A = ℕ} n [] ≡ []
no_requests zero = refl
no_requests (suc n) = refl

-- a run that has not ended goes on with a step
goes_on_lem : (image : List ℕ) (r : Run) → r.report.ending ≡ done tt
    → (continued_of image r 0).machine ≡ (step_of image r.machine 0).machine
goes_on_lem image r e =
    ap (λ (x : Ended). (continued_by image r 0 x).machine) e
    ∙ by_answer (step_of image r.machine 0).machine (step_of image r.machine 0).answer
  where
    by_answer : (n : Machine) (a : Answer ℕ) → (joined_by r n a).machine ≡ n
    by_answer n (done cycles) = refl
    by_answer n (refused reason) = refl

module _ (image : List ℕ) (m : Machine) (most : ℕ) (all : AllDone image m most) where
  -- no step stops
  pub completes : (n : ℕ) → n ≤ most → (steps_of image [] m n).report.ending ≡ done tt
  unfolding steps_of
  completes zero h = refl
  completes (suc n) h = rw (completes n (omega arith), (all n (omega arith)).answer)

  pub fits_after : (n : ℕ) → n < most → Fits image (machine_after image m n)
  fits_after n h = fits image (machine_after image m n) (inr (all n h))

  -- the machine after one step more
  pub one_further : (n : ℕ) → n < most → (step_of image (machine_after image m n) 0).machine ≡ machine_after image m (suc n)
  unfolding steps_of
  one_further n h = sym (goes_on_lem image (steps_of image [] m n) (completes n (omega arith)))

  -- .. and after so many more
  pub further :
      (n k : ℕ) → n ≤ most → machine_after image (machine_after image m n) k ≡ machine_after image m (n + k)
  further n k h =
      ap (λ (r : List ℕ). (steps_of image r (machine_after image m n) k).machine) (sym (no_requests n))
      ∙ sym (ap (λ (r : Run). r.machine) (run_is_steps.more image [] m n k (completes n h)))

  -- a run of them
  pub run_further :
      (n k : ℕ) → n < most → k ≤ 65535
      → (run_of image (machine_after image m n) [] k).machine ≡ machine_after image m (n + k)
  run_further n k h l =
      ap (λ (r : Run). r.machine) (run_as_steps image (machine_after image m n) (fits_after n h) k l)
      ∙ further n k (omega arith)

  -- the rest of the steps is done too
  pub rest_done : (n k : ℕ) → n + k ≤ most → AllDone image (machine_after image m n) k
  rest_done n k h j l = rw (further n j (omega arith)) (all (n + j) (omega arith))

  -- a sleeper stays asleep
  pub asleep_on : (n k : ℕ) → n + k ≤ most → AsleepAfter image m n → AsleepAfter image m (n + k)
  asleep_on n zero h e = rw (add-zero n) e
  asleep_on n (suc k) h e =
      let f = fits_after n (omega arith) in
      let same : machine_after image m (n + suc k) ≡ machine_after image m n =
      sym (further n (suc k) (omega arith))
      ∙ ap (λ (r : Run). r.machine)
      (sleeper_stays.by_steps image (machine_after image m n) f.size f.formed e (suc k)) in
      ap (λ (x : Machine). x.control.asleep) same ∙ e

  -- so one that is awake was awake before
  pub awake_before : (n k : ℕ) → n ≤ k → k ≤ most → AwakeAfter image m k → AwakeAfter image m n
  awake_before n k h l e = go (asleep_after image m n) refl
    where
      go : (b : Bool) → asleep_after image m n ≡ b → b ≡ false
      go false a = refl
      go true a =
          let whole : n + (k - n) ≡ k = omega arith in
          let later : AsleepAfter image m k = rw whole at (asleep_on n (k - n) (omega arith) a) in
          sym later ∙ e

-- what the program finds of the machine that it holds is so after n steps
pub found_after :
    (image : List ℕ) (m held : Machine) (n : ℕ) → held ≡ machine_after image m n →
    asleep_after image m n ≡ held.control.asleep
found_after image m held n is = sym (ap (λ (x : Machine). x.control.asleep) is)

-- .. and a step of it is the next
pub stepped_on :
    (image : List ℕ) (m : Machine) (most : ℕ) → AllDone image m most → (held : Machine) (n : ℕ) → n < most →
    held ≡ machine_after image m n → (s : Step) → s ≡ step_of image held 0 → s.machine ≡ machine_after image m (n + 1)
stepped_on image m most all held n left is s e =
    ap (λ (x : Step). x.machine) e ∙ ap (λ (x : Machine). (step_of image x 0).machine) is
    ∙ one_further image m most all n left ∙ ap (machine_after image m) (sym (add-one n))
