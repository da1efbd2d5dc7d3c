-- Laws of steps and runs that callers use.
use Prim.Native.Nat.{ℕ, zero, suc, ◌+◌, ◌≤◌}
use mathlib.Core.Path.{◌≡◌, refl, sym, ap, ◌∙◌}
use mathlib.Core.Bool.{true}
use mathlib.Core.List.{List, []}
use native.Mathlib.Omega.{arith}
use native.Mathlib.Nat.{zero-add, add-zero, add-suc, add_assoc}
use lib.ListN.{length, get_or, drop}
use lib.Seq.{get_or-drop}
use Rattle.isa.specs.Refusals.{Answer, Ended, done, refused}
use Rattle.isa.specs.RoundTrip.{Bytes}
use Rattle.isa.specs.Sources.{names_only_sources}
use Rattle.isa.specs.Rom.{is_image}
use Rattle.control.specs.Requests.{requested_of}
use Rattle.control.specs.Transfers.{advance_of}
use Rattle.data.specs.Space.{program_of}
use Rattle.isa.proofs.Halves.{is_space_lem}
use Rattle.machine.specs.declared.Machine.{Machine}
use Rattle.machine.specs.Execute.{execute_of}
use Rattle.machine.specs.State.{is_well_formed}
use Rattle.machine.specs.Advance.{Step, done_of, completed_of, executed_of}
use Rattle.machine.specs.Refusals.{TakesNone}
use Rattle.machine.specs.Step.{step_of}
use Rattle.machine.specs.Steps.{Run, run_at, joined_by, joined_of, continued_by, continued_of, steps_of, requests_fit}
use Rattle.machine.specs.Laws.{Does, stops, takes, idles, executes, DataGoesOn, StopsOnly, RunEndsByStop, followed_by, RunIsSteps, SleeperStays}
use Rattle.machine.proofs.StepDoes.{step_does, stops_numbered}
use Rattle.machine.proofs.StepByStep.{step_advances, fits_at, idle_advance, next_step, idle_steps}
use Rattle.machine.proofs.StaysWellFormed.{stays_well_formed}

pub data_goes_on : DataGoesOn
unfolding executed_of completed_of execute_of advance_of
data_goes_on image m i bytes cycles e = record { control = rw e; stack = rw e; answer = rw e }

-- a run that has not ended is at a step that is not refused
module _ (image : List ℕ) (all : Bytes image) (size : is_image (length image) ≡ true) (requests : List ℕ) (m : Machine)
    (formed : is_well_formed m ≡ true) where
  stopped :
      (n : Machine) (request : ℕ) → is_well_formed n ≡ true → (s : Step) →
      Does (program_of image n.bytes) n request s → (r : Run) →
      StopsOnly (joined_of r s).machine (joined_of r s).report.ending
  stopped n request w _ (stops reason why) r =
      stops_numbered (program_of image n.bytes) n request (is_space_lem image (get_or n.bytes 0xCA 0) size) w reason why
  stopped n request w _ (takes source e none) r = tt
  stopped n request w _ (idles none asleep) r = tt
  stopped n request w _ (executes i bytes cycles none awake at goes) r = tt

  continued :
      (r : Run) (request : ℕ) → is_well_formed r.machine ≡ true → names_only_sources request ≡ true → (e : Ended) →
      r.report.ending ≡ e → StopsOnly r.machine e →
      StopsOnly (continued_by image r request e).machine (continued_by image r request e).report.ending
  continued r request w fits (done tt) is f =
      stopped r.machine request w _ (step_does image r.machine request size w fits) r
  continued r request w fits (refused reason) is f = rw is f

  ends :
      (n : ℕ) → requests_fit requests n ≡ true → (k : ℕ) → k ≤ n →
      StopsOnly (steps_of image requests m k).machine (steps_of image requests m k).report.ending
  unfolding steps_of
  ends n fit zero h = tt
  ends n fit (suc k) h =
      continued (steps_of image requests m k) (get_or requests k 0)
      (stays_well_formed.by_steps image all requests m formed k) (fits_at requests n fit k (omega arith))
      (steps_of image requests m k).report.ending refl (ends n fit k (omega arith))

pub run_ends_by_stop : RunEndsByStop
run_ends_by_stop image all size requests n fit m formed = ends image all size requests m formed n fit n (omega arith)

-- a run is its machine and its report
run_is : (r : Run) → r.report.ending ≡ done tt → followed_by r (run_at r.machine 0 0 (done tt)) ≡ r
run_is r e = rw (add-zero r.report.steps, add-zero r.report.cycles, e)

-- going on after the second of two runs
followed_on :
    (image : List ℕ) (r s : Run) (request : ℕ) (e : Ended) → s.report.ending ≡ e →
    continued_by image (followed_by r s) request e ≡ followed_by r (continued_by image s request e)
followed_on image r s request (done tt) e =
    by_answer (step_of image s.machine request).machine (step_of image s.machine request).answer
  where
    by_answer : (n : Machine) (a : Answer ℕ) → joined_by (followed_by r s) n a ≡ followed_by r (joined_by s n a)
    by_answer n (done cycles) =
        rw (add_assoc r.report.steps s.report.steps 1, add_assoc r.report.cycles s.report.cycles cycles)
    by_answer n (refused reason) = refl
followed_on image r s request (refused reason) e = refl

module _ (image requests : List ℕ) (m : Machine) (n : ℕ)
    (completes : (steps_of image requests m n).report.ending ≡ done tt) where
  more :
      (k : ℕ) →
      steps_of image requests m (n + k)
      ≡ followed_by (steps_of image requests m n)
      (steps_of image (drop n requests) (steps_of image requests m n).machine k)
  unfolding steps_of
  more zero = rw (add-zero n) (sym (run_is (steps_of image requests m n) completes))
  more (suc k) =
      let r : Run = steps_of image requests m n in
      let s : Run = steps_of image (drop n requests) r.machine k in
      ap (steps_of image requests m) (add-suc n k) ∙ next_step image requests m (n + k)
      ∙ ap (λ (x : Run). continued_of image x (get_or requests (n + k) 0)) (more k)
      ∙ ap (continued_of image (followed_by r s)) (sym (get_or-drop n requests k 0))
      ∙ followed_on image r s (get_or (drop n requests) k 0) s.report.ending refl

pub run_is_steps : RunIsSteps
unfolding steps_of
run_is_steps = record {
  one = λ image m q n cycles e. rw (e, zero-add cycles);
  one_stops = λ image m q n r e. rw e;
  more = λ image requests m n k e. more image requests m n e k;
}

-- a sleeping machine without requests
module _ (image : List ℕ) (m : Machine) (size : is_image (length image) ≡ true) (formed : is_well_formed m ≡ true)
    (asleep : m.control.asleep ≡ true) where
  none : TakesNone m 0
  unfolding requested_of
  none = refl

  idles_on : step_of image m 0 ≡ done_of m 0
  idles_on =
      step_advances image m 0 size formed refl ∙ sym (idle_advance (program_of image m.bytes) m 0 asleep none)

  all_idle : (n : ℕ) → steps_of image [] m n ≡ run_at m n 0 (done tt)
  unfolding steps_of
  all_idle n =
      sym (rw (zero-add n) at (idle_steps image [] m 0 0 m refl n (λ k from to. sym idles_on)))

pub sleeper_stays : SleeperStays
sleeper_stays = record { by_step = idles_on; by_steps = all_idle }
