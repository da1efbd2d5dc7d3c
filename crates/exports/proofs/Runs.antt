-- Steps and runs that are refused or stop, and what they leave.
use Prim.Native.Nat.{ℕ, zero, suc, ◌<◌}
use mathlib.Core.Path.{◌≡◌, refl, ap}
use mathlib.Core.Bool.{Bool, true, false, cond, not, ◌&&◌}
use mathlib.Core.List.{List, ◌++◌}
use native.Mathlib.Omega.{arith}
use lib.Dec.{leb}
use lib.ListN.{length, get_or, drop}
use Rattle.isa.specs.Refusals.{Numbered, plain, located, Answer, Ended, done, refused, unless}
use Rattle.isa.specs.RoundTrip.{Bytes}
use Rattle.isa.specs.Rom.{is_image}
use Rattle.machine.specs.declared.Machine.{Machine}
use Rattle.machine.specs.State.{is_well_formed}
use Rattle.machine.specs.Step.{Step, step_of}
use Rattle.machine.specs.Run.{Run, joined_by, continued_by, refused_run, steps_of, requests_fit, run_of}
use Rattle.machine.specs.Laws.{StopNumber, StopsOnly}
use Rattle.machine.proofs.Refusals.{step_refusals}
use Rattle.machine.proofs.Laws.{run_ends_by_stop}
use Rattle.exports.specs.Answers.{word, refusal_word, ended_word, is_refused_run}
use Rattle.exports.specs.States.{Unpacked, valid, invalid, unpacked, packed}
use Rattle.exports.specs.Lent.{LentRun, lent_run, report_bytes, ran_lent, run_by, run_lent}
use Rattle.exports.specs.Laws.{RefusedRuns, number_of, RunLeaves}

-- a step that is refused or stops keeps the machine
module _ (image : List ℕ) (m : Machine) (request : ℕ) where
  pub step_keeps : (r : Numbered) → (step_of image m request).answer ≡ refused r → (step_of image m request).machine ≡ m
  step_keeps r e =
      ap (λ (s : Step). s.machine)
      (step_refusals.given image m request r (step_refusals.only image m request r e))

-- a run is refused, with none of a stop's numbers, or it is its steps
data RunTested (image : List ℕ) (m : Machine) (requests : List ℕ) (n : ℕ) : Bool → Run → Type 0 where
  run_refuses :
      (number : ℕ) → (StopNumber (number_of (word number 0 0)) → ⊥)
      → RunTested image m requests n false (refused_run m (plain number))
  run_passes :
      is_image (length image) ≡ true → is_well_formed m ≡ true → requests_fit requests n ≡ true →
      RunTested image m requests n true (steps_of image requests m n)

module _ (image : List ℕ) (m : Machine) (requests : List ℕ) (n : ℕ) where
  run_tested :
      RunTested image m requests n
      (is_image (length image) && (is_well_formed m && (leb n 65535 && requests_fit requests n)))
      (run_of image m requests n)
  unfolding run_of
  run_tested = by_tests (is_image (length image)) refl (is_well_formed m) refl (leb n 65535) (requests_fit requests n) refl
    where
      by_tests :
          (i : Bool) → is_image (length image) ≡ i → (w : Bool) → is_well_formed m ≡ w → (k f : Bool)
          → requests_fit requests n ≡ f →
          RunTested image m requests n (i && (w && (k && f)))
          (unless i (refused_run m (plain 1))
          (unless w (refused_run m (plain 2))
          (unless k (refused_run m (plain 12)) (unless f (refused_run m (plain 11)) (steps_of image requests m n)))))
      by_tests false size w formed k f fit = run_refuses 1 (λ is. omega arith)
      by_tests true size false formed k f fit = run_refuses 2 (λ is. omega arith)
      by_tests true size true formed false f fit = run_refuses 12 (λ is. omega arith)
      by_tests true size true formed true false fit = run_refuses 11 (λ is. omega arith)
      by_tests true size true formed true true fit = run_passes size formed fit

-- a stop has an address
not_refused : (n : Machine) (e : Ended) → StopsOnly n e → is_refused_run e ≡ false
not_refused n (done tt) s = refl
not_refused n (refused r) s = rw s.is

module _ (image : List ℕ) (all : Bytes image) (m : Machine) (requests : List ℕ) (n : ℕ) where
  refused_exactly : (b : Bool) (r : Run) → RunTested image m requests n b r → is_refused_run r.report.ending ≡ not b
  refused_exactly _ _ (run_refuses number apart) = refl
  refused_exactly _ _ (run_passes size formed fit) =
      not_refused (steps_of image requests m n).machine (steps_of image requests m n).report.ending
      (run_ends_by_stop image all size requests n fit m formed)

pub refused_runs : RefusedRuns
refused_runs image all m requests n = refused_exactly image all m requests n _ _ (run_tested image m requests n)

module _ (image requests : List ℕ) (m : Machine) where
  -- a run that stopped after so many steps: it is those steps, and how it ended is the answer of the step after them
  record Stopped (n : ℕ) (r : Run) : Type 0 where
    pub steps : ℕ
    pub fewer : steps < n
    pub completed : (steps_of image requests m steps).report.ending ≡ done tt
    pub counted : (steps_of image requests m steps).report.steps ≡ steps
    pub machine : r.machine ≡ (steps_of image requests m steps).machine
    pub reported : r.report.steps ≡ steps
    pub cycles : r.report.cycles ≡ (steps_of image requests m steps).report.cycles
    pub number : Numbered
    pub ended : r.report.ending ≡ refused number
    pub stop : (step_of image (steps_of image requests m steps).machine (get_or requests steps 0)).answer ≡ refused number

  -- a run of n steps: all are completed, or it stopped
  abbrev Ends : (n : ℕ) → Run → Ended → Type 0
  Ends n r (done tt) = r.report.steps ≡ n
  Ends n r (refused x) = Stopped n r

  one_more :
      (n : ℕ) (e : Ended) → (steps_of image requests m n).report.ending ≡ e → Ends n (steps_of image requests m n) e →
      Ends (suc n) (continued_by image (steps_of image requests m n) (get_or requests n 0) e)
      (continued_by image (steps_of image requests m n) (get_or requests n 0) e).report.ending
  unfolding steps_of
  one_more n (refused x) is k = rw is (record {
    steps = k.steps;
    fewer = omega (arith, k.fewer);
    completed = k.completed;
    counted = k.counted;
    machine = k.machine;
    reported = k.reported;
    cycles = k.cycles;
    number = k.number;
    ended = k.ended;
    stop = k.stop;
  })
  one_more n (done tt) is k = by_answer next.answer refl
    where
      before : Run
      before = steps_of image requests m n

      next : Step
      next = step_of image before.machine (get_or requests n 0)

      by_answer :
          (a : Answer ℕ) → next.answer ≡ a →
          Ends (suc n) (joined_by before next.machine a) (joined_by before next.machine a).report.ending
      by_answer (done cycles) e = omega (arith, k)
      by_answer (refused r) e =
          record {
            steps = n;
            fewer = omega arith;
            completed = is;
            counted = k;
            machine = step_keeps image before.machine (get_or requests n 0) r e;
            reported = k;
            cycles = refl;
            number = r;
            ended = refl;
            stop = e;
          }

  steps_end : (n : ℕ) → Ends n (steps_of image requests m n) (steps_of image requests m n).report.ending
  unfolding steps_of
  steps_end zero = refl
  steps_end (suc n) = one_more n (steps_of image requests m n).report.ending refl (steps_end n)

module _ (image s requests : List ℕ) (n : ℕ) (before : List ℕ) where
  abbrev Left : LentRun → Type 0
  Left = RunLeaves image s requests n before

  left : (answer : ℕ) → (StopNumber (number_of answer) → ⊥) → Left (lent_run answer s before)
  left answer apart = record { refused = λ some none. (refl, refl); stopped = λ is. absurd (apart is) }

  with_room : (b : Bool) (l : LentRun) → Left l → Left (cond b l (lent_run (refusal_word (plain 9)) s before))
  with_room true l k = k
  with_room false l k = left (refusal_word (plain 9)) (λ is. omega arith)

  all_done : (state report : List ℕ) → Left (lent_run (ended_word (done tt)) state report)
  all_done state report = record { refused = λ some none. absurd (some refl); stopped = λ is. absurd (omega arith) }

  module _ (m : Machine) (u : unpacked s ≡ valid m) where
    -- a stop of a run
    after_stop :
        (r : Run) (number address : ℕ) → r.report.ending ≡ refused (located number address) →
        StopNumber number → Stopped image requests m n r →
        Left
        (lent_run (refusal_word (located number address)) (packed r.machine)
        (report_bytes r.report.steps r.report.cycles ++ drop 8 before))
    after_stop r number address ended is k =
        let same : k.number ≡ located number address = cc k.ended in
        record {
          refused = λ some none.
              absurd (none (record { least = omega (arith, is.least); most = omega (arith, is.most) }));
          stopped = λ told.
              record {
                machine = m;
                unpacks = u;
                steps = k.steps;
                fewer = k.fewer;
                completed = k.completed;
                counted = k.counted;
                state = ap packed k.machine;
                report = rw (k.reported, k.cycles);
                stop = rw (k.stop, same);
              };
        }

    by_ending :
        (r : Run) (e : Ended) → r.report.ending ≡ e → StopsOnly r.machine e → Ends image requests m n r e
        → Left (ran_lent s before r)
    unfolding ran_lent
    by_ending r (done tt) is only k = rw is (with_room (leb 8 (length before)) _ (all_done _ _))
    by_ending r (refused x) is only k =
        let stopped = after_stop r only.number r.machine.control.pc (rw only.is at is) only.stops k in
        rw (is, only.is) (with_room (leb 8 (length before)) _ stopped)

    by_test : Bytes image → (b : Bool) (r : Run) → RunTested image m requests n b r → Left (ran_lent s before r)
    unfolding ran_lent
    by_test all _ _ (run_refuses number apart) = left (word number 0 0) apart
    by_test all _ _ (run_passes size formed fit) =
        by_ending (steps_of image requests m n) (steps_of image requests m n).report.ending refl
        (run_ends_by_stop image all size requests n fit m formed) (steps_end image requests m n)

  by_state : Bytes image → (u : Unpacked) → unpacked s ≡ u → Left (run_by image s requests n before u)
  by_state all (valid m) e = by_test m e all _ _ (run_tested image m requests n)
  by_state all invalid e = by_image (is_image (length image))
    where
      by_image : (b : Bool) → Left (lent_run (refusal_word (cond b (plain 2) (plain 1))) s before)
      by_image true = left (refusal_word (plain 2)) (λ is. omega arith)
      by_image false = left (refusal_word (plain 1)) (λ is. omega arith)

pub run_leaves :
    (image s requests report : List ℕ) → Bytes image → (n : ℕ)
    → RunLeaves image s requests n report (run_lent image s requests n report)
unfolding run_lent
run_leaves image s requests report all n = by_state image s requests n report all (unpacked s) refl
