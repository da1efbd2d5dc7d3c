-- Rows of steps: the run of what is gathered plays its steps.
use Prim.Native.Nat.{ℕ, zero, suc, ◌+◌, ◌*◌, ◌≤◌, ◌<◌}
use native.Mathlib.Omega.{arith}
use native.Mathlib.Nat.{add-zero, add_assoc}
use mathlib.Core.Path.{◌≡◌, refl, sym, ap, ◌∙◌}
use mathlib.Core.Bool.{Bool, true, false, false≢true}
use mathlib.Core.List.{List}
use lib.ListN.{length, drop, get_or}
use Rattle.isa.specs.Refusals.{Numbered, plain, Answer, Ended, done, refused}
use Rattle.isa.specs.Rom.{is_image}
use Rattle.isa.specs.Sources.{names_only_sources}
use Rattle.machine.specs.declared.Machine.{Machine}
use Rattle.machine.specs.State.{is_well_formed}
use Rattle.machine.specs.Step.{step_of}
use Rattle.machine.specs.Step as stepping
use Rattle.machine.specs.Run.{Run, joined_by, continued_by, steps_of, refused_run, run_of}
use Rattle.machine.specs.Refusals as why
use Rattle.machine.specs.Refusals.{StepRefused, RunRefused}
use Rattle.machine.proofs.Refusals.{step_refusals, run_refusals}
use Rattle.machine.proofs.StepByStep.{stops_at}
use Rattle.playback.specs.declared.Entry.{Entry}
use Rattle.playback.specs.declared.Entry.TheVariants.{Step}
use Rattle.playback.specs.Entries.{then_read, entries_of, is_read}
use Rattle.playback.specs.Play.{Playing, playing_as}
use Rattle.playback.specs.Row.{played_from, steps_read, Gathered}
use Rattle.playback.proofs.Reading.{read_after}
use Rattle.playback.proofs.Playing.{one_more, ends_here}
use Rattle.playback.proofs.Keys.{step_keeps}
use Rattle.playback.proofs.Presses.{step_press}
use Rattle.playback.proofs.Cycles.{Short, step_short}
use Rattle.playback.proofs.Gathering.{rest_read}

-- ---- a row's steps are played as they are run
-- what is played after a run: the rest, from the machine that it left; nothing where it was refused or stopped
abbrev pub onward : (image : List ℕ) → (n cycles : ℕ) → Run → Ended → Answer (List Entry) → Answer Playing
onward image n cycles r (done tt) rest =
    played_from image (n + r.report.steps) (cycles + r.report.cycles) r.machine rest
onward image n cycles r (refused why) rest =
    done (playing_as r.machine (n + r.report.steps) (cycles + r.report.cycles) (refused why))

abbrev pub after : (image : List ℕ) → (n cycles : ℕ) → Run → Answer (List Entry) → Answer Playing
after image n cycles r rest = onward image n cycles r r.report.ending rest

module _ (image : List ℕ) (n cycles : ℕ) where
  -- a step after a run
  module _ (r : Run) (q : ℕ) (rest : Answer (List Entry)) (read : is_read rest ≡ true) where
    abbrev s : stepping.Step
    s = step_of image r.machine q

    by_answer :
        (a : Answer ℕ) → s.answer ≡ a →
        played_from image (n + r.report.steps) (cycles + r.report.cycles) r.machine (then_read (Step q) rest)
        ≡ after image n cycles (joined_by r s.machine a) rest
    by_answer (done spent) is =
        sym (one_more image (n + r.report.steps) (cycles + r.report.cycles) r.machine (Step q) s
        (step_press image r.machine s.machine q s.answer refl) spent is rest)
        ∙ rw (add_assoc n r.report.steps 1, add_assoc cycles r.report.cycles spent) refl
    by_answer (refused reason) is =
        ends_here image (n + r.report.steps) (cycles + r.report.cycles) r.machine (Step q) s
        (step_press image r.machine s.machine q s.answer refl) reason is rest read
        ∙ ap (λ (x : stepping.Step). done
        (playing_as x.machine (n + r.report.steps) (cycles + r.report.cycles) (refused reason)))
        (step_keeps image r.machine q reason is)

    by_ending :
        (e : Ended) → r.report.ending ≡ e →
        onward image n cycles r e (then_read (Step q) rest) ≡ after image n cycles (continued_by image r q e) rest
    by_ending (done tt) is = by_answer s.answer refl
    by_ending (refused reason) is = rw is refl

  module _ (requests : List ℕ) (m : Machine) where
    played :
        (k : ℕ) (rest : Answer (List Entry)) → is_read rest ≡ true →
        played_from image n cycles m (steps_read requests k rest)
        ≡ after image n cycles (steps_of image requests m k) rest
    unfolding steps_read steps_of
    played zero rest read = rw (add-zero n, add-zero cycles) refl
    played (suc k) rest read =
        let q = get_or requests k 0 in
        let r = steps_of image requests m k in
        played k (then_read (Step q) rest) (read_after (Step q) rest ∙ read)
        ∙ by_ending r q rest read r.report.ending refl

-- ---- the run of a row is its steps: where it is refused, so is the first step
module _ (image : List ℕ) (m : Machine) (requests : List ℕ) (n : ℕ) (some : 0 < n) (most : n ≤ 4096)
    (fit : (k : ℕ) → 0 < k → k < n → names_only_sources (get_or requests k 0) ≡ true) where
  first_refused :
      (r : Numbered) → StepRefused image m (get_or requests 0 0) r → refused_run m r ≡ steps_of image requests m n
  unfolding steps_of
  first_refused r is =
      stops_at image requests m 0 n 0 m m r some refl (sym (step_refusals.given image m (get_or requests 0 0) r is))

  row_steps : run_of image m requests n ≡ steps_of image requests m n
  row_steps = by_tests (is_image (length image)) (is_well_formed m) (names_only_sources (get_or requests 0 0)) refl refl refl
    where
      none : names_only_sources (get_or requests 0 0) ≡ true → is_image (length image) ≡ true → is_well_formed m ≡ true →
          (r : Numbered) → RunRefused image m requests n r → ⊥
      none f i w _ (why.image_length i') = false≢true (sym i' ∙ i)
      none f i w _ (why.ill_formed i' w') = false≢true (sym w' ∙ w)
      none f i w _ (why.step_count i' w' more) = omega arith
      none f i w _ (why.unknown_source zero i' w' less l names) = false≢true (sym names ∙ f)
      none f i w _ (why.unknown_source (suc k) i' w' less l names) =
          false≢true (sym names ∙ fit (suc k) (omega arith) l)

      by_tests :
          (i w f : Bool) → is_image (length image) ≡ i → is_well_formed m ≡ w →
          names_only_sources (get_or requests 0 0) ≡ f → run_of image m requests n ≡ steps_of image requests m n
      by_tests false w f i' w' f' =
          run_refusals.given image m requests n (plain 1) (why.image_length i')
          ∙ first_refused (plain 1) (why.image_length i')
      by_tests true false f i' w' f' =
          run_refusals.given image m requests n (plain 2) (why.ill_formed i' w')
          ∙ first_refused (plain 2) (why.ill_formed i' w')
      by_tests true true false i' w' f' =
          run_refusals.given image m requests n (plain 11) (why.unknown_source 0 i' w' (omega arith) some f')
          ∙ first_refused (plain 11) (why.unknown_source i' w' f')
      by_tests true true true i' w' f' = run_refusals.steps_else image m requests n (none f' i' w')

-- ---- what a run counts
pub record Counts (n : ℕ) (r : Run) : Type 0 where
  pub steps : r.report.steps ≤ n
  pub cycles : r.report.cycles ≤ 255 * r.report.steps

module _ (image : List ℕ) (n : ℕ) (r : Run) (counts : Counts n r) where
  joined_counts : (after : Machine) (a : Answer ℕ) → Short a → Counts (suc n) (joined_by r after a)
  joined_counts after (done spent) few =
      record { steps = omega (arith, counts.steps); cycles = omega (arith, counts.cycles) }
  joined_counts after (refused reason) few =
      record { steps = omega (arith, counts.steps); cycles = counts.cycles }

  continued_counts : (q : ℕ) (e : Ended) → Counts (suc n) (continued_by image r q e)
  continued_counts q (done tt) =
      let s = step_of image r.machine q in
      joined_counts s.machine s.answer (step_short image r.machine q)
  continued_counts q (refused reason) = record { steps = omega (arith, counts.steps); cycles = counts.cycles }

steps_count : (image requests : List ℕ) (m : Machine) (n : ℕ) → Counts n (steps_of image requests m n)
unfolding steps_of
steps_count image requests m zero = record { steps = omega arith; cycles = omega arith }
steps_count image requests m (suc n) =
    let r = steps_of image requests m n in
    continued_counts image n r (steps_count image requests m n) (get_or requests n 0) r.report.ending

-- ---- the run of what is gathered
module _ (body requests : List ℕ) (count : ℕ) (g : Gathered body requests count) (image : List ℕ) (m : Machine) where
  run_is : run_of image m requests count ≡ steps_of image requests m count
  run_is = row_steps image m requests count g.some g.most g.fit

  pub row_counts : Counts count (run_of image m requests count)
  row_counts = rw run_is (steps_count image requests m count)

  pub row_reads : is_read (entries_of (drop (2 * count) body)) ≡ is_read (entries_of body)
  row_reads = sym (ap is_read g.reads ∙ rest_read requests count (entries_of (drop (2 * count) body)))

  -- the playing of the body, by the run's report
  pub plays_row :
      (n cycles : ℕ) → is_read (entries_of body) ≡ true →
      played_from image n cycles m (entries_of body)
      ≡ after image n cycles (run_of image m requests count) (entries_of (drop (2 * count) body))
  plays_row n cycles reads =
      let rest = entries_of (drop (2 * count) body) in
      ap (played_from image n cycles m) g.reads
      ∙ played image n cycles requests m count rest (row_reads ∙ reads)
      ∙ ap (λ (r : Run). after image n cycles r rest) (sym run_is)
