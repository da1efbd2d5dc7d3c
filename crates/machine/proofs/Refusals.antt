-- A step, a run, a host store and a reading are refused by the papers' numbers, in their order, and nowhere else.
use Prim.Native.Nat.{ℕ, zero, suc, ◌<◌}
use mathlib.Core.Path.{◌≡◌, refl, ap, ◌∙◌}
use mathlib.Core.Bool.{Bool, true, false, not, ◌&&◌}
use mathlib.Core.List.{List}
use native.Mathlib.Omega.{arith}
use borrow.Author.Tests.{lt-leb, le-leb, lt-ltb, leb-true, leb-false, ltb-true}
use lib.Dec.{leb, ltb}
use lib.ListN.{length, get_or}
use Rattle.isa.specs.Refusals.{Numbered, plain, Answer, done, refused, unless}
use Rattle.isa.specs.Displacement.{forward_of}
use Rattle.isa.specs.ControlFlow.{flow_of}
use Rattle.isa.specs.Sources.{names_only_sources}
use Rattle.isa.specs.Rom.{is_image}
use Rattle.isa.specs.declared.Instruction.{Instruction}
use Rattle.isa.specs.declared.Instruction.TheVariants as I
use Rattle.std.specs.Prelude.{Some}
use Rattle.control.specs.declared.Stop.{Stop}
use Rattle.control.specs.declared.Stop.TheVariants.{Full, Empty}
use Rattle.control.specs.Transfers.{advance_of}
use Rattle.control.specs.Requests.{take_of}
use Rattle.control.proofs.Stopped.{take_stops, call_stops, pop_stops, return_stops}
use Rattle.data.specs.Space.{program_of}
use Rattle.machine.specs.declared.Machine.{Machine}
use Rattle.machine.specs.Execute.{execute_of}
use Rattle.machine.specs.State.{is_well_formed, with_byte, host_stored, host_store_of}
use Rattle.machine.specs.Advance.{Step, refused_of, stop_at, taken_by, taken_of, completed_of, executed_of, acted_of, advanced_of}
use Rattle.machine.specs.Actions.{action_of}
use Rattle.machine.specs.Step.{step_of}
use Rattle.machine.specs.Steps.{requests_fit, steps_of}
use Rattle.machine.specs.Run.{refused_run, run_of}
use Rattle.machine.specs.declared.reading.Reading.{Reading}
use Rattle.machine.specs.Reading.{reading_of}
use Rattle.machine.specs.Refusals as why
use Rattle.machine.specs.Refusals.{
  TakesNone,
  AtPc,
  StepStops,
  StepRefused,
  DoneIn,
  StepRefusals,
  RunRefused,
  RunRefusals,
  StoreRefused,
  StoreRefusals,
  ReadingRefused,
  ReadingRefusals,
}
use Rattle.machine.specs.Laws.{execution_at, Does, stops, takes, idles, executes}
use Rattle.machine.proofs.StepDoes.{Tested, refuses, passes, step_tested}
use Rattle.machine.proofs.StepByStep.{fits_not}
use Rattle.machine.proofs.Due.{takes_due, awake_due}

-- the two ends of an answer are apart
not_refused : {P : Type 0} (cycles : ℕ) (r : Numbered) → ◌≡◌ {A = Answer ℕ} (done cycles) (refused r) → P
not_refused cycles r e = let z : ◌≡◌ {A = ℕ} 0 1 = cc in absurd (omega arith)

module _ (image : List ℕ) (m : Machine) (request : ℕ) where
  -- an instruction that stops, where nothing is taken
  instruction_stops :
      TakesNone m request → m.control.asleep ≡ false → (i : Instruction) (bytes cycles : ℕ) →
      AtPc image m i bytes cycles →
      (s : Stop) → (execution_at image m i bytes).stop ≡ Some s →
      advanced_of image m request ≡ refused_of m (stop_at s m.control.pc)
  unfolding advanced_of acted_of executed_of completed_of
  instruction_stops none awake i bytes cycles at s e =
      ap (acted_of image m) (awake_due image m request none awake _ at) ∙ rw e

  stop_given : (r : Numbered) → StepStops image m request r → advanced_of image m request ≡ refused_of m r
  unfolding advanced_of acted_of taken_of taken_by execute_of advance_of flow_of
  stop_given _ (why.request_full source e six) =
      let full : (take_of m.stack m.control source).stop ≡ Some Full =
      (take_stops m.stack m.control source).stop ∙ rw six in
      ap (acted_of image m) (takes_due image m request source e) ∙ rw full
  stop_given r (why.undecoded _ none awake e) =
      ap (acted_of image m) (awake_due image m request none awake _ e)
  stop_given _ (why.call_full to bytes cycles none awake at six) =
      instruction_stops none awake (I.Call to) bytes cycles at Full
      ((call_stops m.stack m.control to (forward_of m.control.pc bytes)).stop ∙ rw six)
  stop_given _ (why.ret_empty bytes cycles none awake at empty) =
      instruction_stops none awake I.Ret bytes cycles at Empty
      ((pop_stops m.stack m.control).stop ∙ rw empty)
  stop_given _ (why.reti_empty bytes cycles none awake at empty mode) =
      instruction_stops none awake I.Reti bytes cycles at Empty
      ((return_stops m.stack m.control (forward_of m.control.pc bytes)).stop ∙ rw (empty, mode))

module _ (image : List ℕ) (m : Machine) (request : ℕ) where
  given : (r : Numbered) → StepRefused image m request r → step_of image m request ≡ refused_of m r
  unfolding step_of advanced_of action_of acted_of
  given _ (why.image_length i) = rw i
  given _ (why.ill_formed i w) = rw (i, w)
  given _ (why.unknown_source i w n) = rw (i, w, n)
  given r (why.stops _ i w n s) = rw (i, w, n) (stop_given (program_of image m.bytes) m request r s)

  -- the same number
  same_number :
      (q r : Numbered) → ◌≡◌ {A = Answer ℕ} (refused q) (refused r) → StepRefused image m request q →
      StepRefused image m request r
  same_number q r e s = let same : q ≡ r = cc in rw same at s

  only_stops :
      is_image (length image) ≡ true → is_well_formed m ≡ true → names_only_sources request ≡ true →
      (t : Step) → Does (program_of image m.bytes) m request t → (r : Numbered) → t.answer ≡ refused r → StepRefused image m request r
  only_stops i w n _ (stops q s) r e = same_number q r e (why.stops q i w n s)
  only_stops i w n _ (takes source asked room) r e = not_refused 1 r e
  only_stops i w n _ (idles none asleep) r e = not_refused 0 r e
  only_stops i w n _ (executes x bytes cycles none awake at goes) r e = not_refused cycles r e

  only : (t : Step) → Tested image m request t → (r : Numbered) → t.answer ≡ refused r → StepRefused image m request r
  only _ (refuses q s) r e = same_number q r e s
  only t (passes i w n _ deed) r e = only_stops i w n t deed r e

  done_else : (a : Answer ℕ) → ((r : Numbered) → a ≡ refused r → ⊥) → DoneIn a
  done_else (done cycles) nowhere = record { cycles = cycles; is = refl }
  done_else (refused r) nowhere = absurd (nowhere r refl)

pub step_refusals : StepRefusals
step_refusals = record {
  given = given;
  only = λ image m request. only image m request (step_of image m request) (step_tested image m request);
  done_else = λ image m request nowhere.
      done_else image m request (step_of image m request).answer
      (λ r e. nowhere r (only image m request (step_of image m request) (step_tested image m request) r e));
}

-- a byte among the first n that names more than sources
record Misfit (requests : List ℕ) (n : ℕ) : Type 0 where
  pub k : ℕ
  pub below : k < n
  pub named : names_only_sources (get_or requests k 0) ≡ false

misfit : (requests : List ℕ) (n : ℕ) → requests_fit requests n ≡ false → Misfit requests n
unfolding requests_fit
misfit requests zero e = let z : ◌≡◌ {A = ℕ} 0 1 = cc in absurd (omega arith)
misfit requests (suc n) e = by_byte (names_only_sources (get_or requests n 0)) refl (misfit requests n)
  where
    by_byte :
        (b : Bool) → names_only_sources (get_or requests n 0) ≡ b → (requests_fit requests n ≡ false →
        Misfit requests n) → Misfit requests (suc n)
    by_byte false named before = record { k = n; below = omega arith; named = named }
    by_byte true named before =
        let h = before (rw named at e) in record { k = h.k; below = omega (arith, h.below); named = h.named }

module _ (image : List ℕ) (m : Machine) (requests : List ℕ) (n : ℕ) where
  run_given : (r : Numbered) → RunRefused image m requests n r → run_of image m requests n ≡ refused_run m r
  unfolding run_of
  run_given _ (why.image_length i) = rw i
  run_given _ (why.ill_formed i w) = rw (i, w)
  run_given _ (why.step_count i w h) = rw (i, w, lt-leb n 65535 h)
  run_given _ (why.unknown_source k i w h below named) =
      rw (i, w, le-leb n 65535 h, fits_not requests n k below named (requests_fit requests n) refl)

  by_tests :
      (i : Bool) → is_image (length image) ≡ i → (w : Bool) → is_well_formed m ≡ w → (few : Bool) → leb n 65535 ≡ few →
      (fit : Bool) → requests_fit requests n ≡ fit → ((r : Numbered) → RunRefused image m requests n r → ⊥) →
      unless i (refused_run m (plain 1))
      (unless w (refused_run m (plain 2))
      (unless few (refused_run m (plain 12)) (unless fit (refused_run m (plain 11)) (steps_of image requests m n))))
      ≡ steps_of image requests m n
  by_tests false e w f few g fit h nowhere = absurd (nowhere _ (why.image_length e))
  by_tests true e false f few g fit h nowhere = absurd (nowhere _ (why.ill_formed e f))
  by_tests true e true f false g fit h nowhere = absurd (nowhere _ (why.step_count e f (leb-false n 65535 g)))
  by_tests true e true f true g false h nowhere =
      let bad = misfit requests n h in
      absurd (nowhere _ (why.unknown_source bad.k e f (leb-true n 65535 g) bad.below bad.named))
  by_tests true e true f true g true h nowhere = refl

pub run_refusals : RunRefusals
unfolding run_of
run_refusals = record {
  given = run_given;
  steps_else = λ image m requests n.
      by_tests image m requests n (is_image (length image)) refl (is_well_formed m) refl (leb n 65535) refl
      (requests_fit requests n) refl;
}

module _ (m : Machine) (a value : ℕ) where
  store_given : (r : Numbered) → StoreRefused m a r → host_store_of m a value ≡ host_stored m (refused r)
  unfolding host_store_of
  store_given _ (why.ill_formed w) = rw w
  store_given _ (why.window_address w low high) = rw (w, le-leb 0x40 a low, lt-ltb a 0x80 high)

  store_tests :
      (w : Bool) → is_well_formed m ≡ w → (low : Bool) → leb 0x40 a ≡ low → (high : Bool) → ltb a 0x80 ≡ high →
      ((r : Numbered) → StoreRefused m a r → ⊥) →
      unless w (host_stored m (refused (plain 2)))
      (unless (not (low && high)) (host_stored m (refused (plain 10))) (host_stored (with_byte m a value) (done tt)))
      ≡ host_stored (with_byte m a value) (done tt)
  store_tests false e low f high g nowhere = absurd (nowhere _ (why.ill_formed e))
  store_tests true e false f high g nowhere = refl
  store_tests true e true f false g nowhere = refl
  store_tests true e true f true g nowhere =
      absurd (nowhere _ (why.window_address e (leb-true 0x40 a f) (ltb-true a 0x80 g)))

pub store_refusals : StoreRefusals
unfolding host_store_of
store_refusals = record {
  given = store_given;
  done_else = λ m a value. store_tests m a value (is_well_formed m) refl (leb 0x40 a) refl (ltb a 0x80) refl;
}

reading_given :
    (image : List ℕ) (m : Machine) (a : ℕ) (r : Numbered) → ReadingRefused image m r → reading_of image m a ≡ refused r
unfolding reading_of
reading_given image m a _ (why.image_length i) = rw i
reading_given image m a _ (why.ill_formed i w) = rw (i, w)

reading_tests :
    (image : List ℕ) (m : Machine) (more : Answer Reading) (i : Bool) → is_image (length image) ≡ i → (w : Bool) →
    is_well_formed m ≡ w → ((r : Numbered) → ReadingRefused image m r → ⊥) →
    unless i (refused (plain 1)) (unless w (refused (plain 2)) more) ≡ more
reading_tests image m more false e w f nowhere = absurd (nowhere (plain 1) (why.image_length e))
reading_tests image m more true e false f nowhere = absurd (nowhere (plain 2) (why.ill_formed e f))
reading_tests image m more true e true f nowhere = refl

pub reading_refusals : ReadingRefusals
unfolding reading_of
reading_refusals = record {
  given = reading_given;
  done_else = λ image m a. reading_tests image m _ (is_image (length image)) refl (is_well_formed m) refl;
}
