-- What follows where a step without requests is done, or refused with 11 at most.
use Prim.Native.Nat.{ℕ, ◌≤◌}
use mathlib.Core.Path.{◌≡◌, refl, sym, ap, ◌∙◌}
use mathlib.Core.Logic.{◌⊎◌, inl, inr}
use mathlib.Core.Bool.{Bool, true, false, false≢true}
use mathlib.Core.List.{List, []}
use native.Mathlib.Omega.{arith}
use lib.ListN.{get_or, length}
use Rattle.isa.specs.Refusals.{Numbered, plain, located, Answer, done, refused}
use Rattle.isa.specs.Rom.{is_image}
use Rattle.isa.proofs.Halves.{is_space_lem}
use Rattle.data.specs.Space.{program_of}
use Rattle.machine.specs.declared.Machine.{Machine}
use Rattle.machine.specs.State.{is_well_formed}
use Rattle.machine.specs.Step.{Step, step_of}
use Rattle.machine.specs.Run.{steps_of, run_of}
use Rattle.machine.specs.Refusals as why
use Rattle.machine.specs.Laws.{IsStop}
use Rattle.machine.proofs.Refusals.{step_refusals, run_refusals}
use Rattle.machine.proofs.StepDoes.{stops_numbered}
use Rattle.bench.specs.Session.{StepRefusedWith, StepDone}

-- demand 3's promise of a step without requests
abbrev pub StepKept : (image : List ℕ) → Machine → Type 0
StepKept image m = StepRefusedWith m 11 (step_of image m 0) ⊎ StepDone (step_of image m 0)

-- a step that is refused with 1 or 2 is neither done nor refused with 11
neither : (image : List ℕ) (m : Machine) (n : ℕ) → n ≤ 2 → why.StepRefused image m 0 (plain n) → StepKept image m → ⊥
neither image m n h why (inl r) =
    let x : ◌≡◌ {A = Answer ℕ} (refused (plain n)) (refused (plain 11)) =
    sym (ap (λ (s : Step). s.answer) (step_refusals.given image m 0 (plain n) why)) ∙ r.refusal in
    let y : n ≡ 11 = cc in
    omega arith
neither image m n h why (inr d) =
    let x : ◌≡◌ {A = Answer ℕ} (refused (plain n)) (done d.cycles) =
    sym (ap (λ (s : Step). s.answer) (step_refusals.given image m 0 (plain n) why)) ∙ d.answer in
    cc

-- so image and machine are such that a step is not refused with 1 or 2
pub record Fits (image : List ℕ) (m : Machine) : Type 0 where
  pub size : is_image (length image) ≡ true
  pub formed : is_well_formed m ≡ true

pub fits : (image : List ℕ) (m : Machine) → StepKept image m → Fits image m
fits image m kept = go (is_image (length image)) (is_well_formed m) refl refl
  where
    go : (i w : Bool) → is_image (length image) ≡ i → is_well_formed m ≡ w → Fits image m
    go true true i w = record { size = i; formed = w }
    go true false i w = absurd (neither image m 2 (omega arith) (why.ill_formed i w) kept)
    go false b i w = absurd (neither image m 1 (omega arith) (why.image_length i) kept)

-- a step without requests is not refused with 11
pub is_done : (image : List ℕ) (m : Machine) → StepKept image m → StepDone (step_of image m 0)
is_done image m (inr d) = d
is_done image m (inl r) =
    absurd (by_reason (plain 11) refl (step_refusals.only image m 0 (plain 11) r.refusal))
  where
    by_reason : (n : Numbered) → n ≡ plain 11 → why.StepRefused image m 0 n → ⊥
    by_reason _ e (why.image_length i) = let y : ◌≡◌ {A = ℕ} 1 11 = cc in omega arith
    by_reason _ e (why.ill_formed i w) = let y : ◌≡◌ {A = ℕ} 2 11 = cc in omega arith
    by_reason _ e (why.unknown_source i w names) = false≢true (sym names)
    by_reason n e (why.stops _ i w names stop) =
        let s : IsStop m n =
        stops_numbered (program_of image m.bytes) m 0 (is_space_lem image (get_or m.bytes 0xCA 0) i) w n stop in
        let x : plain 11 ≡ located s.number m.control.pc = sym e ∙ s.is in
        cc

-- a run without requests on such a machine is not refused
pub run_as_steps :
    (image : List ℕ) (m : Machine) → Fits image m → (n : ℕ) → n ≤ 65535 → run_of image m [] n ≡ steps_of image [] m n
run_as_steps image m f n h = run_refusals.steps_else image m [] n by_reason
  where
    by_reason : (r : Numbered) → why.RunRefused image m [] n r → ⊥
    by_reason _ (why.image_length i) = false≢true (sym i ∙ f.size)
    by_reason _ (why.ill_formed i w) = false≢true (sym w ∙ f.formed)
    by_reason _ (why.step_count i w more) = omega arith
    by_reason _ (why.unknown_source k i w less l names) = false≢true (sym names)
