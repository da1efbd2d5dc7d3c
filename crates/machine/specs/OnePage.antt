-- "With one page all equals the 4K machine, but for that clearing" (document 02, W-210): what the machine's operations
-- answered of an image without pages to choose from, by their definitions as they were. The image itself was program
-- space, and no byte picked a page.
use Rattle.std.specs.Prelude.{ℕ, zero, suc, ◌≡◌, true, List, leb, length, get_or, set, replicate, Option}
use Rattle.isa.specs.Rom.{is_space}
use Rattle.isa.specs.Decode.{decode_at, decode_in}
use Rattle.isa.specs.Refusals.{plain, Answer, Ended, done, refused, unless}
use Rattle.isa.specs.Sources.{names_only_sources}
use Rattle.data.specs.declared.Origin.{Origin}
use Rattle.data.specs.Space.{read_of, origin_of}
use Rattle.machine.specs.declared.Machine.{Machine}
use Rattle.machine.specs.State.{machine_of, cleared_pairs, reset_control, is_well_formed, reset_of}
use Rattle.machine.specs.Step.{Step, refused_of, due_of, advanced_of, step_of}
use Rattle.machine.specs.Steps.{Run, run_at, joined_of}
use Rattle.machine.specs.Run.{requests_fit, refused_run, steps_of, run_of}
use Rattle.machine.specs.Operands.{action_read, read_if_done, step_read_of}
use Rattle.machine.specs.declared.reading.Reading.{Reading}
use Rattle.machine.specs.Reading.{reading_as, reading_of}

-- a step
abbrev pub step_unpaged : (image : List ℕ) → Machine → (request : ℕ) → Step
step_unpaged image m request =
    unless (is_space (length image)) (refused_of m (plain 1))
    (unless (is_well_formed m) (refused_of m (plain 2))
    (unless (names_only_sources request) (refused_of m (plain 11)) (advanced_of image m request)))

-- what it reads
abbrev pub step_read_unpaged : (image : List ℕ) → Machine → (request : ℕ) → Option Origin
step_read_unpaged image m request =
    read_if_done (step_unpaged image m request).answer
    (action_read image m.bytes (due_of image m request))

-- the steps of a run
abbrev pub continued_unpaged : (image : List ℕ) → Run → (request : ℕ) → Ended → Run
continued_unpaged image r request (done tt) = joined_of r (step_unpaged image r.machine request)
continued_unpaged image r request (refused n) = r

unfoldable pub steps_unpaged : (image requests : List ℕ) → Machine → (n : ℕ) → Run
steps_unpaged image requests m zero = run_at m 0 0 (done tt)
steps_unpaged image requests m (suc n) =
    let r = steps_unpaged image requests m n in
    continued_unpaged image r (get_or requests n 0) r.report.ending

-- a run
abbrev pub run_unpaged : (image : List ℕ) → Machine → (requests : List ℕ) → (n : ℕ) → Run
run_unpaged image m requests n =
    unless (is_space (length image)) (refused_run m (plain 1))
    (unless (is_well_formed m) (refused_run m (plain 2))
    (unless (leb n 65535) (refused_run m (plain 12))
    (unless (requests_fit requests n) (refused_run m (plain 11)) (steps_unpaged image requests m n))))

-- a reading
abbrev pub reading_unpaged : (image : List ℕ) → Machine → (a : ℕ) → Answer Reading
reading_unpaged image m a =
    unless (is_space (length image)) (refused (plain 1))
    (unless (is_well_formed m) (refused (plain 2))
    (done (reading_as (read_of image m.bytes a) (origin_of image m.bytes a))))

-- a reset
abbrev pub reset_unpaged : Machine → Machine
reset_unpaged m = machine_of reset_control (replicate 6 0) cleared_pairs (set (set m.bytes 0xC8 0) 0xC9 0)

-- ".. reset clears it": a machine with 0 at 0CAh
abbrev pub with_bank_cleared : Machine → Machine
with_bank_cleared m = machine_of m.control m.stack m.flags (set m.bytes 0xCA 0)

-- proved by machine_as_before, proofs/OnePage
pub record MachineAsBefore : Type 0 where
  pub decode :
      (image : List ℕ) → is_space (length image) ≡ true → (bank a : ℕ) → decode_in image bank a ≡ decode_at image a
  pub step :
      (image : List ℕ) → is_space (length image) ≡ true → (m : Machine) (request : ℕ) →
      step_of image m request ≡ step_unpaged image m request
  pub step_read :
      (image : List ℕ) → is_space (length image) ≡ true → (m : Machine) (request : ℕ) →
      step_read_of image m request ≡ step_read_unpaged image m request
  pub steps :
      (image : List ℕ) → is_space (length image) ≡ true → (requests : List ℕ) (m : Machine) (n : ℕ) →
      steps_of image requests m n ≡ steps_unpaged image requests m n
  pub run :
      (image : List ℕ) → is_space (length image) ≡ true → (m : Machine) (requests : List ℕ) (n : ℕ) →
      run_of image m requests n ≡ run_unpaged image m requests n
  pub reading :
      (image : List ℕ) → is_space (length image) ≡ true → (m : Machine) (a : ℕ) →
      reading_of image m a ≡ reading_unpaged image m a
  -- "but for that clearing", with any image
  pub reset : (m : Machine) → reset_of m ≡ with_bank_cleared (reset_unpaged m)
