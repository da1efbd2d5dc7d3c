-- With one page, or none, the machine's operations answer what they answered.
use Prim.Native.Nat.{ℕ, zero, suc}
use mathlib.Core.Path.{◌≡◌, refl}
use mathlib.Core.Bool.{Bool, true, false}
use mathlib.Core.List.{List}
use lib.ListN.{length, get_or}
use Rattle.isa.specs.Refusals.{plain, Ended, done, refused, unless}
use Rattle.isa.specs.Sources.{names_only_sources}
use Rattle.isa.specs.Rom.{is_space, is_image}
use Rattle.isa.specs.Decode.{decode_in}
use Rattle.isa.proofs.Halves.{space_image, space_is_image}
use Rattle.machine.specs.declared.Machine.{Machine}
use Rattle.machine.specs.State.{is_well_formed, reset_of}
use Rattle.machine.specs.Actions.{refuses, due_of, action_of}
use Rattle.machine.specs.Step.{refused_of, acted_of, advanced_of, step_of}
use Rattle.machine.specs.Steps.{Run, continued_by}
use Rattle.machine.specs.Run.{steps_of, run_of}
use Rattle.machine.specs.Operands.{action_read, read_if_done, step_read_of}
use Rattle.machine.specs.Reading.{reading_of}
use Rattle.machine.specs.OnePage.{step_unpaged, step_read_unpaged, continued_unpaged, steps_unpaged, MachineAsBefore}

module _ (image : List ℕ) (is : is_space (length image) ≡ true) where
  too : is_image (length image) ≡ true
  too = space_image image is

  step_by_lem :
      (m : Machine) (request : ℕ) (w n : Bool) →
      acted_of image m (unless w (refuses (plain 2)) (unless n (refuses (plain 11)) (due_of image m request)))
      ≡ unless w (refused_of m (plain 2)) (unless n (refused_of m (plain 11)) (advanced_of image m request))
  unfolding acted_of advanced_of
  step_by_lem m request true true = refl
  step_by_lem m request true false = refl
  step_by_lem m request false n = refl

  step_is : (m : Machine) (request : ℕ) → step_of image m request ≡ step_unpaged image m request
  unfolding step_of action_of
  step_is m request =
      rw (too, is, space_is_image image (get_or m.bytes 0xCA 0) is)
      (step_by_lem m request (is_well_formed m) (names_only_sources request))

  -- a step that is refused reads none, whatever would be due
  read_by :
      (m : Machine) (request : ℕ) (w n : Bool) →
      read_if_done
      (unless w (refused_of m (plain 2)) (unless n (refused_of m (plain 11)) (advanced_of image m request))).answer
      (action_read image m.bytes
      (unless w (refuses (plain 2)) (unless n (refuses (plain 11)) (due_of image m request))))
      ≡ read_if_done
      (unless w (refused_of m (plain 2)) (unless n (refused_of m (plain 11)) (advanced_of image m request))).answer
      (action_read image m.bytes (due_of image m request))
  read_by m request true true = refl
  read_by m request true false = refl
  read_by m request false n = refl

  read_is : (m : Machine) (request : ℕ) → step_read_of image m request ≡ step_read_unpaged image m request
  unfolding step_read_of action_of
  read_is m request =
      rw (step_is m request, too, is, space_is_image image (get_or m.bytes 0xCA 0) is)
      (read_by m request (is_well_formed m) (names_only_sources request))

  continued_is : (r : Run) (request : ℕ) (e : Ended)
      → continued_by image r request e ≡ continued_unpaged image r request e
  continued_is r request (done tt) = rw (step_is r.machine request)
  continued_is r request (refused n) = refl

  steps_are : (requests : List ℕ) (m : Machine) (n : ℕ) → steps_of image requests m n ≡ steps_unpaged image requests m n
  unfolding steps_of steps_unpaged
  steps_are requests m zero = refl
  steps_are requests m (suc n) =
      let before = steps_unpaged image requests m n in
      rw (steps_are requests m n) (continued_is before (get_or requests n 0) before.report.ending)

pub machine_as_before : MachineAsBefore
unfolding decode_in run_of reading_of reset_of
machine_as_before = record {
  decode = λ image is bank a. rw (too image is, space_is_image image bank is);
  step = step_is;
  step_read = read_is;
  steps = steps_are;
  run = λ image is m requests n. rw (too image is, is, steps_are image is requests m n);
  reading = λ image is m a. rw (too image is, is, space_is_image image (get_or m.bytes 0xCA 0) is);
  reset = λ m. refl;
}
