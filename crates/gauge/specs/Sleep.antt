-- A machine that runs without requests until it sleeps, and the width that it then shows (document 02, W-201).
use Rattle.std.specs.Prelude.{ℕ, zero, suc, ◌+◌, ◌*◌, ◌<◌, ◌≤◌, ◌≡◌, Bool, true, false, cond, List, [], get_or}
use Rattle.isa.specs.Refusals.{plain, Answer, done, refused}
use Rattle.machine.specs.declared.Machine.{Machine}
use Rattle.machine.specs.Step.{step_of}
use Rattle.machine.specs.Run.{steps_of}
use Rattle.bench.specs.Session.{StepDone}
use Rattle.gauge.specs.declared.Measured.{Measured}

-- "runs without requests": the machine after n steps
abbrev pub machine_after : (image : List ℕ) → Machine → (n : ℕ) → Machine
machine_after image m n = (steps_of image [] m n).machine

-- "until the machine sleeps": whether it sleeps after n steps
abbrev pub asleep_after : (image : List ℕ) → Machine → (n : ℕ) → Bool
asleep_after image m n = (machine_after image m n).control.asleep

abbrev pub AsleepAfter : (image : List ℕ) → Machine → (n : ℕ) → Type 0
AsleepAfter image m n = asleep_after image m n ≡ true

abbrev pub AwakeAfter : (image : List ℕ) → Machine → (n : ℕ) → Type 0
AwakeAfter image m n = asleep_after image m n ≡ false

-- no step stops: each of so many steps without requests is done
abbrev pub AllDone : (image : List ℕ) → Machine → (steps : ℕ) → Type 0
AllDone image m steps = (n : ℕ) → n < steps → StepDone (step_of image (machine_after image m n) 0)

-- "The width, in tenths of a millimetre, is 256 times the byte at 084h plus the byte at 085h."
abbrev pub width_shown : Machine → ℕ
width_shown m = 256 * get_or m.bytes 0x84 0 + get_or m.bytes 0x85 0

-- "It answers width and steps."
abbrev pub Size : Type 0
Size = Measured

-- a width and steps as the answer
abbrev pub size_as : (width steps : ℕ) → Size
size_as width steps = record { width = width; steps = steps }

-- of the steps from step n on, as many as are left, the first after which the machine sleeps; 24 where there is none
unfoldable pub size_from : (image : List ℕ) → Machine → (n left : ℕ) → Answer Size
size_from image m n zero = refused (plain 24)
size_from image m n (suc left) =
    cond (asleep_after image m n) (done (size_as (width_shown (machine_after image m n)) n)) (size_from image m (suc n) left)

-- "runs without requests until the machine sleeps", and "with 24 when 65,535 steps pass without sleep"
abbrev pub size_of : (image : List ℕ) → Machine → Answer Size
size_of image m = size_from image m 1 65535

-- What the functions inside the crate ask for and promise (`sleep::measure`, `sleep::first_sleep`); no claim uses it.

-- a machine to be run until it sleeps: it is awake, and no step of it stops
pub record Ready (image : List ℕ) (m : Machine) : Type 0 where
  pub awake : m.control.asleep ≡ false
  pub all_done : AllDone image m 65535

-- a machine that sleeps within so many steps
pub record SleepsWithin (image : List ℕ) (m : Machine) (most : ℕ) : Type 0 where
  pub all_done : AllDone image m most
  pub asleep : AsleepAfter image m most

-- it sleeps after so many steps and after no fewer, and then shows this width
pub record SleepsFirst (image : List ℕ) (m : Machine) (most width steps : ℕ) : Type 0 where
  pub within : steps ≤ most
  pub asleep : AsleepAfter image m steps
  pub awake : (n : ℕ) → n < steps → AwakeAfter image m n
  pub shows : width ≡ width_shown (machine_after image m steps)
