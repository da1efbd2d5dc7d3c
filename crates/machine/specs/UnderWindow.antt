-- The 64 data bytes under the ROM window, at 40h to 7Fh: a machine has them, and nothing looks at them or changes them
-- (document 01, "Program space and data space"). Two machines that differ only there answer alike to everything.
use Rattle.std.specs.Prelude.{ℕ, ◌≡◌, List}
use Rattle.data.specs.UnderWindow.{SameButUnder, SameUnder}
use Rattle.machine.specs.declared.Machine.{Machine}
use Rattle.machine.specs.State.{HostStore, reset_of, host_store_of}
use Rattle.machine.specs.Step.{Step, step_of}
use Rattle.machine.specs.Run.{Run, run_of}
use Rattle.machine.specs.Reading.{reading_of}
use Rattle.machine.specs.Operands.{step_read_of}

-- two machines agree but for the bytes under the window
pub record AlikeButUnder (m m' : Machine) : Type 0 where
  pub control : m.control ≡ m'.control
  pub stack : m.stack ≡ m'.stack
  pub flags : m.flags ≡ m'.flags
  pub bytes : SameButUnder m.bytes m'.bytes

-- two steps: the same answer, and machines that agree but for these bytes
pub record SteppedAlike (s s' : Step) : Type 0 where
  pub answer : s.answer ≡ s'.answer
  pub machine : AlikeButUnder s.machine s'.machine

-- two runs, with the same report
pub record RanAlike (r r' : Run) : Type 0 where
  pub report : r.report ≡ r'.report
  pub machine : AlikeButUnder r.machine r'.machine

-- two host stores, with the same ending
pub record StoredAlike (h h' : HostStore) : Type 0 where
  pub ending : h.ending ≡ h'.ending
  pub machine : AlikeButUnder h.machine h'.machine

-- the bytes under the window are in one machine what they are in another
abbrev pub KeptUnder : (m n : Machine) → Type 0
KeptUnder m n = SameUnder m.bytes n.bytes

-- the bytes under the window are never looked at: machines that agree but for them answer alike, and agree but for them
-- afterwards
-- proved by never_looked_at, proofs/UnderWindow
pub record NeverLookedAt : Type 0 where
  pub by_step :
      (image : List ℕ) (m m' : Machine) (request : ℕ) → AlikeButUnder m m' →
      SteppedAlike (step_of image m request) (step_of image m' request)
  -- .. and the same origin is told
  pub by_telling :
      (image : List ℕ) (m m' : Machine) (request : ℕ) → AlikeButUnder m m' →
      step_read_of image m request ≡ step_read_of image m' request
  pub by_run :
      (image : List ℕ) (m m' : Machine) (requests : List ℕ) (n : ℕ) → AlikeButUnder m m' →
      RanAlike (run_of image m requests n) (run_of image m' requests n)
  pub by_store :
      (m m' : Machine) (a value : ℕ) → AlikeButUnder m m' → StoredAlike (host_store_of m a value) (host_store_of m' a value)
  pub by_reading :
      (image : List ℕ) (m m' : Machine) (a : ℕ) → AlikeButUnder m m' → reading_of image m a ≡ reading_of image m' a
  pub by_reset : (m m' : Machine) → AlikeButUnder m m' → AlikeButUnder (reset_of m) (reset_of m')

-- .. and never change; reset keeps them too, as "other data"
-- proved by never_changed, proofs/UnderWindow
pub record NeverChanged : Type 0 where
  pub by_step : (image : List ℕ) (m : Machine) (request : ℕ) → KeptUnder m (step_of image m request).machine
  pub by_run :
      (image : List ℕ) (m : Machine) (requests : List ℕ) (n : ℕ) → KeptUnder m (run_of image m requests n).machine
  pub by_store : (m : Machine) (a value : ℕ) → KeptUnder m (host_store_of m a value).machine
  pub by_reset : (m : Machine) → KeptUnder m (reset_of m)
