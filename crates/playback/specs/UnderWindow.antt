-- The bytes under the ROM window in a playing (document 02, W-206): like every other operation it neither looks at them
-- nor changes them. The claim is `PlayedAlike`.
use Rattle.std.specs.Prelude.{ℕ, ◌≡◌, true, List, get_or}
use Rattle.isa.specs.Refusals.{done}
use Rattle.data.specs.Space.{in_window}
use Rattle.machine.specs.declared.Machine.{Machine}
use Rattle.machine.specs.UnderWindow.{AlikeButUnder, KeptUnder}
use Rattle.playback.specs.declared.Entry.{Entry}
use Rattle.playback.specs.Play.{Playing, play_from, play_of}

-- two playings: the same entries, cycles and ending, and machines that agree but for the bytes under the window
pub record SamePlaying (p p' : Playing) : Type 0 where
  pub entries : p.entries ≡ p'.entries
  pub cycles : p.cycles ≡ p'.cycles
  pub ending : p.ending ≡ p'.ending
  pub machine : AlikeButUnder p.machine p'.machine

-- proved by played_alike, proofs/UnderWindow
pub record PlayedAlike : Type 0 where
  -- entries played from two machines that agree but for the bytes under the window
  pub alike :
      (image : List ℕ) (n cycles : ℕ) (m m' : Machine) (entries : List Entry) → AlikeButUnder m m' →
      SamePlaying (play_from image n cycles m entries) (play_from image n cycles m' entries)
  -- .. leave these bytes as they were
  pub kept :
      (image : List ℕ) (n cycles : ℕ) (m : Machine) (entries : List Entry) →
      KeptUnder m (play_from image n cycles m entries).machine
  -- so of the machine that the playing of a record answers they are 0, as of a fresh one
  pub zero :
      (image recording : List ℕ) (p : Playing) → play_of image recording ≡ done p → (a : ℕ) → in_window a ≡ true →
      get_or p.machine.bytes a 0 ≡ 0
