-- Playing is pressing keys: "The bench holds one machine, lent to each key's operation" (document 01). The claim is
-- `KeysPlayed`, at the end.
use Rattle.std.specs.Prelude.{ℕ, ◌+◌, ◌≡◌, List, [], ◌∷◌, take}
use Rattle.isa.specs.Refusals.{Numbered, Answer, done, refused}
use Rattle.machine.specs.declared.Machine.{Machine}
use Rattle.machine.specs.State.{reset_of, host_stored, host_store_of}
use Rattle.machine.specs.Step.{step_of}
use Rattle.machine.specs.Step as stepping
use Rattle.bench.specs.Calls.{leaves_all}
use Rattle.playback.specs.declared.Entry.{Entry}
use Rattle.playback.specs.declared.Entry.TheVariants.{Step, Store, Reset}
use Rattle.playback.specs.Play.{calls_of, Playing, playing_as, play_from}

-- a machine that the step's key leaves, with the key's answer
abbrev pub step_left : Machine → Answer ℕ → stepping.Step
step_left held answer = record { machine = held; answer = answer }

-- The keys of `bench` pressed in the order of a list of entries on one held machine, after some entries with their
-- cycles. What is asked of each press is its key's contract (bench, src/keys), but for the origin that a step tells:
-- the machine that it leaves in the place of the one that it was lent, with what it returns. A key that refuses or
-- stops is the last.
pub data Presses (image : List ℕ) : (entries cycles : ℕ) → Machine → List Entry → Playing → Type 0 where
  all_pressed : (n cycles : ℕ) (m : Machine) → Presses image n cycles m [] (playing_as m n cycles (done tt))
  step_done :
      (n cycles spent request : ℕ) (m held : Machine) (rest : List Entry) (p : Playing) →
      step_left held (done spent) ≡ step_of image m request → Presses image (n + 1) (cycles + spent) held rest p →
      Presses image n cycles m (Step request ∷ rest) p
  step_ends :
      (n cycles request : ℕ) (m held : Machine) (rest : List Entry) (why : Numbered) →
      step_left held (refused why) ≡ step_of image m request →
      Presses image n cycles m (Step request ∷ rest) (playing_as held n cycles (refused why))
  store_done :
      (n cycles address value : ℕ) (m held : Machine) (rest : List Entry) (p : Playing) →
      host_stored held (done tt) ≡ host_store_of m address value → Presses image (n + 1) cycles held rest p →
      Presses image n cycles m (Store address value ∷ rest) p
  store_ends :
      (n cycles address value : ℕ) (m held : Machine) (rest : List Entry) (why : Numbered) →
      host_stored held (refused why) ≡ host_store_of m address value →
      Presses image n cycles m (Store address value ∷ rest) (playing_as held n cycles (refused why))
  reset_done :
      (n cycles : ℕ) (m held : Machine) (rest : List Entry) (p : Playing) →
      held ≡ reset_of m → Presses image (n + 1) cycles held rest p → Presses image n cycles m (Reset ∷ rest) p

-- playing a record's entries is pressing the keys of `bench` in its order on one held machine
-- proved by keys_played, proofs/Keys
pub record KeysPlayed : Type 0 where
  -- the playing is what the keys leave and return
  pub pressed :
      (image : List ℕ) (m : Machine) (entries : List Entry) →
      Presses image 0 0 m entries (play_from image 0 0 m entries)
  -- .. and what they leave and return is the playing: also the machine that a key which refused or stopped left is "the
  -- machine [..] before it"
  pub only :
      (image : List ℕ) (m : Machine) (entries : List Entry) (p : Playing) → Presses image 0 0 m entries p →
      p ≡ play_from image 0 0 m entries
  -- the keys pressed, but for the one that ended it, are a list of calls as demand 3 counts them
  pub calls :
      (image : List ℕ) (m : Machine) (entries : List Entry) →
      (play_from image 0 0 m entries).machine
      ≡ leaves_all image (calls_of (take (play_from image 0 0 m entries).entries entries)) m
