-- How the playing of a record can end (document 02, W-206). The claims are `EndsByEntry`, of any image, and
-- `PlayedSafely`, demand 3 for records.
use Rattle.std.specs.Prelude.{ℕ, ◌≤◌, ◌≡◌, List, ◌∷◌, length, drop}
use Rattle.isa.specs.Refusals.{Numbered, Ended, plain, done, refused}
use Rattle.isa.specs.RoundTrip.{Bytes}
use Rattle.machine.specs.declared.Machine.{Machine}
use Rattle.machine.specs.Laws.{IsStop}
use Rattle.certificate.specs.Check.{check_of, accepted}
use Rattle.bench.specs.Calls.{AllAskOnly}
use Rattle.bench.specs.Session.{levels_in_use}
use Rattle.playback.specs.declared.Entry.{Entry}
use Rattle.playback.specs.declared.Entry.TheVariants.{Step, Store}
use Rattle.playback.specs.Record.{entries_in}
use Rattle.playback.specs.Play.{calls_of, Playing, play_of}

-- the entry with a number from 0
pub record IsEntry (entries : List Entry) (number : ℕ) (e : Entry) : Type 0 where
  pub rest : List Entry
  pub stands : drop number entries ≡ e ∷ rest

-- all entries are played; or "a step is refused only with 11, [..] a host store only with 10, and reset never"
pub data EndsSafely (entries : List Entry) : (number : ℕ) → Ended → Type 0 where
  all_played : EndsSafely entries (length entries) (done tt)
  step_refused :
      (number request : ℕ) → IsEntry entries number (Step request) → EndsSafely entries number (refused (plain 11))
  store_refused :
      (number address value : ℕ) → IsEntry entries number (Store address value) →
      EndsSafely entries number (refused (plain 10))

-- .. or a step stops, on the machine that is answered: "A stop is a step's 4, 5, 6 or 7", with its PC
pub data EndsOrStops (m : Machine) (entries : List Entry) : (number : ℕ) → Ended → Type 0 where
  safely : (number : ℕ) (ending : Ended) → EndsSafely entries number ending → EndsOrStops m entries number ending
  step_stops :
      (number request : ℕ) (why : Numbered) → IsEntry entries number (Step request) → IsStop m why →
      EndsOrStops m entries number (refused why)

-- "An entry's own refusal or stop ends the playing": with any image it is 10, 11 or a stop, never 1 or 2, since the
-- image has passed and every machine of a playing is well formed
-- proved by ends_by_entry, proofs/Endings
abbrev pub EndsByEntry : Type 0
EndsByEntry =
    (image : List ℕ) → Bytes image → (recording : List ℕ) (entries : List Entry) → entries_in recording ≡ done entries
    → (p : Playing) → play_of image recording ≡ done p → EndsOrStops p.machine entries p.entries p.ending

-- a record with these entries is played, ends with no stop, and leaves a machine with at most so many levels in use
pub record PlaysWithin (image recording : List ℕ) (entries : List Entry) (levels : ℕ) : Type 0 where
  pub playing : Playing
  pub plays : play_of image recording ≡ done playing
  pub ends : EndsSafely entries playing.entries playing.ending
  pub within : levels_in_use playing.machine ≤ levels
  pub at_most_six : levels ≤ 6

-- "Let an unpaged image, a set of wired interrupt sources and a certificate be accepted with some number of levels."
-- Then every record whose requests ask for wired sources only ends early only with 11 at a step or 10 at a store, never
-- with a stop, and the machine that it leaves is within the number.
-- proved by played_safely, proofs/Safety
abbrev pub PlayedSafely : Type 0
PlayedSafely =
    (image certificate : List ℕ) (wired levels : ℕ) → check_of image certificate wired ≡ accepted levels
    → (recording : List ℕ) (entries : List Entry) → entries_in recording ≡ done entries →
    AllAskOnly wired (calls_of entries)
    → PlaysWithin image recording entries levels
