-- Playing a record (document 02, W-206): its entries are calls as demand 3 counts them.
use Rattle.std.specs.Prelude.{ℕ, ◌+◌, List, [], ◌∷◌, length, Result, Ok, Err}
use Rattle.isa.specs.Refusals.{plain, numbered, Answer, Ended, done, refused, answered, unless}
use Rattle.isa.specs.declared.Refusal.{Refusal}
use Rattle.isa.specs.Rom.{is_image}
use Rattle.machine.specs.declared.Machine.{Machine}
use Rattle.machine.specs.State.{fresh_of, host_store_of}
use Rattle.machine.specs.Step.{step_of}
use Rattle.machine.specs.Step as stepping
use Rattle.bench.specs.Calls.{Call, leaves}
use Rattle.bench.specs.Calls as call
use Rattle.playback.specs.declared.Entry.{Entry}
use Rattle.playback.specs.declared.Entry.TheVariants.{Step, Store, Reset}
use Rattle.playback.specs.declared.Played.{Played}
use Rattle.playback.specs.Record.{entries_in}

-- an entry as a call
abbrev pub call_of : Entry → Call
call_of (Step request) = call.step request
call_of (Store address value) = call.store address value
call_of Reset = call.reset

-- a record's entries as a list of calls
abbrev pub calls_of : List Entry → List Call
calls_of [] = []
calls_of (e ∷ entries) = call_of e ∷ calls_of entries

-- a host store has no cycles
abbrev pub without_cycles : Ended → Answer ℕ
without_cycles (done tt) = done 0
without_cycles (refused n) = refused n

-- an entry's own answer: its cycles, or its refusal or stop
abbrev pub entry_answer : (image : List ℕ) → Machine → Entry → Answer ℕ
entry_answer image m (Step request) = (step_of image m request).answer
entry_answer image m (Store address value) = without_cycles (host_store_of m address value).ending
entry_answer image m Reset = done 0

-- a playing: the machine, the entries played, their cycles, and how it ended
pub record Playing : Type 0 where
  pub machine : Machine
  pub entries : ℕ
  pub cycles : ℕ
  pub ending : Ended

abbrev pub playing_as : Machine → (entries cycles : ℕ) → Ended → Playing
playing_as m entries cycles ending = record { machine = m; entries = entries; cycles = cycles; ending = ending }

-- "An entry's own refusal or stop ends the playing and is given with the entry's number from 0 and the machine and
-- cycle sum before it": else the rest is played, with the entry's cycles
abbrev pub unless_ended : Machine → (entries cycles : ℕ) → Answer ℕ → (rest : ℕ → Playing) → Playing
unless_ended m entries cycles (done spent) rest = rest spent
unless_ended m entries cycles (refused n) rest = playing_as m entries cycles (refused n)

-- "answers the last machine, with cycles summed": entries are played from a machine on, after some entries with their
-- cycles
unfoldable pub play_from : (image : List ℕ) → (entries cycles : ℕ) → Machine → List Entry → Playing
play_from image n cycles m [] = playing_as m n cycles (done tt)
play_from image n cycles m (e ∷ entries) =
    unless_ended m n cycles (entry_answer image m e)
    (λ spent. play_from image (n + 1) (cycles + spent) (leaves image (call_of e) m) entries)

-- "Playing starts from a fresh machine"; nothing is played where a record is not read
abbrev pub played_by : (image : List ℕ) → Answer (List Entry) → Answer Playing
played_by image (done entries) = done (play_from image 0 0 fresh_of entries)
played_by image (refused n) = refused n

-- "It refuses, after 1 and before the first entry is played": by what is read of a record
abbrev pub play_read : (image : List ℕ) → Answer (List Entry) → Answer Playing
play_read image read = unless (is_image (length image)) (refused (plain 1)) (played_by image read)

unfoldable pub play_of : (image recording : List ℕ) → Answer Playing
play_of image recording = play_read image (entries_in recording)

-- the program's playing and its answer, by the papers' numbers
abbrev pub playing_of : Played → Playing
playing_of p = playing_as p.machine p.entries p.cycles (answered p.ending)

abbrev pub played_of : Result Played Refusal → Answer Playing
played_of (Ok p) = done (playing_of p)
played_of (Err r) = refused (numbered r)

-- What the functions inside the crate promise; no claim uses it.

-- a machine after an entry, and the entry's answer
unfoldable pub press_of : (image : List ℕ) → Machine → Entry → stepping.Step
press_of image m e = record { machine = leaves image (call_of e) m; answer = entry_answer image m e }
