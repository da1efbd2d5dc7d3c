-- "With one page all equals the 4K machine, but for that clearing" (document 02, W-210): what the playing of a record
-- answered with an image without pages to choose from, by its definition as it was. A reset clears 0CAh now.
use Rattle.std.specs.Prelude.{ℕ, ◌+◌, ◌≡◌, true, List, [], ◌∷◌, length}
use Rattle.isa.specs.Refusals.{plain, Answer, done, refused, unless}
use Rattle.isa.specs.Rom.{is_space}
use Rattle.machine.specs.declared.Machine.{Machine}
use Rattle.machine.specs.State.{fresh_of, host_store_of, reset_of}
use Rattle.machine.specs.OnePage.{step_unpaged}
use Rattle.playback.specs.declared.Entry.{Entry}
use Rattle.playback.specs.declared.Entry.TheVariants.{Step, Store, Reset}
use Rattle.playback.specs.Record.{entries_in}
use Rattle.playback.specs.Play.{Playing, playing_as, without_cycles, unless_ended, play_of}

-- an entry's own answer, and the machine after it
abbrev pub answer_unpaged : (image : List ℕ) → Machine → Entry → Answer ℕ
answer_unpaged image m (Step request) = (step_unpaged image m request).answer
answer_unpaged image m (Store address value) = without_cycles (host_store_of m address value).ending
answer_unpaged image m Reset = done 0

abbrev pub leaves_unpaged : (image : List ℕ) → Machine → Entry → Machine
leaves_unpaged image m (Step request) = (step_unpaged image m request).machine
leaves_unpaged image m (Store address value) = (host_store_of m address value).machine
leaves_unpaged image m Reset = reset_of m

-- the entries, from a machine on
unfoldable pub play_from_unpaged : (image : List ℕ) → (entries cycles : ℕ) → Machine → List Entry → Playing
play_from_unpaged image n cycles m [] = playing_as m n cycles (done tt)
play_from_unpaged image n cycles m (e ∷ entries) =
    unless_ended m n cycles (answer_unpaged image m e)
    (λ spent. play_from_unpaged image (n + 1) (cycles + spent) (leaves_unpaged image m e) entries)

-- a record
abbrev pub played_unpaged : (image : List ℕ) → Answer (List Entry) → Answer Playing
played_unpaged image (done entries) = done (play_from_unpaged image 0 0 fresh_of entries)
played_unpaged image (refused n) = refused n

abbrev pub play_unpaged : (image recording : List ℕ) → Answer Playing
play_unpaged image recording =
    unless (is_space (length image)) (refused (plain 1)) (played_unpaged image (entries_in recording))

-- proved by playback_as_before, proofs/OnePage
abbrev pub PlaybackAsBefore : Type 0
PlaybackAsBefore =
    (image : List ℕ) → is_space (length image) ≡ true → (recording : List ℕ) →
    play_of image recording ≡ play_unpaged image recording
