-- The two versions of a record (document 02, W-207). The claims are `OldRecordsPlayAsBefore` and `OneVersionEach`.
use Rattle.std.specs.Prelude.{ℕ, ◌≤◌, ◌≡◌, true, List, length, get_or}
use Rattle.isa.specs.Refusals.{plain, Answer, done, refused}
use Rattle.isa.specs.Rom.{is_image}
use Rattle.isa.specs.RoundTrip.{Bytes}
use Rattle.playback.specs.declared.Entry.{Entry}
use Rattle.playback.specs.Entries.{body_bytes}
use Rattle.playback.specs.Record.{body_of, body_in, read_body, entries_in}
use Rattle.playback.specs.Play.{Playing, play_read, play_of}

-- a playing by the reader before W-207, which knows version 1's header alone
abbrev pub play_before : (image recording : List ℕ) → Answer Playing
play_before image recording = play_read image (read_body (body_of recording))

-- proved by old_records_play_as_before, proofs/Versions
pub record OldRecordsPlayAsBefore : Type 0 where
  -- "Stored version 1 records play as before", and are refused as before
  pub body : (recording : List ℕ) → get_or recording 0 0 ≡ 1 → body_in recording ≡ body_of recording
  pub plays : (image recording : List ℕ) → get_or recording 0 0 ≡ 1 → play_of image recording ≡ play_before image recording
  -- and so does a record with any first byte but 2
  pub others :
      (image recording : List ℕ) → (get_or recording 0 0 ≡ 2 → ⊥) → play_of image recording ≡ play_before image recording
  -- "A reader built before this request meets the new first byte and says 27"
  pub reader_before :
      (image recording : List ℕ) → is_image (length image) ≡ true → 3 ≤ length recording → get_or recording 0 0 ≡ 2 →
      play_before image recording ≡ refused (plain 27)

-- the version for a number of bytes: "version 2 is only for a count above 65,535", "up to 1,048,576"
pub data VersionFor (count : ℕ) : (version : ℕ) → Type 0 where
  one : count ≤ 65535 → VersionFor count 1
  two : 65536 ≤ count → count ≤ 1048576 → VersionFor count 2

-- a version carries a list of entries: a record with that first byte is read as them
pub record Carries (version : ℕ) (entries : List Entry) : Type 0 where
  pub recording : List ℕ
  pub bytes : Bytes recording
  pub first : get_or recording 0 0 ≡ version
  pub reads : entries_in recording ≡ done entries

-- proved by one_version_each, proofs/Versions
pub record OneVersionEach : Type 0 where
  -- of every list of entries at most one version can carry it
  pub at_most_one : (entries : List Entry) (v w : ℕ) → Carries v entries → Carries w entries → v ≡ w
  -- only the version for the number of its bytes carries it, and that version does, where the entries are bytes
  pub only : (entries : List Entry) (v : ℕ) → Carries v entries → VersionFor (length (body_bytes entries)) v
  pub carried :
      (entries : List Entry) → Bytes (body_bytes entries) → (v : ℕ) → VersionFor (length (body_bytes entries)) v →
      Carries v entries
