-- When a record is not played, and with which number (document 02, W-206 and W-207): "It refuses, after 1 and before
-- the first entry is played".
use Rattle.std.specs.Prelude.{ℕ, ◌+◌, ◌≤◌, ◌<◌, ◌≡◌, true, false, List, length, drop, get_or}
use Rattle.isa.specs.Refusals.{Numbered, plain, done, refused}
use Rattle.isa.specs.Rom.{is_image}
use Rattle.machine.specs.State.{fresh_of}
use Rattle.playback.specs.declared.Entry.{Entry}
use Rattle.playback.specs.Entries.{body_bytes}
use Rattle.playback.specs.Record.{count_of, long_count_of}
use Rattle.playback.specs.Play.{play_from, play_of}

-- a header that is not refused, and where the body begins after it. W-206: "a two-byte big-endian count of the bytes
-- after it"; W-207: "a three-byte big-endian count, up to 1,048,576", "only for a count above 65,535"
pub data BodyAt (recording : List ℕ) : (start : ℕ) → Type 0 where
  version_1 : get_or recording 0 0 ≡ 1 → length recording ≡ 3 + count_of recording → BodyAt recording 3
  version_2 :
      get_or recording 0 0 ≡ 2 → length recording ≡ 4 + long_count_of recording → 65536 ≤ long_count_of recording →
      long_count_of recording ≤ 1048576 → BodyAt recording 4

-- a header that is refused, each number where none before it applies. W-206: "28 for a record under three bytes or a
-- wrong count [..]; a record under three bytes is tried first"; W-207: 27 "for any first byte but 1 and 2"; "with 28 a
-- version 2 record under four bytes or whose count is below 65,536, and with 30 one above 1,048,576, straight after
-- 28"; a wrong count in version 2 is 28, also where it is above 1,048,576
pub data HeaderRefused (recording : List ℕ) : Numbered → Type 0 where
  under_three : length recording < 3 → HeaderRefused recording (plain 28)
  other_version :
      3 ≤ length recording → (get_or recording 0 0 ≡ 1 → ⊥) → (get_or recording 0 0 ≡ 2 → ⊥) →
      HeaderRefused recording (plain 27)
  wrong_count :
      3 ≤ length recording → get_or recording 0 0 ≡ 1 → (length recording ≡ 3 + count_of recording → ⊥) →
      HeaderRefused recording (plain 28)
  under_four : length recording ≡ 3 → get_or recording 0 0 ≡ 2 → HeaderRefused recording (plain 28)
  wrong_long_count :
      4 ≤ length recording → get_or recording 0 0 ≡ 2 → (length recording ≡ 4 + long_count_of recording → ⊥) →
      HeaderRefused recording (plain 28)
  too_few :
      get_or recording 0 0 ≡ 2 → length recording ≡ 4 + long_count_of recording → long_count_of recording < 65536 →
      HeaderRefused recording (plain 28)
  too_many :
      get_or recording 0 0 ≡ 2 → length recording ≡ 4 + long_count_of recording → 1048576 < long_count_of recording →
      HeaderRefused recording (plain 30)

-- .. after 1, and before "29 for an unknown or cut entry"
pub data PlayRefused (image recording : List ℕ) : Numbered → Type 0 where
  image_length : is_image (length image) ≡ false → PlayRefused image recording (plain 1)
  header :
      (n : Numbered) → is_image (length image) ≡ true → HeaderRefused recording n → PlayRefused image recording n
  no_entries :
      (start : ℕ) → is_image (length image) ≡ true → BodyAt recording start →
      ((entries : List Entry) → body_bytes entries ≡ drop start recording → ⊥) → PlayRefused image recording (plain 29)

-- the bytes after the count are those of a list of entries, which is played from a fresh machine
pub record Plays (image recording : List ℕ) : Type 0 where
  pub start : ℕ
  pub after : BodyAt recording start
  pub entries : List Entry
  pub writes : body_bytes entries ≡ drop start recording
  pub plays : play_of image recording ≡ done (play_from image 0 0 fresh_of entries)

-- a record is refused in these cases, and only in these; else its entries are played
-- proved by play_refusals, proofs/Refusals
pub record PlayRefusals : Type 0 where
  pub given : (image recording : List ℕ) (n : Numbered) → PlayRefused image recording n → play_of image recording
      ≡ refused n
  pub only : (image recording : List ℕ) (n : Numbered) → play_of image recording ≡ refused n →
      PlayRefused image recording n
  pub played_else : (image recording : List ℕ) → ((n : Numbered) → PlayRefused image recording n → ⊥) →
      Plays image recording
