-- A record: its header and its body (document 02, W-206 and W-207). The claim is `RecordsReadBack`, at the end.
use Rattle.std.specs.Prelude.{ℕ, ◌+◌, ◌*◌, ◌-◌, ◌/◌, ◌%◌, ◌≤◌, ◌≡◌, cond, List, [], ◌∷◌, ◌++◌, leb, eqb, length, drop, get_or, Result, Ok, Err}
use Rattle.isa.specs.Refusals.{Numbered, plain, numbered, Answer, done, refused, unless}
use Rattle.isa.specs.declared.Refusal.{Refusal}
use Rattle.isa.specs.RoundTrip.{Bytes}
use Rattle.playback.specs.declared.Entry.{Entry}
use Rattle.playback.specs.Entries.{body_bytes, entries_of}

-- Version 1's header, as W-206 has it. `OldRecordsPlayAsBefore` (Versions) compares the reader of both versions with
-- it.

-- "a two-byte big-endian count of the bytes after it": it stands after the version
abbrev pub count_of : (recording : List ℕ) → ℕ
count_of recording = get_or recording 1 0 * 256 + get_or recording 2 0

-- "A record is version 1, a two-byte big-endian count of the bytes after it, then entries": the body of a record by its
-- version, or "27 for a first byte other than 1, 28 for [..] a wrong count"
abbrev pub body_by : (version : ℕ) → (recording : List ℕ) → Answer (List ℕ)
body_by version recording =
    unless (eqb version 1) (refused (plain 27))
    (unless (eqb (length recording - 3) (count_of recording)) (refused (plain 28))
    (done (drop 3 recording)))

-- "28 for a record under three bytes [..]; a record under three bytes is tried first"
unfoldable pub body_of : (recording : List ℕ) → Answer (List ℕ)
body_of recording = unless (leb 3 (length recording)) (refused (plain 28)) (body_by (get_or recording 0 0) recording)

-- Version 2's header, W-207.

-- "Version 2 carries a three-byte big-endian count": one more byte than version 1's
abbrev pub long_count_of : (recording : List ℕ) → ℕ
long_count_of recording = count_of recording * 256 + get_or recording 3 0

-- "It refuses with 28 a version 2 record under four bytes or whose count is below 65,536, and with 30 one above
-- 1,048,576, straight after 28": a wrong count is 28 as in version 1, also where it is above 1,048,576
unfoldable pub long_body_of : (recording : List ℕ) → Answer (List ℕ)
long_body_of recording =
    unless (leb 4 (length recording)) (refused (plain 28))
    (unless (eqb (length recording - 4) (long_count_of recording)) (refused (plain 28))
    (unless (leb 65536 (long_count_of recording)) (refused (plain 28))
    (unless (leb (long_count_of recording) 1048576) (refused (plain 30))
    (done (drop 4 recording)))))

-- Both versions.

-- the body of a record: any first byte but 2 is read as before, so that 27 is said "for any first byte but 1 and 2"
unfoldable pub body_in : (recording : List ℕ) → Answer (List ℕ)
body_in recording = cond (eqb (get_or recording 0 0) 2) (long_body_of recording) (body_of recording)

-- .. and, after its refusals, "29 for an unknown or cut entry"
abbrev pub read_body : Answer (List ℕ) → Answer (List Entry)
read_body (done body) = entries_of body
read_body (refused n) = refused n

-- the entries of a record
abbrev pub entries_in : (recording : List ℕ) → Answer (List Entry)
entries_in recording = read_body (body_in recording)

-- version and count: "version 2 is only for a count above 65,535"
abbrev pub header_bytes : (count : ℕ) → List ℕ
header_bytes count =
    cond (leb 65536 count)
    (2 ∷ count / 65536 ∷ count / 256 % 256 ∷ count % 256 ∷ [])
    (1 ∷ count / 256 ∷ count % 256 ∷ [])

-- the record of a list of entries
abbrev pub record_bytes : List Entry → List ℕ
record_bytes entries = header_bytes (length (body_bytes entries)) ++ body_bytes entries

-- parsing and writing undo each other
-- proved by records_read_back, proofs/Record
pub record RecordsReadBack : Type 0 where
  -- every list of entries, written, is read as that list
  pub read_written : (entries : List Entry) → entries_of (body_bytes entries) ≡ done entries
  -- every body that is read is the writing of what was read
  pub written_read :
      (body : List ℕ) (entries : List Entry) → entries_of body ≡ done entries → body_bytes entries ≡ body
  -- so 29 is exactly "the body is no list of entries"
  pub refused_29 :
      (body : List ℕ) (n : Numbered) → entries_of body ≡ refused n
      → (n ≡ plain 29) × ((entries : List Entry) → body_bytes entries ≡ body → ⊥)
  pub refuses_29 :
      (body : List ℕ) → ((entries : List Entry) → body_bytes entries ≡ body → ⊥) → entries_of body ≡ refused (plain 29)
  -- and a whole record, of up to 1,048,576 bytes after its count, is read as its entries, and is their record
  pub record_read :
      (entries : List Entry) → length (body_bytes entries) ≤ 1048576 → entries_in (record_bytes entries) ≡ done entries
  pub record_written :
      (recording : List ℕ) → Bytes recording → (entries : List Entry) → entries_in recording ≡ done entries →
      record_bytes entries ≡ recording

-- What the functions inside the crate promise; no claim uses it.

-- the body begins there, and is short enough that the cycles of its entries have 32 bits
pub record BodyStarts (recording : List ℕ) (start : ℕ) : Type 0 where
  pub fits : start ≤ length recording
  pub short : length recording ≤ 0xFFFFFF
  pub is : body_in recording ≡ done (drop start recording)

abbrev pub BodyFound : (recording : List ℕ) → Result ℕ Refusal → Type 0
BodyFound recording (Ok start) = BodyStarts recording start
BodyFound recording (Err reason) = body_in recording ≡ refused (numbered reason)
