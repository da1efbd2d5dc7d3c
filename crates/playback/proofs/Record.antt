-- Records are read back: a body by its entries, and a record by its body.
use Prim.Native.Nat.{ℕ, ◌/◌, ◌%◌, ◌≤◌}
use native.Mathlib.Omega.{arith}
use mathlib.Core.Path.{◌≡◌, refl, sym, ap, ◌∙◌}
use mathlib.Core.Bool.{Bool, true, false}
use mathlib.Core.List.{List, [], ◌∷◌, ◌++◌}
use lib.Dec.{leb}
use lib.ListN.{length, drop}
use borrow.Author.Tests.{leb-true, le-leb, lt-leb}
use Rattle.isa.specs.Refusals.{Numbered, plain, Answer, done, refused}
use Rattle.isa.specs.RoundTrip.{Bytes}
use Rattle.playback.specs.declared.Entry.{Entry}
use Rattle.playback.specs.Entries.{body_bytes, entries_of}
use Rattle.playback.specs.Record.{count_of, long_count_of, body_in, read_body, entries_in, header_bytes, record_bytes}
use Rattle.playback.specs.Record.{RecordsReadBack}
use Rattle.playback.specs.Refusals.{BodyAt}
use Rattle.playback.specs.Refusals as why
use Rattle.playback.proofs.Reading.{read_written, written_read, only_29}
use Rattle.playback.proofs.HeaderCases.{Headed, headed, starts}
use Rattle.playback.proofs.HeaderCases as header

-- a body that is refused is the writing of no list of entries
pub written_nowhere :
    (body : List ℕ) (n : Numbered) → entries_of body ≡ refused n → (entries : List Entry) → body_bytes entries ≡ body → ⊥
written_nowhere body n is entries writes =
    let reads = sym (ap entries_of writes) ∙ read_written entries in
    cc

-- .. and one that is the writing of none is refused
pub nowhere_read :
    (body : List ℕ) → ((entries : List Entry) → body_bytes entries ≡ body → ⊥) → entries_of body ≡ refused (plain 29)
nowhere_read body none = go (entries_of body) refl
  where
    go : (a : Answer (List Entry)) → entries_of body ≡ a → entries_of body ≡ refused (plain 29)
    go (done entries) is = absurd (none entries (written_read body entries is))
    go (refused n) is = is ∙ ap refused (only_29 body n is)

-- a list of entries, written, behind the header for its count
module _ (entries : List Entry) where
  abbrev body : List ℕ
  body = body_bytes entries

  abbrev n : ℕ
  n = length body

  short_header : BodyAt (1 ∷ n / 256 ∷ n % 256 ∷ body) 3
  short_header =
      let recording : List ℕ = 1 ∷ n / 256 ∷ n % 256 ∷ body in
      let counted : count_of recording ≡ n = omega arith in
      why.version_1 refl (omega (arith, counted))

  long_header : 65536 ≤ n → n ≤ 1048576 → BodyAt (2 ∷ n / 65536 ∷ n / 256 % 256 ∷ n % 256 ∷ body) 4
  long_header some few =
      let recording : List ℕ = 2 ∷ n / 65536 ∷ n / 256 % 256 ∷ n % 256 ∷ body in
      let counted : long_count_of recording ≡ n = omega arith in
      why.version_2 refl (omega (arith, counted)) (omega (arith, counted, some)) (omega (arith, counted, few))

  pub whole : n ≤ 1048576 → entries_in (record_bytes entries) ≡ done entries
  whole few = go (leb 65536 n) refl
    where
      go : (long : Bool) → leb 65536 n ≡ long → entries_in (record_bytes entries) ≡ done entries
      go true f =
          let begins = starts _ 4 (long_header (leb-true 65536 n f) few) in rw (f, begins) (read_written entries)
      go false f = let begins = starts _ 3 short_header in rw (f, begins) (read_written entries)

-- a body behind a right header is written behind that header again
behind :
    (recording : List ℕ) → Bytes recording → (start : ℕ) → BodyAt recording start → (body : List ℕ) →
    body ≡ drop start recording → header_bytes (length body) ++ body ≡ recording
behind [] bytes _ (why.version_1 one counted) body is = absurd (omega (arith, counted))
behind (version ∷ []) bytes _ (why.version_1 one counted) body is = absurd (omega (arith, counted))
behind (version ∷ high ∷ []) bytes _ (why.version_1 one counted) body is = absurd (omega (arith, counted))
behind (version ∷ high ∷ low ∷ rest) bytes _ (why.version_1 one counted) body is =
    let above : length rest / 256 ≡ high = omega (arith, counted, bytes 2) in
    let below : length rest % 256 ≡ low = omega (arith, counted, bytes 2) in
    let short = lt-leb 65536 (length rest) (omega (arith, counted, bytes 1, bytes 2)) in
    rw (is, short, above, below, one)
behind [] bytes _ (why.version_2 two counted some few) body is = absurd (omega (arith, counted))
behind (version ∷ []) bytes _ (why.version_2 two counted some few) body is = absurd (omega (arith, counted))
behind (version ∷ high ∷ []) bytes _ (why.version_2 two counted some few) body is = absurd (omega (arith, counted))
behind (version ∷ high ∷ middle ∷ []) bytes _ (why.version_2 two counted some few) body is =
    absurd (omega (arith, counted))
behind (version ∷ high ∷ middle ∷ low ∷ rest) bytes _ (why.version_2 two counted some few) body is =
    let above : length rest / 65536 ≡ high = omega (arith, counted, bytes 2, bytes 3) in
    let between : length rest / 256 % 256 ≡ middle = omega (arith, counted, bytes 2, bytes 3) in
    let below : length rest % 256 ≡ low = omega (arith, counted, bytes 3) in
    let long = le-leb 65536 (length rest) (omega (arith, counted, some)) in
    rw (is, long, above, between, below, two)

-- a record that is read has a right header, and a body that is the writing of its entries
pub record ReadFrom (recording : List ℕ) (entries : List Entry) : Type 0 where
  pub start : ℕ
  pub after : BodyAt recording start
  pub writes : body_bytes entries ≡ drop start recording

pub read_from : (recording : List ℕ) (entries : List Entry) → entries_in recording ≡ done entries →
    ReadFrom recording entries
read_from recording entries reads = go (body_in recording) (headed recording) reads
  where
    go : (a : Answer (List ℕ)) → Headed recording a → read_body a ≡ done entries → ReadFrom recording entries
    go _ (header.refusing n why) reads = cc
    go _ (header.starting start after) reads =
        record { start = start; after = after; writes = written_read (drop start recording) entries reads }

again :
    (recording : List ℕ) → Bytes recording → (entries : List Entry) → entries_in recording ≡ done entries →
    record_bytes entries ≡ recording
again recording bytes entries reads =
    let from = read_from recording entries reads in
    behind recording bytes from.start from.after (body_bytes entries) from.writes

pub records_read_back : RecordsReadBack
records_read_back = record {
  read_written = read_written;
  written_read = written_read;
  refused_29 = λ body n is. (only_29 body n is, written_nowhere body n is);
  refuses_29 = nowhere_read;
  record_read = whole;
  record_written = again;
}
