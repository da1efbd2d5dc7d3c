-- Version 1 is read as before, and each list of entries has one version at most.
use Prim.Native.Nat.{ℕ, ◌-◌, ◌/◌, ◌%◌, ◌≤◌}
use native.Mathlib.Omega.{arith}
use mathlib.Core.Path.{◌≡◌, refl, ap, ◌∙◌}
use mathlib.Core.Bool.{true}
use mathlib.Core.List.{List, ◌∷◌}
use lib.ListN.{length, length-drop, get_or}
use borrow.Author.Tests.{ne_eqb, le-leb, lt-leb}
use Rattle.isa.specs.Refusals.{plain, refused}
use Rattle.isa.specs.Rom.{is_image}
use Rattle.isa.specs.RoundTrip.{Bytes}
use Rattle.isa.proofs.RefusedExactly.{cons_bytes}
use Rattle.playback.specs.declared.Entry.{Entry}
use Rattle.playback.specs.Entries.{body_bytes}
use Rattle.playback.specs.Record.{body_of, record_bytes}
use Rattle.playback.specs.Refusals.{BodyAt}
use Rattle.playback.specs.Refusals as why
use Rattle.playback.specs.Play.{play_of}
use Rattle.playback.specs.Versions.{play_before, OldRecordsPlayAsBefore, VersionFor, Carries, OneVersionEach}
use Rattle.playback.specs.Versions as version
use Rattle.playback.proofs.HeaderCases.{as_before}
use Rattle.playback.proofs.Record.{whole, read_from}

-- 1 is not 2
not_two : (recording : List ℕ) → get_or recording 0 0 ≡ 1 → get_or recording 0 0 ≡ 2 → ⊥
not_two recording one two = omega (arith, one, two)

others : (image recording : List ℕ) → (get_or recording 0 0 ≡ 2 → ⊥) → play_of image recording ≡ play_before image recording
unfolding play_of
others image recording other = rw (as_before recording other)

reader_before :
    (image recording : List ℕ) → is_image (length image) ≡ true → 3 ≤ length recording → get_or recording 0 0 ≡ 2 →
    play_before image recording ≡ refused (plain 27)
unfolding body_of
reader_before image recording size long two =
    rw (size, le-leb 3 (length recording) long, ne_eqb (get_or recording 0 0) 1 (λ one. not_two recording one two))

pub old_records_play_as_before : OldRecordsPlayAsBefore
old_records_play_as_before = record {
  body = λ recording one. as_before recording (not_two recording one);
  plays = λ image recording one. others image recording (not_two recording one);
  others = others;
  reader_before = reader_before;
}

-- a right header's first byte is the version for the count, which is that of the bytes
version_for :
    (recording : List ℕ) → Bytes recording → (start : ℕ) → BodyAt recording start →
    VersionFor (length recording - start) (get_or recording 0 0)
version_for recording bytes _ (why.version_1 one counted) =
    rw one (version.one (omega (arith, counted, bytes 1, bytes 2)))
version_for recording bytes _ (why.version_2 two counted some few) =
    rw two (version.two (omega (arith, counted, some)) (omega (arith, counted, few)))

only : (entries : List Entry) (v : ℕ) → Carries v entries → VersionFor (length (body_bytes entries)) v
only entries v carries =
    let recording = carries.recording in
    let from = read_from recording entries carries.reads in
    let same = ap length from.writes ∙ length-drop from.start recording in
    rw (same, ← carries.first) (version_for recording carries.bytes from.start from.after)

same_version : (count v w : ℕ) → VersionFor count v → VersionFor count w → v ≡ w
same_version count _ _ (version.one _) (version.one _) = refl
same_version count _ _ (version.one short) (version.two some _) = absurd (omega (arith, short, some))
same_version count _ _ (version.two some _) (version.one short) = absurd (omega (arith, short, some))
same_version count _ _ (version.two _ _) (version.two _ _) = refl

-- the record of a list of entries that are bytes is bytes too
module _ (entries : List Entry) (bytes : Bytes (body_bytes entries)) where
  abbrev n : ℕ
  n = length (body_bytes entries)

  lowest : Bytes (n % 256 ∷ body_bytes entries)
  lowest = cons_bytes (n % 256) (body_bytes entries) (omega arith) bytes

  -- after the version
  abbrev short : List ℕ
  short = n / 256 ∷ n % 256 ∷ body_bytes entries

  abbrev long : List ℕ
  long = n / 65536 ∷ n / 256 % 256 ∷ n % 256 ∷ body_bytes entries

  carried : (v : ℕ) → VersionFor n v → Carries v entries
  carried _ (version.one most) =
      let is : record_bytes entries ≡ 1 ∷ short = rw (lt-leb 65536 n (omega (arith, most))) in
      let counted = cons_bytes (n / 256) (n % 256 ∷ body_bytes entries) (omega (arith, most)) lowest in
      record {
        recording = 1 ∷ short;
        bytes = cons_bytes 1 short (omega arith) counted;
        first = refl;
        reads = rw is at (whole entries (omega (arith, most)));
      }
  carried _ (version.two least most) =
      let is : record_bytes entries ≡ 2 ∷ long = rw (le-leb 65536 n least) in
      let middle = cons_bytes (n / 256 % 256) (n % 256 ∷ body_bytes entries) (omega arith) lowest in
      let counted =
      cons_bytes (n / 65536) (n / 256 % 256 ∷ n % 256 ∷ body_bytes entries) (omega (arith, most)) middle in
      record {
        recording = 2 ∷ long;
        bytes = cons_bytes 2 long (omega arith) counted;
        first = refl;
        reads = rw is at (whole entries most);
      }

pub one_version_each : OneVersionEach
one_version_each = record {
  at_most_one =
      λ entries v w a b. same_version (length (body_bytes entries)) v w (only entries v a) (only entries w b);
  only = only;
  carried = carried;
}
