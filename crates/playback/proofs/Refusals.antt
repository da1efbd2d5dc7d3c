-- When a record is not played: the image, the header, the entries.
use Prim.Native.Nat.{ℕ}
use mathlib.Core.Path.{◌≡◌, refl}
use mathlib.Core.Bool.{Bool, true, false}
use mathlib.Core.List.{List}
use lib.ListN.{length, drop}
use Rattle.isa.specs.Refusals.{Numbered, plain, Answer, done, refused, unless}
use Rattle.isa.specs.Rom.{is_image}
use Rattle.machine.specs.State.{fresh_of}
use Rattle.playback.specs.declared.Entry.{Entry}
use Rattle.playback.specs.Entries.{body_bytes, entries_of}
use Rattle.playback.specs.Record.{body_in, read_body, entries_in}
use Rattle.playback.specs.Play.{Playing, play_from, played_by, play_of}
use Rattle.playback.specs.Refusals.{BodyAt, PlayRefused, Plays, PlayRefusals}
use Rattle.playback.specs.Refusals as why
use Rattle.playback.proofs.Reading.{written_read, only_29}
use Rattle.playback.proofs.HeaderCases.{Headed, headed, starts, refuses}
use Rattle.playback.proofs.HeaderCases as header
use Rattle.playback.proofs.Record.{written_nowhere, nowhere_read}

module _ (image recording : List ℕ) where
  -- a record is refused, or its entries are played
  data Outcome : Answer Playing → Type 0 where
    refusing : (n : Numbered) → PlayRefused image recording n → Outcome (refused n)
    playing :
        (start : ℕ) → BodyAt recording start → (entries : List Entry) → body_bytes entries ≡ drop start recording →
        Outcome (done (play_from image 0 0 fresh_of entries))

  module _ (size : is_image (length image) ≡ true) where
    by_entries :
        (start : ℕ) → BodyAt recording start → (a : Answer (List Entry)) → entries_of (drop start recording) ≡ a →
        Outcome (played_by image a)
    by_entries start after (done entries) is =
        playing start after entries (written_read (drop start recording) entries is)
    by_entries start after (refused n) is =
        rw (only_29 (drop start recording) n is)
        (refusing (plain 29) (why.no_entries start size after (written_nowhere (drop start recording) n is)))

    by_header : (a : Answer (List ℕ)) → Headed recording a → Outcome (played_by image (read_body a))
    by_header _ (header.refusing n which) = refusing n (why.header n size which)
    by_header _ (header.starting start after) = by_entries start after (entries_of (drop start recording)) refl

  by_size :
      (i : Bool) → is_image (length image) ≡ i →
      Outcome (unless i (refused (plain 1)) (played_by image (entries_in recording)))
  by_size false size = refusing (plain 1) (why.image_length size)
  by_size true size = by_header size (body_in recording) (headed recording)

  outcome : Outcome (play_of image recording)
  unfolding play_of
  outcome = by_size (is_image (length image)) refl

  given : (n : Numbered) → PlayRefused image recording n → play_of image recording ≡ refused n
  unfolding play_of
  given _ (why.image_length i) = rw i
  given _ (why.header n i which) = rw (i, refuses recording n which)
  given _ (why.no_entries start i after none) =
      rw (i, starts recording start after, nowhere_read (drop start recording) none)

  only_by : (a : Answer Playing) → Outcome a → (n : Numbered) → a ≡ refused n → PlayRefused image recording n
  only_by _ (refusing k says) n is = let same : k ≡ n = cc in rw same at says
  only_by _ (playing start after entries writes) n is = cc

  else_by :
      (a : Answer Playing) → Outcome a → play_of image recording ≡ a → ((n : Numbered) →
      PlayRefused image recording n → ⊥) →
      Plays image recording
  else_by _ (refusing k says) is nowhere = absurd (nowhere k says)
  else_by _ (playing start after entries writes) is nowhere =
      record { start = start; after = after; entries = entries; writes = writes; plays = is }

-- what is played has entries
pub record HasEntries (recording : List ℕ) : Type 0 where
  pub entries : List Entry
  pub reads : entries_in recording ≡ done entries

pub has_entries : (image recording : List ℕ) (p : Playing) → play_of image recording ≡ done p → HasEntries recording
unfolding play_of
has_entries image recording p plays = go (is_image (length image)) (entries_in recording) refl plays
  where
    go :
        (i : Bool) (a : Answer (List Entry)) → entries_in recording ≡ a →
        unless i (refused (plain 1)) (played_by image a) ≡ done p → HasEntries recording
    go true (done entries) reads plays = record { entries = entries; reads = reads }
    go true (refused n) reads plays = cc
    go false a reads plays = cc

pub play_refusals : PlayRefusals
play_refusals = record {
  given = given;
  only = λ image recording. only_by image recording (play_of image recording) (outcome image recording);
  played_else = λ image recording. else_by image recording (play_of image recording) (outcome image recording) refl;
}
