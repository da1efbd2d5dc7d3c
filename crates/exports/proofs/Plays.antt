-- What `st62_play` leaves: both buffers where nothing is played or one has the wrong length, else what was played.
use Prim.Native.Nat.{ℕ, ◌≤◌, ◌<◌}
use native.Mathlib.Omega.{arith}
use mathlib.Core.Path.{◌≡◌, refl}
use mathlib.Core.Logic.{◌≢◌, ◌⊎◌, inl, inr}
use mathlib.Core.Bool.{Bool, true, false}
use mathlib.Core.List.{List, ◌++◌}
use lib.Dec.{leb, eqb}
use lib.ListN.{length, drop}
use Rattle.isa.specs.Refusals.{Numbered, plain, located, Answer, Ended, done, refused, unless}
use Rattle.isa.specs.RoundTrip.{Bytes}
use Rattle.machine.specs.declared.Machine.{Machine}
use Rattle.playback.specs.declared.Entry.{Entry}
use Rattle.playback.specs.Play.{Playing, play_of}
use Rattle.playback.specs.Refusals.{HeaderRefused, PlayRefused}
use Rattle.playback.specs.Refusals as why
use Rattle.playback.specs.Safety.{EndsOrStops}
use Rattle.playback.specs.Safety as ends
use Rattle.playback.proofs.Refusals.{has_entries, play_refusals}
use Rattle.playback.proofs.Endings.{ends_by_entry}
use Rattle.exports.specs.Answers.{word, refusal_word, ended_word}
use Rattle.exports.specs.States.{packed}
use Rattle.exports.specs.Lent.{LentRun, lent_run, report_bytes, played_lent, play_lent}
use Rattle.exports.specs.Laws.{number_of, EntryNumber, KeepsPlayed, PlayLeaves}
use Rattle.exports.specs.Laws as entry

-- an entry's numbers lie between the others
record Apart (number : ℕ) : Type 0 where
  pub least : 4 ≤ number
  pub most : number ≤ 11
  pub not_9 : number ≡ 9 → ⊥

apart : (number : ℕ) → EntryNumber number → Apart number
apart number (entry.stop _ is) =
    record { least = is.least; most = omega (arith, is.most); not_9 = λ e. omega (arith, is.most, e) }
apart _ entry.store = record { least = omega arith; most = omega arith; not_9 = λ e. omega (arith, e) }
apart _ entry.step = record { least = omega arith; most = omega arith; not_9 = λ e. omega (arith, e) }

module _ (image recording s before : List ℕ) where
  abbrev Left : LentRun → Type 0
  Left = PlayLeaves image recording s before

  -- both buffers are left
  left :
      (number : ℕ) → 0 < number → number < 0x100 → (EntryNumber number → ⊥) →
      Left (lent_run (word number 0 0) s before)
  left number some byte other =
      let same : number_of (word number 0 0) ≡ number = omega arith in
      record {
        refused = λ nonzero none. (refl, refl);
        whole = λ none. absurd (omega (arith, same, none));
        ended = λ is. absurd (other (rw same at is));
      }

  -- the record's own numbers, 27 to 30, lie above an entry's
  above : (number : ℕ) → 27 ≤ number → number ≤ 30 → Left (lent_run (word number 0 0) s before)
  above number least most =
      left number (omega (arith, least)) (omega (arith, most)) (λ is. omega (arith, (apart number is).most, least))

  by_header : (n : Numbered) → HeaderRefused recording n → Left (lent_run (refusal_word n) s before)
  by_header _ (why.under_three _) = above 28 (omega arith) (omega arith)
  by_header _ (why.other_version _ _ _) = above 27 (omega arith) (omega arith)
  by_header _ (why.wrong_count _ _ _) = above 28 (omega arith) (omega arith)
  by_header _ (why.under_four _ _) = above 28 (omega arith) (omega arith)
  by_header _ (why.wrong_long_count _ _ _) = above 28 (omega arith) (omega arith)
  by_header _ (why.too_few _ _ _) = above 28 (omega arith) (omega arith)
  by_header _ (why.too_many _ _ _) = above 30 (omega arith) (omega arith)

  refusing : (n : Numbered) → PlayRefused image recording n → Left (lent_run (refusal_word n) s before)
  refusing _ (why.image_length _) = left 1 (omega arith) (omega arith) (λ is. omega (arith, (apart 1 is).least))
  refusing _ (why.header n _ which) = by_header n which
  refusing _ (why.no_entries _ _ _ _) = above 29 (omega arith) (omega arith)

  -- how a playing ended is 0 or an entry's number
  numbered :
      (m : Machine) (entries : List Entry) (n : ℕ) (ending : Ended) → EndsOrStops m entries n ending →
      (number_of (ended_word ending) ≡ 0) ⊎ EntryNumber (number_of (ended_word ending))
  numbered m entries _ _ (ends.safely _ _ ends.all_played) = inl refl
  numbered m entries _ _ (ends.safely _ _ (ends.step_refused _ _ _)) = inr entry.step
  numbered m entries _ _ (ends.safely _ _ (ends.store_refused _ _ _ _)) = inr entry.store
  numbered m entries _ _ (ends.step_stops _ _ reason _ stop) =
      let number = number_of (refusal_word (located stop.number m.control.pc)) in
      let least : 4 ≤ number = omega (arith, stop.stops.least, stop.stops.most) in
      let most : number ≤ 7 = omega (arith, stop.stops.most) in
      rw stop.is (inr (entry.stop number (record { least = least; most = most })))

  module _ (p : Playing) (plays : play_of image recording ≡ done p) where
    abbrev played : LentRun
    played =
        lent_run (ended_word p.ending) (packed p.machine) (report_bytes p.entries p.cycles ++ drop 8 before)

    kept : (number_of played.answer ≡ 0) ⊎ EntryNumber (number_of played.answer) → Left played
    kept by =
        let is : KeepsPlayed image recording before played =
        record { playing = p; plays = plays; state = refl; report = refl } in
        record { refused = λ nonzero none. absurd (neither by nonzero none); whole = λ _. is; ended = λ _. is }
      where
        neither :
            (number_of played.answer ≡ 0) ⊎ EntryNumber (number_of played.answer) →
            number_of played.answer ≢ 0 → (EntryNumber (number_of played.answer) → ⊥) → ⊥
        neither (inl zero) nonzero none = nonzero zero
        neither (inr is) nonzero none = none is

    with_room :
        (b c : Bool) → Left played →
        Left
        (unless b (lent_run (refusal_word (plain 2)) s before)
        (unless c (lent_run (refusal_word (plain 9)) s before) played))
    with_room false c k = left 2 (omega arith) (omega arith) (λ is. omega (arith, (apart 2 is).least))
    with_room true false k = left 9 (omega arith) (omega arith) (λ is. (apart 9 is).not_9 refl)
    with_room true true k = k

  by_answer : Bytes image → (a : Answer Playing) → play_of image recording ≡ a → Left (played_lent s before a)
  unfolding played_lent
  by_answer all (refused n) plays = refusing n (play_refusals.only image recording n plays)
  by_answer all (done p) plays =
      let has = has_entries image recording p plays in
      let ending = ends_by_entry image all recording has.entries has.reads p plays in
      with_room p plays (eqb (length s) 280) (leb 8 (length before))
      (kept p plays (numbered p.machine has.entries p.entries p.ending ending))

pub play_leaves :
    (image recording s report : List ℕ) → Bytes image →
    PlayLeaves image recording s report (play_lent image recording s report)
unfolding play_lent
play_leaves image recording s report all = by_answer image recording s report all (play_of image recording) refl
