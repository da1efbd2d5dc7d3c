-- How the playing of a record ends with any image: `EndsByEntry`.
use Prim.Native.Nat.{ℕ, suc, ◌+◌}
use native.Mathlib.Omega.{arith}
use mathlib.Core.Path.{◌≡◌, refl, sym, ap, ◌∙◌}
use mathlib.Core.Bool.{Bool, true, false, false≢true}
use mathlib.Core.List.{List, [], ◌∷◌}
use lib.ListN.{get_or, length}
use Rattle.isa.specs.Refusals.{Numbered, plain, Answer, Ended, done, refused, unless}
use Rattle.isa.specs.RoundTrip.{Bytes}
use Rattle.isa.specs.Rom.{is_image}
use Rattle.isa.proofs.Halves.{is_space_lem}
use Rattle.data.specs.Space.{program_of}
use Rattle.machine.specs.declared.Machine.{Machine}
use Rattle.machine.specs.State.{is_well_formed, fresh_of, reset_of, host_store_of}
use Rattle.machine.specs.Step.{step_of}
use Rattle.machine.specs.Refusals as why
use Rattle.machine.specs.Refusals.{StepRefused, StoreRefused}
use Rattle.machine.proofs.Refusals.{step_refusals}
use Rattle.machine.proofs.StepDoes.{stops_numbered}
use Rattle.machine.proofs.StaysWellFormed.{stays_well_formed}
use Rattle.bench.specs.Calls.{leaves}
use Rattle.playback.specs.declared.Entry.{Entry}
use Rattle.playback.specs.declared.Entry.TheVariants.{Step, Store, Reset}
use Rattle.playback.specs.Record.{entries_in}
use Rattle.playback.specs.Play.{without_cycles, Playing, play_from, played_by, play_of}
use Rattle.playback.specs.Safety.{IsEntry, EndsSafely, EndsOrStops, EndsByEntry}
use Rattle.playback.specs.Safety as ends
use Rattle.playback.proofs.Playing.{Next}
use Rattle.playback.proofs.Keys.{store_only}

pub first : (e : Entry) (rest : List Entry) → IsEntry (e ∷ rest) 0 e
first e rest = record { rest = rest; stands = refl }

-- an entry stands one later behind another
one_later : (e f : Entry) (rest : List Entry) (number : ℕ) → IsEntry rest number e → IsEntry (f ∷ rest) (suc number) e
one_later e f rest number is = record { rest = is.rest; stands = is.stands }

pub later_safely :
    (f : Entry) (rest : List Entry) (number : ℕ) (ending : Ended) → EndsSafely rest number ending →
    EndsSafely (f ∷ rest) (suc number) ending
later_safely f rest _ _ ends.all_played = ends.all_played
later_safely f rest _ _ (ends.step_refused number request is) =
    ends.step_refused (suc number) request (one_later _ f rest number is)
later_safely f rest _ _ (ends.store_refused number address value is) =
    ends.store_refused (suc number) address value (one_later _ f rest number is)

later :
    (m : Machine) (f : Entry) (rest : List Entry) (number : ℕ) (ending : Ended) → EndsOrStops m rest number ending →
    EndsOrStops m (f ∷ rest) (suc number) ending
later m f rest _ _ (ends.safely number ending is) =
    ends.safely (suc number) ending (later_safely f rest number ending is)
later m f rest _ _ (ends.step_stops number request reason is stop) =
    ends.step_stops (suc number) request reason (one_later _ f rest number is) stop

module _ (image : List ℕ) (all : Bytes image) (size : is_image (length image) ≡ true) where
  -- a playing of entries after n others
  record Ends (n : ℕ) (entries : List Entry) (p : Playing) : Type 0 where
    pub count : ℕ
    pub number : p.entries ≡ n + count
    pub ends : EndsOrStops p.machine entries count p.ending

  one_before : (n : ℕ) (e : Entry) (rest : List Entry) (p : Playing) → Ends (n + 1) rest p → Ends n (e ∷ rest) p
  one_before n e rest p w =
      record {
        count = suc w.count;
        number = omega (arith, w.number);
        ends = later p.machine e rest w.count p.ending w.ends;
      }

  -- the rest is played on any machine that is well formed
  abbrev Rest : List Entry → Type 0
  Rest rest = (n cycles : ℕ) (m : Machine) → is_well_formed m ≡ true → Ends n rest (play_from image n cycles m rest)

  module _ (n cycles : ℕ) (m : Machine) (formed : is_well_formed m ≡ true) (rest : List Entry) (more : Rest rest) where
    step_ends :
        (request : ℕ) (reason : Numbered) → StepRefused image m request reason →
        EndsOrStops m (Step request ∷ rest) 0 (refused reason)
    step_ends request _ (why.image_length i) = absurd (false≢true (sym i ∙ size))
    step_ends request _ (why.ill_formed i w) = absurd (false≢true (sym w ∙ formed))
    step_ends request _ (why.unknown_source i w u) =
        ends.safely 0 (refused (plain 11)) (ends.step_refused 0 request (first (Step request) rest))
    step_ends request reason (why.stops _ i w k stop) =
        ends.step_stops 0 request reason (first (Step request) rest)
        (stops_numbered (program_of image m.bytes) m request (is_space_lem image (get_or m.bytes 0xCA 0) size) formed reason
        stop)

    by_step :
        (request : ℕ) (a : Answer ℕ) → (step_of image m request).answer ≡ a →
        Ends n (Step request ∷ rest) (Next image n cycles m (Step request) rest a)
    unfolding leaves
    by_step request (done spent) is =
        one_before n (Step request) rest _
        (more (n + 1) (cycles + spent) _ (stays_well_formed.by_step image all m formed request))
    by_step request (refused reason) is =
        record {
          count = 0;
          number = omega arith;
          ends = step_ends request reason (step_refusals.only image m request reason is);
        }

    only_10 : (address : ℕ) (reason : Numbered) → StoreRefused m address reason → reason ≡ plain 10
    only_10 address _ (why.ill_formed w) = absurd (false≢true (sym w ∙ formed))
    only_10 address _ (why.window_address w low high) = refl

    by_store :
        (address value : ℕ) (a : Ended) → (host_store_of m address value).ending ≡ a →
        Ends n (Store address value ∷ rest) (Next image n cycles m (Store address value) rest (without_cycles a))
    unfolding leaves
    by_store address value (done tt) is =
        one_before n (Store address value) rest _
        (more (n + 1) (cycles + 0) _ (stays_well_formed.by_store m formed address value))
    by_store address value (refused reason) is =
        rw (only_10 address reason (store_only m address value reason is))
        (record {
          count = 0;
          number = omega arith;
          ends =
              ends.safely 0 (refused (plain 10))
              (ends.store_refused 0 address value (first (Store address value) rest));
        })

  ended : (entries : List Entry) → Rest entries
  unfolding play_from leaves
  ended [] n cycles m formed =
      record { count = 0; number = omega arith; ends = ends.safely 0 (done tt) ends.all_played }
  ended (Step request ∷ rest) n cycles m formed =
      by_step n cycles m formed rest (ended rest) request (step_of image m request).answer refl
  ended (Store address value ∷ rest) n cycles m formed =
      by_store n cycles m formed rest (ended rest) address value (host_store_of m address value).ending refl
  ended (Reset ∷ rest) n cycles m formed =
      one_before n Reset rest _ (ended rest (n + 1) (cycles + 0) (reset_of m) (stays_well_formed.by_reset m))

fresh_formed : is_well_formed fresh_of ≡ true
unfolding fresh_of
fresh_formed = stays_well_formed.by_reset _

pub ends_by_entry : EndsByEntry
unfolding play_of
ends_by_entry image all recording entries reads p plays = by_size (is_image (length image)) refl plays
  where
    by_size :
        (i : Bool) → is_image (length image) ≡ i →
        unless i (refused (plain 1)) (played_by image (entries_in recording)) ≡ done p →
        EndsOrStops p.machine entries p.entries p.ending
    by_size false size plays = cc
    by_size true size plays =
        let whole = sym (ap (played_by image) reads) ∙ plays in
        let same : play_from image 0 0 fresh_of entries ≡ p = cc in
        let w = ended image all size entries 0 0 fresh_of fresh_formed in
        let number : (play_from image 0 0 fresh_of entries).entries ≡ w.count = omega (arith, w.number) in
        rw (← same, number) w.ends
