-- Demand 3 for records: `PlayedSafely`.
use Prim.Native.Nat.{ℕ, suc, ◌+◌, ◌≤◌}
use native.Mathlib.Omega.{arith}
use mathlib.Core.Path.{◌≡◌}
use mathlib.Core.Logic.{inl, inr}
use mathlib.Core.List.{List, [], ◌∷◌}
use lib.ListN.{replicate}
use Rattle.machine.specs.declared.Machine.{Machine}
use Rattle.machine.specs.State.{machine_of, reset_control, cleared_pairs, fresh_of}
use Rattle.certificate.proofs.Agreement.{agreement}
use Rattle.bench.specs.Session.{levels_in_use, AllKeep}
use Rattle.bench.proofs.Session.{never_stops}
use Rattle.playback.specs.declared.Entry.{Entry}
use Rattle.playback.specs.declared.Entry.TheVariants.{Step, Store, Reset}
use Rattle.playback.specs.Play.{calls_of, Playing, play_from, play_of}
use Rattle.playback.specs.Safety.{EndsSafely, PlayedSafely}
use Rattle.playback.specs.Safety as ends
use Rattle.playback.proofs.Endings.{first, later_safely}

module _ (image : List ℕ) (levels : ℕ) where
  -- a playing of entries after n others: it ends as it may, and its machine is within the number
  record PlayedWithin (n : ℕ) (entries : List Entry) (p : Playing) : Type 0 where
    pub count : ℕ
    pub number : p.entries ≡ n + count
    pub safely : EndsSafely entries count p.ending
    pub within : levels_in_use p.machine ≤ levels

  -- .. with one entry before them
  one_before :
      (n : ℕ) (e : Entry) (rest : List Entry) (p : Playing) → PlayedWithin (n + 1) rest p →
      PlayedWithin n (e ∷ rest) p
  one_before n e rest p w =
      record {
        count = suc w.count;
        number = omega (arith, w.number);
        safely = later_safely e rest w.count p.ending w.safely;
        within = w.within;
      }

  safely :
      (entries : List Entry) (n cycles : ℕ) (m : Machine) → AllKeep image levels (calls_of entries) m →
      PlayedWithin n entries (play_from image n cycles m entries)
  unfolding play_from
  safely [] n cycles m kept = record { count = 0; number = omega arith; safely = ends.all_played; within = kept }
  safely (Step request ∷ rest) n cycles m (low, inl turned, more) =
      rw turned.refusal
      (record { count = 0; number = omega arith; safely = ends.step_refused 0 request (first _ rest); within = low })
  safely (Step request ∷ rest) n cycles m (low, inr went, more) =
      rw went.answer
      (one_before n (Step request) rest _ (safely rest (n + 1) (cycles + went.cycles) _ more))
  safely (Store address value ∷ rest) n cycles m (low, inl turned, more) =
      rw turned.refusal
      (record {
        count = 0;
        number = omega arith;
        safely = ends.store_refused 0 address value (first _ rest);
        within = low;
      })
  safely (Store address value ∷ rest) n cycles m (low, inr went, more) =
      rw went.ending (one_before n (Store address value) rest _ (safely rest (n + 1) (cycles + 0) _ more))
  safely (Reset ∷ rest) n cycles m (low, kept, more) =
      one_before n Reset rest _ (safely rest (n + 1) (cycles + 0) _ more)

pub played_safely : PlayedSafely
unfolding play_of fresh_of
played_safely image certificate wired levels accepts recording entries reads asks =
    let size = ((agreement image certificate wired levels).sound accepts).image_length in
    let promised = never_stops image certificate wired levels accepts in
    let kept =
    promised.1 (machine_of reset_control (replicate 6 0) cleared_pairs (replicate 256 0)) (calls_of entries) asks in
    let w = safely image levels entries 0 0 fresh_of kept in
    let same : (play_from image 0 0 fresh_of entries).entries ≡ w.count = omega (arith, w.number) in
    record {
      playing = play_from image 0 0 fresh_of entries;
      plays = rw (size, reads);
      ends = rw same w.safely;
      within = w.within;
      at_most_six = promised.0;
    }
