-- The machine that is held while a body is played: what is so between two keys, and what a key makes of it.
use Prim.Native.Nat.{ℕ, ◌+◌, ◌-◌, ◌*◌, ◌≤◌, ◌<◌}
use native.Mathlib.Omega.{arith}
use native.Mathlib.Nat.{add-zero}
use mathlib.Core.Path.{◌≡◌, refl, sym, ap, ◌∙◌}
use mathlib.Core.Bool.{true, false, false≢true}
use mathlib.Core.List.{List}
use lib.ListN.{length, take, drop, length-drop}
use Rattle.std.specs.Prelude.{Result, Ok, Err, is_err}
use Rattle.isa.specs.Refusals.{Answer, Ended, done, refused, numbered, answered}
use Rattle.isa.specs.declared.Refusal.{Refusal}
use Rattle.machine.specs.declared.Machine.{Machine}
use Rattle.machine.specs.State.{fresh_of, reset_of, host_stored, host_store_of}
use Rattle.machine.specs.Run.{Run, run_of}
use Rattle.playback.specs.declared.Entry.{Entry}
use Rattle.playback.specs.declared.Entry.TheVariants.{Store, Reset}
use Rattle.playback.specs.Entries.{First, entries_of, is_read, is_body, no_entry}
use Rattle.playback.specs.Play.{playing_as, play_from, played_by, press_of}
use Rattle.playback.specs.Keys.{step_left}
use Rattle.playback.specs.Row.{played_from, Gathered}
use Rattle.playback.proofs.Reading.{to_end, rest_body, read_none}
use Rattle.playback.proofs.Playing.{one_more, ends_here}
use Rattle.playback.proofs.Presses.{store_press, reset_press, press_keeps}
use Rattle.playback.proofs.Rows.{after, Counts, row_counts, row_reads, plays_row}

-- between two keys: the rest is entries, the sums of one row more have 32 bits, and from the machine on the rest is
-- played as the whole playing is
pub record Held (image body rest : List ℕ) (m : Machine) (n cycles : ℕ) : Type 0 where
  pub within : n + length rest ≤ length body
  pub bounded : cycles ≤ 255 * n
  pub reads : is_body rest ≡ true
  pub plays : played_from image n cycles m (entries_of rest) ≡ played_by image (entries_of body)

-- what the playing is then, if it ends so
abbrev pub EndsAs : (image body : List ℕ) → Machine → (n cycles : ℕ) → Ended → Type 0
EndsAs image body m n cycles ending = done (playing_as m n cycles ending) ≡ played_by image (entries_of body)

-- before the first key
from_fresh : (image : List ℕ) (a : Answer (List Entry)) → played_from image 0 0 fresh_of a ≡ played_by image a
from_fresh image (done entries) = refl
from_fresh image (refused why) = refl

pub first_held :
    (image body : List ℕ) (m : Machine) → m ≡ fresh_of → is_body body ≡ true → Held image body body m 0 0
first_held image body m new reads =
    record {
      within = omega arith;
      bounded = omega arith;
      reads = reads;
      plays = rw new (from_fresh image (entries_of body));
    }

module _ (image body rest : List ℕ) (m : Machine) (n cycles : ℕ) (held : Held image body rest m n cycles) where
  -- after the last
  pub all_played : (0 < length rest → entries_of rest ≡ no_entry) → EndsAs image body m n cycles (done tt)
  unfolding play_from
  all_played none = rw (read_none rest none held.reads) at held.plays

  -- the rest of the rest is a part of it to its end
  pub part_held : (size : ℕ) → size ≤ length rest → (m' : Machine) (n' cycles' : ℕ) →
      Held image body (drop size rest) m' n' cycles' →
      Held image body (take (length rest - size) (drop size rest)) m' n' cycles'
  part_held size fits m' n' cycles' h = rw (to_end rest size fits) h

  module _ (e : Entry) (size : ℕ) (first : First rest e size) where
    -- an entry that takes no cycles
    pressed :
        (m' : Machine) → step_left m' (done 0) ≡ press_of image m e →
        Held image body (drop size rest) m' (n + 1) cycles
    pressed m' press =
        record {
          within = omega (arith, held.within, first.some, first.fits, length-drop size rest);
          bounded = omega (arith, held.bounded);
          reads = rest_body rest e size first ∙ held.reads;
          plays =
              ap (λ (k : ℕ). played_from image (n + 1) k m' (entries_of (drop size rest))) (sym (add-zero cycles))
              ∙ one_more image n cycles m e (step_left m' (done 0)) press 0 refl (entries_of (drop size rest))
              ∙ ap (played_from image n cycles m) (sym first.reads) ∙ held.plays;
        }

  -- ---- a host store
  module _ (address value size : ℕ) (first : First rest (Store address value) size) (m' : Machine)
      (ending : Result (Unit {0}) Refusal)
      (left : host_stored m' (answered ending) ≡ host_store_of m address value) where
    pub store_held : is_err ending ≡ false → Held image body (drop size rest) m' (n + 1) cycles
    store_held done' = go ending left done'
      where
        go : (r : Result (Unit {0}) Refusal) → host_stored m' (answered r) ≡ host_store_of m address value →
            is_err r ≡ false → Held image body (drop size rest) m' (n + 1) cycles
        go (Ok tt) left ok =
            pressed (Store address value) size first m' (store_press image m m' address value (done tt) left)
        go (Err why) left ok = absurd (false≢true (sym ok))

    rest_reads : is_read (entries_of (drop size rest)) ≡ true
    unfolding is_body
    rest_reads = rest_body rest (Store address value) size first ∙ held.reads

    pub store_ends : is_err ending ≡ true → EndsAs image body m' n cycles (answered ending)
    store_ends refuses = go ending left refuses
      where
        go : (r : Result (Unit {0}) Refusal) → host_stored m' (answered r) ≡ host_store_of m address value →
            is_err r ≡ true → EndsAs image body m' n cycles (answered r)
        go (Ok tt) left err = absurd (false≢true err)
        go (Err why) left err =
            let press = store_press image m m' address value (refused (numbered why)) left in
            let same = press_keeps image m m' (Store address value) (numbered why) press in
            rw same
            (sym (ends_here image n cycles m (Store address value) (step_left m' (refused (numbered why))) press
            (numbered why) refl (entries_of (drop size rest)) rest_reads)
            ∙ ap (played_from image n cycles m) (sym first.reads) ∙ held.plays)

  -- ---- a reset
  pub reset_held : (size : ℕ) → First rest Reset size → (m' : Machine) → m' ≡ reset_of m →
      Held image body (drop size rest) m' (n + 1) cycles
  reset_held size first m' left = pressed Reset size first m' (reset_press image m m' left)

  -- ---- the run of a row
  module _ (requests : List ℕ) (count : ℕ) (g : Gathered rest requests count) (m' : Machine) (steps spent : ℕ)
      (ending : Result (Unit {0}) Refusal) where
    abbrev ran : Ended → Run
    ran e = record { machine = m'; report = record { steps = steps; cycles = spent; ending = e } }

    module _ (is : ran (answered ending) ≡ run_of image m requests count) where
      pub counted : Counts count (ran (answered ending))
      counted = rw is (row_counts rest requests count g image m)

      plays : after image n cycles (ran (answered ending)) (entries_of (drop (2 * count) rest))
          ≡ played_by image (entries_of body)
      unfolding is_body
      plays =
          ap (λ (r : Run). after image n cycles r (entries_of (drop (2 * count) rest))) is
          ∙ sym (plays_row rest requests count g image m n cycles held.reads) ∙ held.plays

      pub row_held : is_err ending ≡ false →
          Held image body (drop (2 * count) rest) m' (n + steps) (cycles + spent)
      unfolding is_body
      row_held ok =
          record {
            within = omega (arith, held.within, counted.steps, g.within, length-drop (2 * count) rest);
            bounded = omega (arith, held.bounded, counted.cycles);
            reads = row_reads rest requests count g image m ∙ held.reads;
            plays = go ending plays ok;
          }
        where
          go : (r : Result (Unit {0}) Refusal) →
              after image n cycles (ran (answered r)) (entries_of (drop (2 * count) rest))
              ≡ played_by image (entries_of body) → is_err r ≡ false →
              played_from image (n + steps) (cycles + spent) m' (entries_of (drop (2 * count) rest))
              ≡ played_by image (entries_of body)
          go (Ok tt) h ok = h
          go (Err why) h ok = absurd (false≢true (sym ok))

      pub row_ends : is_err ending ≡ true → EndsAs image body m' (n + steps) (cycles + spent) (answered ending)
      row_ends err = go ending plays err
        where
          go : (r : Result (Unit {0}) Refusal) →
              after image n cycles (ran (answered r)) (entries_of (drop (2 * count) rest))
              ≡ played_by image (entries_of body) → is_err r ≡ true →
              EndsAs image body m' (n + steps) (cycles + spent) (answered r)
          go (Ok tt) h err = absurd (false≢true err)
          go (Err why) h err = h
