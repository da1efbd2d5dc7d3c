-- With one page, or none, a record is played as it was.
use Prim.Native.Nat.{ℕ, ◌+◌}
use mathlib.Core.Path.{◌≡◌, refl, ap}
use mathlib.Core.Bool.{true}
use mathlib.Core.List.{List, [], ◌∷◌}
use lib.ListN.{length}
use Rattle.isa.specs.Refusals.{Answer, done, refused}
use Rattle.isa.specs.Rom.{is_space}
use Rattle.isa.proofs.Halves.{space_image}
use Rattle.machine.specs.declared.Machine.{Machine}
use Rattle.machine.specs.Step as stepping
use Rattle.machine.proofs.OnePage.{machine_as_before}
use Rattle.bench.specs.Calls.{leaves}
use Rattle.playback.specs.declared.Entry.{Entry}
use Rattle.playback.specs.declared.Entry.TheVariants.{Step, Store, Reset}
use Rattle.playback.specs.Record.{entries_in}
use Rattle.playback.specs.Play.{Playing, call_of, entry_answer, unless_ended, play_from, played_by, play_of}
use Rattle.playback.specs.OnePage.{answer_unpaged, leaves_unpaged, play_from_unpaged, played_unpaged, PlaybackAsBefore}

-- what is played after an entry matters only where there is something left to play
rest_is : (m : Machine) (n cycles : ℕ) (a : Answer ℕ) (f g : ℕ → Playing) → ((spent : ℕ) → f spent ≡ g spent)
    → unless_ended m n cycles a f ≡ unless_ended m n cycles a g
rest_is m n cycles (done spent) f g same = same spent
rest_is m n cycles (refused r) f g same = refl

module _ (image : List ℕ) (is : is_space (length image) ≡ true) where
  answer_is : (m : Machine) (e : Entry) → entry_answer image m e ≡ answer_unpaged image m e
  answer_is m (Step request) = ap (λ (s : stepping.Step). s.answer) (machine_as_before.step image is m request)
  answer_is m (Store address value) = refl
  answer_is m Reset = refl

  leaves_is : (m : Machine) (e : Entry) → leaves image (call_of e) m ≡ leaves_unpaged image m e
  unfolding leaves
  leaves_is m (Step request) = ap (λ (s : stepping.Step). s.machine) (machine_as_before.step image is m request)
  leaves_is m (Store address value) = refl
  leaves_is m Reset = refl

  play_is : (n cycles : ℕ) (m : Machine) (entries : List Entry)
      → play_from image n cycles m entries ≡ play_from_unpaged image n cycles m entries
  unfolding play_from play_from_unpaged
  play_is n cycles m [] = refl
  play_is n cycles m (e ∷ entries) =
      rw (answer_is m e, leaves_is m e)
      (rest_is m n cycles (answer_unpaged image m e) _ _
      (λ spent. play_is (n + 1) (cycles + spent) (leaves_unpaged image m e) entries))

  played_is : (read : Answer (List Entry)) → played_by image read ≡ played_unpaged image read
  played_is (done entries) = rw (play_is 0 0 _ entries)
  played_is (refused n) = refl

pub playback_as_before : PlaybackAsBefore
unfolding play_of
playback_as_before image is recording = rw (space_image image is, is) (played_is image is (entries_in recording))
