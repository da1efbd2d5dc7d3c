-- Laws of playing: one entry more, an entry that ends it, and the end of the entries.
use Prim.Native.Nat.{ℕ, ◌+◌}
use mathlib.Core.Path.{◌≡◌, refl, sym, ap, ◌∙◌}
use mathlib.Core.Bool.{true, false≢true}
use mathlib.Core.List.{List, ◌∷◌}
use Rattle.isa.specs.Refusals.{Numbered, Answer, done, refused}
use Rattle.machine.specs.declared.Machine.{Machine}
use Rattle.machine.specs.Step as stepping
use Rattle.bench.specs.Calls.{leaves}
use Rattle.playback.specs.declared.Entry.{Entry}
use Rattle.playback.specs.Entries.{then_read, is_read}
use Rattle.playback.specs.Play.{call_of, entry_answer, Playing, playing_as, unless_ended, play_from, press_of}
use Rattle.playback.specs.Row.{played_from}

-- the playing of an entry and the rest, by the entry's answer
abbrev pub Next : (image : List ℕ) → (n cycles : ℕ) → Machine → Entry → List Entry → Answer ℕ → Playing
Next image n cycles m e rest a =
    unless_ended m n cycles a (λ spent. play_from image (n + 1) (cycles + spent) (leaves image (call_of e) m) rest)

module _ (image : List ℕ) (n cycles : ℕ) (m : Machine) (e : Entry) (rest : List Entry) where
  -- an entry that is done, and the rest
  pub goes_on_lem :
      (spent : ℕ) (after : Machine) → entry_answer image m e ≡ done spent → leaves image (call_of e) m ≡ after →
      play_from image n cycles m (e ∷ rest) ≡ play_from image (n + 1) (cycles + spent) after rest
  unfolding play_from
  goes_on_lem spent after is left = rw (is, left)

  -- an entry that is refused or stops
  pub ends_by :
      (why : Numbered) → entry_answer image m e ≡ refused why →
      play_from image n cycles m (e ∷ rest) ≡ playing_as m n cycles (refused why)
  unfolding play_from
  ends_by why is = rw is

module _ (image : List ℕ) (n cycles : ℕ) (m : Machine) where
  module _ (e : Entry) (s : stepping.Step) (pressed : s ≡ press_of image m e) where
    machine_is : leaves image (call_of e) m ≡ s.machine
    unfolding press_of
    machine_is = sym (ap (λ (x : stepping.Step). x.machine) pressed)

    answer_is : entry_answer image m e ≡ s.answer
    unfolding press_of
    answer_is = sym (ap (λ (x : stepping.Step). x.answer) pressed)

    pub one_more :
        (spent : ℕ) → s.answer ≡ done spent → (a : Answer (List Entry)) →
        played_from image (n + 1) (cycles + spent) s.machine a ≡ played_from image n cycles m (then_read e a)
    one_more spent is (done entries) =
        ap done (sym (goes_on_lem image n cycles m e entries spent s.machine (answer_is ∙ is) machine_is))
    one_more spent is (refused why) = refl

    pub ends_here :
        (why : Numbered) → s.answer ≡ refused why → (a : Answer (List Entry)) → is_read a ≡ true →
        played_from image n cycles m (then_read e a) ≡ done (playing_as m n cycles (refused why))
    ends_here why is (done entries) read = ap done (ends_by image n cycles m e entries why (answer_is ∙ is))
    ends_here why is (refused other) read = absurd (false≢true read)
