-- A playing neither looks at the bytes under the ROM window nor changes them.
use Prim.Native.Nat.{ℕ, ◌+◌}
use mathlib.Core.Path.{◌≡◌, refl, sym, ap, ◌∙◌}
use mathlib.Core.Bool.{Bool, true, false}
use mathlib.Core.List.{List, [], ◌∷◌}
use native.Mathlib.Omega.{arith}
use lib.ListN.{length, get_or, replicate, get_or-replicate}
use Rattle.isa.specs.Refusals.{plain, Answer, done, refused, unless}
use Rattle.isa.specs.Rom.{is_image}
use Rattle.data.specs.Space.{in_window}
use Rattle.data.proofs.Window.{in_window_lem}
use Rattle.machine.specs.declared.Machine.{Machine}
use Rattle.machine.specs.State.{machine_of, cleared_pairs, reset_control, fresh_of}
use Rattle.machine.specs.UnderWindow.{AlikeButUnder, KeptUnder}
use Rattle.machine.proofs.UnderWindow.{never_looked_at, never_changed}
use Rattle.bench.specs.Calls.{leaves}
use Rattle.playback.specs.declared.Entry.{Entry}
use Rattle.playback.specs.declared.Entry.TheVariants.{Step, Store, Reset}
use Rattle.playback.specs.Record.{entries_in}
use Rattle.playback.specs.Play.{
  Playing,
  call_of,
  without_cycles,
  entry_answer,
  unless_ended,
  play_from,
  played_by,
  play_of,
}
use Rattle.playback.specs.UnderWindow.{SamePlaying, PlayedAlike}

module _ (image : List ℕ) where
  -- an entry answers alike, and leaves machines that agree
  answers : (m m' : Machine) → AlikeButUnder m m' → (e : Entry) → entry_answer image m e ≡ entry_answer image m' e
  answers m m' same (Step request) = (never_looked_at.by_step image m m' request same).answer
  answers m m' same (Store a value) = ap without_cycles (never_looked_at.by_store m m' a value same).ending
  answers m m' same Reset = refl

  left :
      (m m' : Machine) → AlikeButUnder m m' → (e : Entry) →
      AlikeButUnder (leaves image (call_of e) m) (leaves image (call_of e) m')
  unfolding leaves
  left m m' same (Step request) = (never_looked_at.by_step image m m' request same).machine
  left m m' same (Store a value) = (never_looked_at.by_store m m' a value same).machine
  left m m' same Reset = never_looked_at.by_reset m m' same

  left_kept : (m : Machine) (e : Entry) → KeptUnder m (leaves image (call_of e) m)
  unfolding leaves
  left_kept m (Step request) = never_changed.by_step image m request
  left_kept m (Store a value) = never_changed.by_store m a value
  left_kept m Reset = never_changed.by_reset m

  unless_ended_lem :
      (m m' : Machine) → AlikeButUnder m m' → (n cycles : ℕ) (a : Answer ℕ) (f g : ℕ → Playing) →
      ((spent : ℕ) → SamePlaying (f spent) (g spent)) →
      SamePlaying (unless_ended m n cycles a f) (unless_ended m' n cycles a g)
  unless_ended_lem m m' same n cycles (done spent) f g h = h spent
  unless_ended_lem m m' same n cycles (refused why) f g h =
      record { entries = refl; cycles = refl; ending = refl; machine = same }

  alike :
      (entries : List Entry) (n cycles : ℕ) (m m' : Machine) → AlikeButUnder m m' →
      SamePlaying (play_from image n cycles m entries) (play_from image n cycles m' entries)
  unfolding play_from
  alike [] n cycles m m' same = record { entries = refl; cycles = refl; ending = refl; machine = same }
  alike (e ∷ entries) n cycles m m' same =
      rw (answers m m' same e)
      (unless_ended_lem m m' same n cycles (entry_answer image m' e) _ _
      (λ spent. alike entries (n + 1) (cycles + spent) _ _ (left m m' same e)))

  unless_ended_kept :
      (m : Machine) (n cycles : ℕ) (a : Answer ℕ) (f : ℕ → Playing) → ((spent : ℕ) → KeptUnder m (f spent).machine) →
      KeptUnder m (unless_ended m n cycles a f).machine
  unless_ended_kept m n cycles (done spent) f h = h spent
  unless_ended_kept m n cycles (refused why) f h = λ k e. refl

  kept :
      (entries : List Entry) (n cycles : ℕ) (m : Machine) → KeptUnder m (play_from image n cycles m entries).machine
  unfolding play_from
  kept [] n cycles m = λ k e. refl
  kept (e ∷ entries) n cycles m =
      unless_ended_kept m n cycles (entry_answer image m e) _
      (λ spent k under. left_kept m e k under ∙ kept entries (n + 1) (cycles + spent) _ k under)

  -- a fresh machine has 0 there
  fresh : (a : ℕ) → in_window a ≡ true → get_or fresh_of.bytes a 0 ≡ 0
  unfolding fresh_of
  fresh a under =
      sym (never_changed.by_reset (machine_of reset_control (replicate 6 0) cleared_pairs (replicate 256 0)) a under)
      ∙ get_or-replicate 256 a 0 0 (omega (arith, (in_window_lem a true (sym under) refl).1))

  by_reading :
      (i : Bool) (read : Answer (List Entry)) (p : Playing) →
      unless i (refused (plain 1)) (played_by image read) ≡ done p → (a : ℕ) → in_window a ≡ true →
      get_or p.machine.bytes a 0 ≡ 0
  by_reading true (done entries) p e a under =
      let is : play_from image 0 0 fresh_of entries ≡ p = cc in
      rw (← is) (sym (kept entries 0 0 fresh_of a under) ∙ fresh a under)
  by_reading true (refused why) p e a under = cc
  by_reading false read p e a under = cc

pub played_alike : PlayedAlike
unfolding play_of
played_alike = record {
  alike = λ image n cycles m m' entries same. alike image entries n cycles m m' same;
  kept = λ image n cycles m entries. kept image entries n cycles m;
  zero = λ image recording p e a under. by_reading image (is_image (length image)) (entries_in recording) p e a under;
}
