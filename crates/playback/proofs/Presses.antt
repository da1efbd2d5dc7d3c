-- A key that was pressed, as the press of an entry: by what each key promises.
use Prim.Native.Nat.{ℕ}
use mathlib.Core.Path.{◌≡◌, refl, sym, ap, ◌∙◌}
use mathlib.Core.List.{List}
use Rattle.isa.specs.Refusals.{Numbered, Answer, Ended, done, refused}
use Rattle.machine.specs.declared.Machine.{Machine}
use Rattle.machine.specs.State.{HostStore, reset_of, host_stored, host_store_of}
use Rattle.machine.specs.Step.{step_of}
use Rattle.machine.specs.Step as stepping
use Rattle.bench.specs.Calls.{leaves}
use Rattle.playback.specs.declared.Entry.{Entry}
use Rattle.playback.specs.declared.Entry.TheVariants.{Step, Store, Reset}
use Rattle.playback.specs.Play.{without_cycles, press_of}
use Rattle.playback.specs.Keys.{step_left}
use Rattle.playback.proofs.Keys.{step_keeps, store_keeps}

module _ (image : List ℕ) (m m' : Machine) where
  pub step_press :
      (request : ℕ) (a : Answer ℕ) → step_left m' a ≡ step_of image m request →
      step_left m' a ≡ press_of image m (Step request)
  unfolding press_of leaves
  step_press request a left = left

  pub store_press :
      (address value : ℕ) (ended : Ended) → host_stored m' ended ≡ host_store_of m address value →
      step_left m' (without_cycles ended) ≡ press_of image m (Store address value)
  unfolding press_of leaves
  store_press address value ended left = ap (λ (s : HostStore). step_left s.machine (without_cycles s.ending)) left

  pub reset_press : m' ≡ reset_of m → step_left m' (done 0) ≡ press_of image m Reset
  unfolding press_of leaves
  reset_press left = ap (λ (x : Machine). step_left x (done 0)) left

  -- a key that refuses or stops leaves the machine as it was
  pub press_keeps : (e : Entry) (why : Numbered) → step_left m' (refused why) ≡ press_of image m e → m' ≡ m
  unfolding press_of leaves
  press_keeps (Step request) why left =
      let is = ap (λ (s : stepping.Step). s.answer) (sym left) in
      ap (λ (s : stepping.Step). s.machine) (left ∙ sym (step_keeps image m request why is))
  press_keeps (Store address value) why left =
      ap (λ (s : stepping.Step). s.machine) left ∙ by_ending (host_store_of m address value).ending refl
      (ap (λ (s : stepping.Step). s.answer) (sym left))
    where
      by_ending :
          (a : Ended) → (host_store_of m address value).ending ≡ a → without_cycles a ≡ refused why →
          (host_store_of m address value).machine ≡ m
      by_ending (done tt) is refuses = cc
      by_ending (refused other) is refuses =
          sym (ap (λ (s : HostStore). s.machine) (store_keeps m address value other is))
  press_keeps Reset why left =
      let is = ap (λ (s : stepping.Step). s.answer) (sym left) in
      cc
