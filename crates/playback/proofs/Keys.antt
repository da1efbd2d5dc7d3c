-- Playing is pressing keys: `KeysPlayed`.
use Prim.Native.Nat.{ℕ, suc, ◌+◌}
use native.Mathlib.Omega.{arith}
use native.Mathlib.Nat.{add-zero}
use mathlib.Core.Path.{◌≡◌, refl, sym, ap, ◌∙◌}
use mathlib.Core.Bool.{Bool, true, false, not, ◌&&◌}
use mathlib.Core.List.{List, [], ◌∷◌}
use lib.Dec.{leb, ltb}
use lib.ListN.{take}
use borrow.Author.Tests.{leb-true, ltb-true}
use Rattle.isa.specs.Refusals.{Numbered, plain, Answer, Ended, done, refused, unless}
use Rattle.machine.specs.declared.Machine.{Machine}
use Rattle.machine.specs.State.{is_well_formed, with_byte, HostStore, reset_of, host_stored, host_store_of}
use Rattle.machine.specs.Step.{step_of}
use Rattle.machine.specs.Step as stepping
use Rattle.machine.specs.Refusals as why
use Rattle.machine.specs.Refusals.{StoreRefused}
use Rattle.machine.proofs.Refusals.{step_refusals, store_refusals}
use Rattle.bench.specs.Calls.{leaves, leaves_all}
use Rattle.playback.specs.declared.Entry.{Entry}
use Rattle.playback.specs.declared.Entry.TheVariants.{Step, Store, Reset}
use Rattle.playback.specs.Play.{call_of, calls_of, without_cycles, entry_answer}
use Rattle.playback.specs.Play.{Playing, playing_as, play_from}
use Rattle.playback.specs.Keys.{step_left, Presses, KeysPlayed}
use Rattle.playback.specs.Keys as press
use Rattle.playback.proofs.Playing.{Next, goes_on_lem, ends_by}

-- a step that is refused or stops leaves the machine as it was
pub step_keeps :
    (image : List ℕ) (m : Machine) (request : ℕ) (why : Numbered) → (step_of image m request).answer ≡ refused why →
    step_left m (refused why) ≡ step_of image m request
step_keeps image m request why is =
    sym (step_refusals.given image m request why (step_refusals.only image m request why is))

-- why a host store was refused
pub store_only :
    (m : Machine) (address value : ℕ) (reason : Numbered) → (host_store_of m address value).ending ≡ refused reason →
    StoreRefused m address reason
unfolding host_store_of
store_only m address value reason is =
    by_tests (is_well_formed m) refl (leb 0x40 address) refl (ltb address 0x80) refl is
  where
    by_tests :
        (w : Bool) → is_well_formed m ≡ w → (low : Bool) → leb 0x40 address ≡ low →
        (high : Bool) → ltb address 0x80 ≡ high →
        (unless w (host_stored m (refused (plain 2)))
        (unless (not (low && high)) (host_stored m (refused (plain 10)))
        (host_stored (with_byte m address value) (done tt)))
        ).ending
        ≡ refused reason → StoreRefused m address reason
    by_tests false w low f high g is = let same : plain 2 ≡ reason = cc in rw (← same) (why.ill_formed w)
    by_tests true w true f true g is =
        let same : plain 10 ≡ reason = cc in
        rw (← same) (why.window_address w (leb-true 0x40 address f) (ltb-true address 0x80 g))
    by_tests true w false f high g is = cc
    by_tests true w true f false g is = cc

-- a host store that is refused leaves the machine as it was
pub store_keeps :
    (m : Machine) (address value : ℕ) (reason : Numbered) → (host_store_of m address value).ending ≡ refused reason →
    host_stored m (refused reason) ≡ host_store_of m address value
store_keeps m address value reason is =
    sym (store_refusals.given m address value reason (store_only m address value reason is))

module _ (image : List ℕ) where
  none_spent :
      (rest : List Entry) (n cycles : ℕ) (held : Machine) →
      play_from image (n + 1) cycles held rest ≡ play_from image (n + 1) (cycles + 0) held rest
  none_spent rest n cycles held =
      ap (λ (c : ℕ). play_from image (n + 1) c held rest) (sym (add-zero cycles))

  -- the rest is pressed on any machine
  abbrev Rest : (rest : List Entry) → Type 0
  Rest rest = (n cycles : ℕ) (m : Machine) → Presses image n cycles m rest (play_from image n cycles m rest)

  by_step :
      (n cycles : ℕ) (m : Machine) (request : ℕ) (rest : List Entry) → Rest rest →
      (a : Answer ℕ) → (step_of image m request).answer ≡ a →
      Presses image n cycles m (Step request ∷ rest) (Next image n cycles m (Step request) rest a)
  unfolding leaves
  by_step n cycles m request rest more (done spent) is =
      press.step_done n cycles spent request m (step_of image m request).machine rest _
      (ap (step_left (step_of image m request).machine) (sym is)) (more (n + 1) (cycles + spent) _)
  by_step n cycles m request rest more (refused why) is =
      press.step_ends n cycles request m m rest why (step_keeps image m request why is)

  by_store :
      (n cycles : ℕ) (m : Machine) (address value : ℕ) (rest : List Entry) → Rest rest →
      (a : Ended) → (host_store_of m address value).ending ≡ a →
      Presses image n cycles m (Store address value ∷ rest)
      (Next image n cycles m (Store address value) rest (without_cycles a))
  unfolding leaves
  by_store n cycles m address value rest more (done tt) is =
      rw (add-zero cycles)
      (press.store_done n cycles address value m (host_store_of m address value).machine rest _
      (ap (host_stored (host_store_of m address value).machine) (sym is)) (more (n + 1) cycles _))
  by_store n cycles m address value rest more (refused why) is =
      press.store_ends n cycles address value m m rest why (store_keeps m address value why is)

  pressed : (entries : List Entry) → Rest entries
  unfolding play_from leaves
  pressed [] n cycles m = press.all_pressed n cycles m
  pressed (Step request ∷ rest) n cycles m =
      by_step n cycles m request rest (pressed rest) (step_of image m request).answer refl
  pressed (Store address value ∷ rest) n cycles m =
      by_store n cycles m address value rest (pressed rest) (host_store_of m address value).ending refl
  pressed (Reset ∷ rest) n cycles m =
      rw (add-zero cycles)
      (press.reset_done n cycles m (reset_of m) rest _ refl (pressed rest (n + 1) cycles (reset_of m)))

  only :
      (entries : List Entry) (n cycles : ℕ) (m : Machine) (p : Playing) → Presses image n cycles m entries p →
      p ≡ play_from image n cycles m entries
  unfolding play_from leaves
  only _ n cycles m _ (press.all_pressed _ _ _) = refl
  only _ n cycles m p (press.step_done _ _ spent request _ held rest _ left more) =
      only rest (n + 1) (cycles + spent) held p more
      ∙ sym (goes_on_lem image n cycles m (Step request) rest spent held
      (ap (λ (s : stepping.Step). s.answer) (sym left)) (ap (λ (s : stepping.Step). s.machine) (sym left)))
  only _ n cycles m _ (press.step_ends _ _ request _ held rest why left) =
      let is = ap (λ (s : stepping.Step). s.answer) (sym left) in
      let same : held ≡ m = ap (λ (s : stepping.Step). s.machine) (left ∙ sym (step_keeps image m request why is)) in
      ap (λ (x : Machine). playing_as x n cycles (refused why)) same
      ∙ sym (ends_by image n cycles m (Step request) rest why is)
  only _ n cycles m p (press.store_done _ _ address value _ held rest _ left more) =
      only rest (n + 1) cycles held p more ∙ none_spent rest n cycles held
      ∙ sym (goes_on_lem image n cycles m (Store address value) rest 0 held
      (ap (λ (s : HostStore). without_cycles s.ending) (sym left)) (ap (λ (s : HostStore). s.machine) (sym left)))
  only _ n cycles m _ (press.store_ends _ _ address value _ held rest why left) =
      let is = ap (λ (s : HostStore). s.ending) (sym left) in
      let same : held ≡ m = ap (λ (s : HostStore). s.machine) (left ∙ sym (store_keeps m address value why is)) in
      ap (λ (x : Machine). playing_as x n cycles (refused why)) same
      ∙ sym (ends_by image n cycles m (Store address value) rest why (ap without_cycles is))
  only _ n cycles m p (press.reset_done _ _ _ held rest _ left more) =
      only rest (n + 1) cycles held p more ∙ none_spent rest n cycles held
      ∙ sym (goes_on_lem image n cycles m Reset rest 0 held refl (sym left))

  -- how many entries were played after those before, and the machine that they leave
  record Counted (n : ℕ) (m : Machine) (entries : List Entry) (p : Playing) : Type 0 where
    pub count : ℕ
    pub number : p.entries ≡ n + count
    pub machine : p.machine ≡ leaves_all image (calls_of (take count entries)) m

  by_answer :
      (e : Entry) (rest : List Entry) (n cycles : ℕ) (m : Machine) →
      ((n cycles : ℕ) (m : Machine) → Counted n m rest (play_from image n cycles m rest)) →
      (a : Answer ℕ) → Counted n m (e ∷ rest) (Next image n cycles m e rest a)
  by_answer e rest n cycles m more (done spent) =
      let c = more (n + 1) (cycles + spent) (leaves image (call_of e) m) in
      record { count = suc c.count; number = omega (arith, c.number); machine = c.machine }
  by_answer e rest n cycles m more (refused why) = record { count = 0; number = omega arith; machine = refl }

  counted :
      (entries : List Entry) (n cycles : ℕ) (m : Machine) → Counted n m entries (play_from image n cycles m entries)
  unfolding play_from
  counted [] n cycles m = record { count = 0; number = omega arith; machine = refl }
  counted (e ∷ rest) n cycles m = by_answer e rest n cycles m (counted rest) (entry_answer image m e)

pub keys_played : KeysPlayed
keys_played = record {
  pressed = λ image m entries. pressed image entries 0 0 m;
  only = λ image m entries. only image entries 0 0 m;
  calls = λ image m entries.
      let c = counted image entries 0 0 m in
      let same : c.count ≡ (play_from image 0 0 m entries).entries = omega (arith, c.number) in
      c.machine ∙ ap (λ (k : ℕ). leaves_all image (calls_of (take k entries)) m) same;
}
