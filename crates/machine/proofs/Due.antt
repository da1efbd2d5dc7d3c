-- What a step is about to do: the one walk through its definition. Later laws go by the cases of `Due`.
use Prim.Native.Nat.{ℕ}
use mathlib.Core.Path.{◌≡◌, refl}
use mathlib.Core.Bool.{Bool, true, false, cond}
use mathlib.Core.List.{List}
use lib.ListN.{length}
use Rattle.std.specs.Prelude.{Option, Some, None}
use Rattle.isa.specs.Refusals.{Numbered, plain, Answer, done, refused, unless}
use Rattle.isa.specs.Sources.{names_only_sources}
use Rattle.isa.specs.Rom.{is_image}
use Rattle.isa.specs.Decode.{decode_at}
use Rattle.isa.specs.Decode as decode
use Rattle.isa.specs.declared.Instruction.{Instruction}
use Rattle.isa.specs.declared.Source.{Source}
use Rattle.data.specs.Space.{program_of}
use Rattle.control.specs.Requests.{requested_of}
use Rattle.machine.specs.declared.Machine.{Machine}
use Rattle.machine.specs.State.{is_well_formed}
use Rattle.machine.specs.Actions.{
  StepAction,
  takes,
  idles,
  executes,
  refuses,
  enabled_of,
  decoded_action,
  unrequested_action,
  requested_action,
  due_of,
  action_of,
}
use Rattle.machine.specs.Refusals.{
  Takes,
  TakesNone,
  AtPc,
  StepRefused,
  image_length,
  ill_formed,
  unknown_source,
}

-- an action with why it is due
pub data Due (image : List ℕ) (m : Machine) (request : ℕ) : StepAction → Type 0 where
  taking : (source : Source) → Takes m request source → Due image m request (takes source)
  idling : TakesNone m request → m.control.asleep ≡ true → Due image m request idles
  executing :
      (i : Instruction) (bytes cycles : ℕ) → TakesNone m request → m.control.asleep ≡ false →
      AtPc image m i bytes cycles → Due image m request (executes i bytes cycles)
  undecoding :
      (r : Numbered) → TakesNone m request → m.control.asleep ≡ false → decode_at image m.control.pc ≡ refused r →
      Due image m request (refuses r)

module _ (image : List ℕ) (m : Machine) (request : ℕ) where
  -- each in its case
  pub takes_due : (source : Source) → Takes m request source → due_of image m request ≡ takes source
  unfolding due_of
  takes_due source e = rw e

  pub idles_due : TakesNone m request → m.control.asleep ≡ true → due_of image m request ≡ idles
  unfolding due_of unrequested_action
  idles_due none asleep = rw (none, asleep)

  pub awake_due :
      TakesNone m request → m.control.asleep ≡ false → (a : Answer decode.Decoding) →
      decode_at image m.control.pc ≡ a → due_of image m request ≡ decoded_action a
  unfolding due_of unrequested_action
  awake_due none awake a at = rw (none, awake, at)

  -- and no other
  decoded :
      TakesNone m request → m.control.asleep ≡ false → (a : Answer decode.Decoding) →
      decode_at image m.control.pc ≡ a → Due image m request (decoded_action a)
  decoded none awake (done (decode.instruction i bytes cycles)) e = executing i bytes cycles none awake e
  decoded none awake (refused r) e = undecoding r none awake e

  unrequested :
      TakesNone m request → (asleep : Bool) → m.control.asleep ≡ asleep →
      Due image m request (cond asleep idles (decoded_action (decode_at image m.control.pc)))
  unrequested none true e = idling none e
  unrequested none false e = decoded none e (decode_at image m.control.pc) refl

  requested :
      (r : Option Source) → requested_of m.control.mode (enabled_of m.bytes) request ≡ r →
      Due image m request (requested_action image m.control r)
  unfolding unrequested_action
  requested (Some source) e = taking source e
  requested None e = unrequested e m.control.asleep refl

  pub is_due : Due image m request (due_of image m request)
  unfolding due_of
  is_due = requested (requested_of m.control.mode (enabled_of m.bytes) request) refl

-- an action: refused for one of three reasons, or due
pub data ActionTested (image : List ℕ) (m : Machine) (request : ℕ) : StepAction → Type 0 where
  refusing : (r : Numbered) → StepRefused image m request r → ActionTested image m request (refuses r)
  passing :
      is_image (length image) ≡ true → is_well_formed m ≡ true → names_only_sources request ≡ true →
      ActionTested image m request (due_of (program_of image m.bytes) m request)

module _ (image : List ℕ) (m : Machine) (request : ℕ) where
  pub is_tested : ActionTested image m request (action_of image m request)
  unfolding action_of
  is_tested = by_tests (is_image (length image)) refl (is_well_formed m) refl (names_only_sources request) refl
    where
      by_tests :
          (i : Bool) → is_image (length image) ≡ i → (w : Bool) → is_well_formed m ≡ w → (n : Bool) →
          names_only_sources request ≡ n →
          ActionTested image m request
          (unless i (refuses (plain 1))
          (unless w (refuses (plain 2))
          (unless n (refuses (plain 11)) (due_of (program_of image m.bytes) m request))))
      by_tests false e w f n g = refusing (plain 1) (image_length e)
      by_tests true e false f n g = refusing (plain 2) (ill_formed e f)
      by_tests true e true f false g = refusing (plain 11) (unknown_source e f g)
      by_tests true e true f true g = passing e f g

  pub action_due :
      is_image (length image) ≡ true → is_well_formed m ≡ true → names_only_sources request ≡ true →
      action_of image m request ≡ due_of (program_of image m.bytes) m request
  unfolding action_of
  action_due i w n = rw (i, w, n)
