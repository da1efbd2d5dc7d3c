-- When a step, a run, a host store and a reading are refused or stop, and with which number (document 01, "What each
-- operation turns down"). "The first that applies is given, and never where it doesn't apply."
use Rattle.std.specs.Prelude.{ℕ, ◌≤◌, ◌<◌, ◌≡◌, true, false, List, length, get_or, Some, None}
use Rattle.isa.specs.Refusals.{Numbered, plain, located, Answer, done, refused}
use Rattle.isa.specs.Sources.{names_only_sources}
use Rattle.isa.specs.Rom.{is_image}
use Rattle.isa.specs.Decode.{decode_at}
use Rattle.isa.specs.Decode as decode
use Rattle.isa.specs.declared.Instruction.{Instruction}
use Rattle.isa.specs.declared.Instruction.TheVariants as I
use Rattle.isa.specs.declared.Source.{Source}
use Rattle.data.specs.Space.{program_of, read_of, origin_of}
use Rattle.control.specs.Modes.{is_reset}
use Rattle.control.specs.Requests.{requested_of}
use Rattle.machine.specs.declared.Machine.{Machine}
use Rattle.machine.specs.State.{is_well_formed, with_byte, host_stored, host_store_of}
use Rattle.machine.specs.Advance.{refused_of}
use Rattle.machine.specs.Actions.{enabled_of}
use Rattle.machine.specs.Step.{step_of}
use Rattle.machine.specs.Steps.{steps_of}
use Rattle.machine.specs.Run.{refused_run, run_of}
use Rattle.machine.specs.Reading.{reading_as, reading_of}

-- the request that a step takes
abbrev pub Takes : Machine → (request : ℕ) → Source → Type 0
Takes m request source = requested_of m.control.mode (enabled_of m.bytes) request ≡ Some source

abbrev pub TakesNone : Machine → (request : ℕ) → Type 0
TakesNone m request = requested_of m.control.mode (enabled_of m.bytes) request ≡ None

-- the instruction at PC, with its bytes and cycles
abbrev pub AtPc : (image : List ℕ) → Machine → Instruction → (bytes cycles : ℕ) → Type 0
AtPc image m i bytes cycles = decode_at image m.control.pc ≡ done (decode.instruction i bytes cycles)

-- "then the stops: 6 request taken on six levels; 4 and 5 as in decoding; 6 CALL on six levels; 7 pop on an empty
-- stack, save as said for RETI", each with PC
pub data StepStops (image : List ℕ) (m : Machine) (request : ℕ) : Numbered → Type 0 where
  request_full :
      (source : Source) → Takes m request source → m.control.levels ≡ 6 →
      StepStops image m request (located 6 m.control.pc)
  undecoded :
      (r : Numbered) → TakesNone m request → m.control.asleep ≡ false → decode_at image m.control.pc ≡ refused r →
      StepStops image m request r
  call_full :
      (to bytes cycles : ℕ) → TakesNone m request → m.control.asleep ≡ false → AtPc image m (I.Call to) bytes cycles →
      m.control.levels ≡ 6 → StepStops image m request (located 6 m.control.pc)
  ret_empty :
      (bytes cycles : ℕ) → TakesNone m request → m.control.asleep ≡ false → AtPc image m I.Ret bytes cycles →
      m.control.levels ≡ 0 → StepStops image m request (located 7 m.control.pc)
  reti_empty :
      (bytes cycles : ℕ) → TakesNone m request → m.control.asleep ≡ false → AtPc image m I.Reti bytes cycles →
      m.control.levels ≡ 0 → is_reset m.control.mode ≡ false →
      StepStops image m request (located 7 m.control.pc)

-- "Step: 1, 2, 11 (bit 5, 6 or 7 set in a request byte), then the stops"
pub data StepRefused (image : List ℕ) (m : Machine) (request : ℕ) : Numbered → Type 0 where
  image_length : is_image (length image) ≡ false → StepRefused image m request (plain 1)
  ill_formed : is_image (length image) ≡ true → is_well_formed m ≡ false → StepRefused image m request (plain 2)
  unknown_source :
      is_image (length image) ≡ true → is_well_formed m ≡ true → names_only_sources request ≡ false →
      StepRefused image m request (plain 11)
  stops :
      (r : Numbered) → is_image (length image) ≡ true → is_well_formed m ≡ true → names_only_sources request ≡ true →
      StepStops (program_of image m.bytes) m request r → StepRefused image m request r

-- the answer is done, in so many cycles
pub record DoneIn (a : Answer ℕ) : Type 0 where
  pub cycles : ℕ
  pub is : a ≡ done cycles

-- a step is refused in these cases, and leaves the machine as it was; only in these; and else it is done
-- proved by step_refusals, proofs/Refusals
pub record StepRefusals : Type 0 where
  pub given :
      (image : List ℕ) (m : Machine) (request : ℕ) (r : Numbered) → StepRefused image m request r →
      step_of image m request ≡ refused_of m r
  pub only :
      (image : List ℕ) (m : Machine) (request : ℕ) (r : Numbered) → (step_of image m request).answer ≡ refused r →
      StepRefused image m request r
  pub done_else :
      (image : List ℕ) (m : Machine) (request : ℕ) → ((r : Numbered) → StepRefused image m request r → ⊥) →
      DoneIn (step_of image m request).answer

-- "Run: 1, 2, 12 (more than 65,535 steps), 11 among the list's first n bytes"; past its end the byte is 0
pub data RunRefused (image : List ℕ) (m : Machine) (requests : List ℕ) (n : ℕ) : Numbered → Type 0 where
  image_length : is_image (length image) ≡ false → RunRefused image m requests n (plain 1)
  ill_formed : is_image (length image) ≡ true → is_well_formed m ≡ false → RunRefused image m requests n (plain 2)
  step_count :
      is_image (length image) ≡ true → is_well_formed m ≡ true → 65535 < n → RunRefused image m requests n (plain 12)
  unknown_source :
      (k : ℕ) → is_image (length image) ≡ true → is_well_formed m ≡ true → n ≤ 65535 → k < n →
      names_only_sources (get_or requests k 0) ≡ false → RunRefused image m requests n (plain 11)

-- a run is refused in these cases: "these report 0 steps, 0 cycles", and leave the machine as it was; else it is n
-- single steps
-- proved by run_refusals, proofs/Refusals
pub record RunRefusals : Type 0 where
  pub given :
      (image : List ℕ) (m : Machine) (requests : List ℕ) (n : ℕ) (r : Numbered) → RunRefused image m requests n r →
      run_of image m requests n ≡ refused_run m r
  pub steps_else :
      (image : List ℕ) (m : Machine) (requests : List ℕ) (n : ℕ) →
      ((r : Numbered) → RunRefused image m requests n r → ⊥) →
      run_of image m requests n ≡ steps_of image requests m n

-- "Host store: 2 ill-formed machine [..]; 10 address in 40h–7Fh"
pub data StoreRefused (m : Machine) (a : ℕ) : Numbered → Type 0 where
  ill_formed : is_well_formed m ≡ false → StoreRefused m a (plain 2)
  window_address : is_well_formed m ≡ true → 0x40 ≤ a → a < 0x80 → StoreRefused m a (plain 10)

-- a host store is refused in these cases, and leaves the machine as it was; else the byte is stored
-- proved by store_refusals, proofs/Refusals
pub record StoreRefusals : Type 0 where
  pub given :
      (m : Machine) (a value : ℕ) (r : Numbered) → StoreRefused m a r → host_store_of m a value ≡ host_stored m (refused r)
  pub done_else :
      (m : Machine) (a value : ℕ) → ((r : Numbered) → StoreRefused m a r → ⊥) →
      host_store_of m a value ≡ host_stored (with_byte m a value) (done tt)

-- document 02, W-203: "The reading refuses with 1, then 2."
pub data ReadingRefused (image : List ℕ) (m : Machine) : Numbered → Type 0 where
  image_length : is_image (length image) ≡ false → ReadingRefused image m (plain 1)
  ill_formed : is_image (length image) ≡ true → is_well_formed m ≡ false → ReadingRefused image m (plain 2)

-- a reading is refused in these cases; else it is the byte with its origin
-- proved by reading_refusals, proofs/Refusals
pub record ReadingRefusals : Type 0 where
  pub given :
      (image : List ℕ) (m : Machine) (a : ℕ) (r : Numbered) → ReadingRefused image m r →
      reading_of image m a ≡ refused r
  pub done_else :
      (image : List ℕ) (m : Machine) (a : ℕ) → ((r : Numbered) → ReadingRefused image m r → ⊥) →
      reading_of image m a ≡ done
      (reading_as (read_of (program_of image m.bytes) m.bytes a) (origin_of (program_of image m.bytes) m.bytes a))
