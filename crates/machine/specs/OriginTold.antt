-- What holds of the origin that a step tells and of the reading (document 02, W-203): the byte told of is the byte that
-- the instruction used.
use Rattle.std.specs.Prelude.{ℕ, ◌≡◌, true, false, List, length, get_or, ℤ, Some, None}
use Rattle.isa.specs.Refusals.{done}
use Rattle.isa.specs.Sources.{names_only_sources}
use Rattle.isa.specs.Rom.{is_image}
use Rattle.isa.specs.declared.Instruction.{Instruction}
use Rattle.isa.specs.declared.Instruction.TheVariants as I
use Rattle.isa.specs.declared.Operand.{Operand}
use Rattle.isa.specs.declared.Operand.TheVariants.{Direct, Short, ThroughX, ThroughY}
use Rattle.isa.specs.Encode.{encode_of}
use Rattle.data.specs.declared.Origin.{Origin}
use Rattle.data.specs.Space.{program_of, read_of, store_of, address_of}
use Rattle.data.specs.Effect.{accumulator_of}
use Rattle.data.specs.Reads.{operand_read_of}
use Rattle.data.specs.Laws.{ComesFrom}
use Rattle.machine.specs.declared.Machine.{Machine}
use Rattle.machine.specs.State.{is_well_formed, with_byte}
use Rattle.machine.specs.Step.{Step, step_of}
use Rattle.machine.specs.Refusals.{TakesNone, AtPc}
use Rattle.machine.specs.Reading.{reading_as, reading_of}
use Rattle.machine.specs.Operands.{step_read_of}

-- a step comes to the instruction at PC: it is not refused, takes no request and is awake
pub record Executes (image : List ℕ) (m : Machine) (request : ℕ) (i : Instruction) (bytes cycles : ℕ) : Type 0 where
  pub image_length : is_image (length image) ≡ true
  pub formed : is_well_formed m ≡ true
  pub sources : names_only_sources request ≡ true
  pub none_taken : TakesNone m request
  pub awake : m.control.asleep ≡ false
  pub at_pc : AtPc (program_of image m.bytes) m i bytes cycles

-- a step is done, and tells the origin that the reading gives at a data address of the machine before it, from which the
-- byte there comes
pub record TellsOf (image : List ℕ) (m : Machine) (request cycles a : ℕ) : Type 0 where
  pub completed : (step_of image m request).answer ≡ done cycles
  pub byte : ℕ
  pub origin : Origin
  pub reading : reading_of image m a ≡ done (reading_as byte origin)
  pub comes : ComesFrom (program_of image m.bytes) m.bytes a byte origin
  pub told : step_read_of image m request ≡ Some origin

-- a step completes an instruction that reads
pub record Reads (image : List ℕ) (m : Machine) (request : ℕ) : Type 0 where
  pub i : Instruction
  pub bytes : ℕ
  pub cycles : ℕ
  pub o : Operand
  pub executes : Executes image m request i bytes cycles
  pub reads : operand_read_of i ≡ Some o
  pub completed : (step_of image m request).answer ≡ done cycles

-- of the instructions that read, these use A too
pub data UsesA : Instruction → Type 0 where
  add : (o : Operand) → UsesA (I.Add o)
  sub : (o : Operand) → UsesA (I.Sub o)
  and : (o : Operand) → UsesA (I.And o)
  cp : (o : Operand) → UsesA (I.Cp o)

-- two machines, each with its image, agree on all that an instruction which reads the operand o uses: control, stack and
-- flags, A where it uses that, where the operand stands, and the byte that is read there
pub record AgreeOn (image : List ℕ) (m : Machine) (image' : List ℕ) (m' : Machine) (i : Instruction) (o : Operand) :
    Type 0 where
  pub control : m.control ≡ m'.control
  pub stack : m.stack ≡ m'.stack
  pub flags : m.flags ≡ m'.flags
  pub accumulator : UsesA i → accumulator_of m.bytes ≡ accumulator_of m'.bytes
  pub address : address_of m.bytes o ≡ address_of m'.bytes o
  pub byte :
      read_of (program_of image m.bytes) m.bytes (address_of m.bytes o)
      ≡ read_of (program_of image' m'.bytes) m'.bytes (address_of m'.bytes o)

-- two machines agree on all that an instruction which reads no data operand can use: control, stack and flags, A, and
-- the pointers X and Y
pub record AgreeApart (m m' : Machine) : Type 0 where
  pub control : m.control ≡ m'.control
  pub stack : m.stack ≡ m'.stack
  pub flags : m.flags ≡ m'.flags
  pub accumulator : accumulator_of m.bytes ≡ accumulator_of m'.bytes
  pub x : get_or m.bytes 0x80 0 ≡ get_or m'.bytes 0x80 0
  pub y : get_or m.bytes 0x81 0 ≡ get_or m'.bytes 0x81 0

-- what an instruction stores in data space: nothing, or one byte
pub data Storing : Type 0 where
  nothing : Storing
  byte : (a value : ℕ) → Storing

abbrev pub stored_by : Storing → (bytes : List ℕ) → List ℕ
stored_by nothing bytes = bytes
stored_by (byte a value) bytes = store_of bytes a value

-- two steps are alike: the same answer, control, stack and flags, and the same byte stored at the same address
pub record StepsAlike (m m' : Machine) (s s' : Step) : Type 0 where
  pub answer : s.answer ≡ s'.answer
  pub control : s.machine.control ≡ s'.machine.control
  pub stack : s.machine.stack ≡ s'.machine.stack
  pub flags : s.machine.flags ≡ s'.machine.flags
  pub stores : Storing
  pub first : s.machine.bytes ≡ stored_by stores m.bytes
  pub second : s'.machine.bytes ≡ stored_by stores m'.bytes

-- two data operands of one kind
pub data SameKind : Operand → Operand → Type 0 where
  direct : (a b : ℕ) → SameKind (Direct a) (Direct b)
  short : (n k : ℕ) → SameKind (Short n) (Short k)
  through_x : SameKind ThroughX ThroughX
  through_y : SameKind ThroughY ThroughY

-- two instructions of one form, of those with a data operand, read or not, and with operands of one kind
pub data SameForm : Instruction → Instruction → Type 0 where
  loads : (o p : Operand) → SameKind o p → SameForm (I.LoadA o) (I.LoadA p)
  stores : (o p : Operand) → SameKind o p → SameForm (I.StoreA o) (I.StoreA p)
  stores_immediate : (a b v w : ℕ) → SameForm (I.LoadImmediate a v) (I.LoadImmediate b w)
  increments : (o p : Operand) → SameKind o p → SameForm (I.Inc o) (I.Inc p)
  decrements : (o p : Operand) → SameKind o p → SameForm (I.Dec o) (I.Dec p)
  adds : (o p : Operand) → SameKind o p → SameForm (I.Add o) (I.Add p)
  subtracts : (o p : Operand) → SameKind o p → SameForm (I.Sub o) (I.Sub p)
  ands : (o p : Operand) → SameKind o p → SameForm (I.And o) (I.And p)
  compares : (o p : Operand) → SameKind o p → SameForm (I.Cp o) (I.Cp p)
  sets : (n k a b : ℕ) → SameForm (I.Set n a) (I.Set k b)
  resets : (n k a b : ℕ) → SameForm (I.Res n a) (I.Res k b)
  jumps_reset : (n k a b : ℕ) (d e : ℤ) → SameForm (I.Jrr n a d) (I.Jrr k b e)
  jumps_set : (n k a b : ℕ) (d e : ℤ) → SameForm (I.Jrs n a d) (I.Jrs k b e)

-- the byte that an instruction of this form is told to read matters: two machines that differ in it alone come to the
-- instruction, and do not step alike
pub record Matters (i : Instruction) : Type 0 where
  pub like : Instruction
  pub same_form : SameForm i like
  pub o : Operand
  pub reads : operand_read_of like ≡ Some o
  pub image : List ℕ
  pub m : Machine
  pub value : ℕ
  pub bytes : ℕ
  pub cycles : ℕ
  pub first : Executes image m 0 like bytes cycles
  pub second : Executes image (with_byte m (address_of m.bytes o) value) 0 like bytes cycles
  pub differ :
      StepsAlike m (with_byte m (address_of m.bytes o) value) (step_of image m 0)
      (step_of image (with_byte m (address_of m.bytes o) value) 0) →
      ⊥

-- "Each step tells the origin of the data operand it read, or that it read none"
-- proved by origin_told, proofs/OriginTold
pub record OriginTold : Type 0 where
  -- a step that comes to an instruction which reads is done, and tells the origin that the reading gives at the
  -- operand's address on the machine before the step
  pub told :
      (image : List ℕ) (m : Machine) (request : ℕ) (i : Instruction) (bytes cycles : ℕ) (o : Operand) →
      Executes image m request i bytes cycles → operand_read_of i ≡ Some o →
      TellsOf image m request cycles (address_of m.bytes o)
  -- and no other step tells one: not one that is refused or stops, takes a request, is idle or does not read
  pub only :
      (image : List ℕ) (m : Machine) (request : ℕ) (origin : Origin) → step_read_of image m request ≡ Some origin →
      Reads image m request
  -- the byte told of is the one used: machines and images that agree on it, and on all else that the instruction uses,
  -- step alike, whatever the rest of them holds
  pub used :
      (image : List ℕ) (m : Machine) (image' : List ℕ) (m' : Machine) (request request' : ℕ) (i : Instruction)
      (bytes cycles : ℕ) (o : Operand) →
      Executes image m request i bytes cycles → Executes image' m' request' i bytes cycles →
      operand_read_of i ≡ Some o → AgreeOn image m image' m' i o →
      StepsAlike m m' (step_of image m request) (step_of image' m' request')
  -- .. and it is used, not just written or passed by: so for each form of an instruction that can be written, and each
  -- kind of its operand. LDI told as reading would have no such machines
  pub matters :
      (i : Instruction) (o : Operand) → (encode_of i ≡ None → ⊥) → operand_read_of i ≡ Some o → Matters i
  -- and where an instruction reads none, no other byte of data space and nothing that the ROM window shows is used:
  -- machines that agree on A, X and Y, and on control, stack and flags, step alike
  pub unread :
      (image : List ℕ) (m : Machine) (image' : List ℕ) (m' : Machine) (request request' : ℕ) (i : Instruction)
      (bytes cycles : ℕ) →
      Executes image m request i bytes cycles → Executes image' m' request' i bytes cycles →
      operand_read_of i ≡ None → AgreeApart m m' →
      StepsAlike m m' (step_of image m request) (step_of image' m' request')
