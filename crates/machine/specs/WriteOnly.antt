-- What holds of 0C8h and 0C9h, which a program can't read (document 02, W-204).
use Rattle.std.specs.Prelude.{ℕ, ◌+◌, ◌-◌, ◌*◌, ◌%◌, ◌≤◌, ◌<◌, ◌≡◌, true, false, List, length, get_or, set, Some}
use Rattle.alu.specs.Alu.{bit_of, weight_of}
use Rattle.isa.specs.Refusals.{done}
use Rattle.isa.specs.Sources.{names_only_sources}
use Rattle.isa.specs.Rom.{is_image, rom_at}
use Rattle.isa.specs.declared.Operand.{Operand}
use Rattle.isa.specs.declared.Instruction.{Instruction}
use Rattle.isa.specs.declared.Instruction.TheVariants as I
use Rattle.data.specs.declared.Origin.TheVariants.{Register}
use Rattle.data.specs.Space.{program_of, is_write_only, shown_of, held_of, read_of, store_of, address_of, operand_of}
use Rattle.data.specs.Reads.{operand_read_of}
use Rattle.control.specs.Requests.{requested_of}
use Rattle.machine.specs.declared.Machine.{Machine}
use Rattle.machine.specs.State.{is_well_formed, with_byte}
use Rattle.machine.specs.Step.{requested_action, acted_of, step_of}
use Rattle.machine.specs.Reading.{reading_as, reading_of}
use Rattle.machine.specs.OriginTold.{Executes, StepsAlike}

-- 0C8h and 0C9h, in every image and machine
-- proved by write_only, proofs/WriteOnly
pub record WriteOnly : Type 0 where
  -- "a program's read of either gives 0"
  pub reads : (image : List ℕ) (m : Machine) (a : ℕ) → is_write_only a ≡ true → read_of image m.bytes a ≡ 0
  -- .. by every route: as an operand, direct or through X or Y
  pub operands :
      (image : List ℕ) (m : Machine) (o : Operand) → is_write_only (address_of m.bytes o) ≡ true →
      operand_of image m.bytes o ≡ 0
  -- .. and in every instruction that reads: two steps that come to one whose operand is either are alike, whatever byte
  -- is stored there. (With another byte at 0C8h a request may be taken; then the step does not come to it.)
  pub unseen :
      (image : List ℕ) (m : Machine) (request : ℕ) (i : Instruction) (bytes cycles : ℕ) (o : Operand) (value : ℕ) →
      operand_read_of i ≡ Some o → is_write_only (address_of m.bytes o) ≡ true →
      Executes image m request i bytes cycles →
      Executes image (with_byte m (address_of m.bytes o) value) request i bytes cycles →
      StepsAlike m (with_byte m (address_of m.bytes o) value) (step_of image m request)
      (step_of image (with_byte m (address_of m.bytes o) value) request)
  -- "and so does W-203's reading"; the origin stays a register
  pub reading :
      (image : List ℕ) (m : Machine) (a : ℕ) → is_write_only a ≡ true → is_image (length image) ≡ true →
      is_well_formed m ≡ true → reading_of image m a ≡ done (reading_as 0 Register)
  -- every other address reads as before
  pub others :
      (image : List ℕ) (m : Machine) (a : ℕ) → is_write_only a ≡ false →
      read_of image m.bytes a ≡ held_of image m.bytes a
  -- a store puts its byte there, as before
  pub stores :
      (m : Machine) (a value : ℕ) → is_write_only a ≡ true → store_of m.bytes a value ≡ set m.bytes a value
  -- "The stored bytes still drive the enable": which request a step takes goes by bit 4 of the byte stored at 0C8h
  pub enable :
      (image : List ℕ) (m : Machine) (request : ℕ) → is_image (length image) ≡ true → is_well_formed m ≡ true →
      names_only_sources request ≡ true →
      step_of image m request
      ≡ acted_of (program_of image m.bytes) m
      (requested_action (program_of image m.bytes) m.control
      (requested_of m.control.mode (bit_of (get_or m.bytes 0xC8 0) 4) request))
  -- ".. and the window": what it shows goes by the low six bits of the byte stored at 0C9h
  pub window :
      (image : List ℕ) (m : Machine) (a : ℕ) → 0x40 ≤ a → a < 0x80 →
      read_of image m.bytes a ≡ shown_of (rom_at image (64 * (get_or m.bytes 0xC9 0 % 64) + (a - 0x40)))

-- the instructions that change what they read and store it again, each with what it stores at an address a that reads 0:
-- bit n alone, nothing, 0 and 1, 0 less 1 modulo 256
pub data FromZero (bytes : List ℕ) (a : ℕ) : Instruction → (value : ℕ) → Type 0 where
  set_bit : (n : ℕ) → FromZero bytes a (I.Set n a) (weight_of n)
  reset_bit : (n : ℕ) → FromZero bytes a (I.Res n a) 0
  increment : (o : Operand) → address_of bytes o ≡ a → FromZero bytes a (I.Inc o) 1
  decrement : (o : Operand) → address_of bytes o ≡ a → FromZero bytes a (I.Dec o) 0xFF

-- what SET, RES, INC and DEC store at 0C8h and 0C9h
-- proved by stores_from_zero, proofs/WriteOnly
pub record StoresFromZero : Type 0 where
  -- "so SET 4,0C8h stores 10h whatever was there"
  pub example :
      (image : List ℕ) (m : Machine) (request bytes cycles : ℕ) → Executes image m request (I.Set 4 0xC8) bytes cycles →
      (step_of image m request).machine.bytes ≡ set m.bytes 0xC8 0x10
  -- with its kin, at both registers, INC and DEC through X or Y too: a step that comes to one of them stores a byte that
  -- does not depend on what was there, and changes no other
  pub kin :
      (image : List ℕ) (m : Machine) (request : ℕ) (i : Instruction) (bytes cycles a value : ℕ) →
      Executes image m request i bytes cycles → is_write_only a ≡ true → FromZero m.bytes a i value →
      (step_of image m request).machine.bytes ≡ set m.bytes a value
