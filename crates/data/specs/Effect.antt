-- What each instruction does to data space and to the flag pair in use (the manual's instruction pages; document 01,
-- "Flags by the manual").
use Rattle.std.specs.Prelude.{ℕ, Bool, List, get_or}
use Rattle.alu.specs.declared.Flags.{Flags}
use Rattle.alu.specs.declared.Outcome.{Outcome}
use Rattle.alu.specs.Alu.{
  result_of,
  added_of,
  subtracted_of,
  anded_of,
  complemented_of,
  rotated_of,
  incremented_of,
  decremented_of,
  bit_of,
  with_bit_of,
  without_bit_of,
}
use Rattle.isa.specs.declared.Instruction.{Instruction}
use Rattle.isa.specs.declared.Instruction.TheVariants.{
  Jrnz,
  Jrnc,
  Jrz,
  Jrc,
  Call,
  Jp,
  Jrr,
  Jrs,
  Res,
  Set,
  LoadA,
  StoreA,
  LoadAImmediate,
  LoadImmediate,
  Inc,
  Dec,
  Add,
  AddImmediate,
  Sub,
  SubImmediate,
  And,
  AndImmediate,
  Cp,
  CpImmediate,
  Com,
  Rlc,
  Ret,
  Reti,
  Stop,
  Wait,
}
use Rattle.data.specs.Space.{read_of, store_of, address_of, operand_of}

-- what an instruction sees of the machine: the data bytes, and the flag pair in use
pub record Data : Type 0 where
  pub bytes : List ℕ
  pub flags : Flags

abbrev pub data_of : List ℕ → Flags → Data
data_of bytes flags = record { bytes = bytes; flags = flags }

-- "the accumulator A is FFh"
abbrev pub accumulator_of : List ℕ → ℕ
accumulator_of bytes = get_or bytes 0xFF 0

-- a result is stored, and its flags with it: "Where a store does nothing, flags still follow the result."
unfoldable pub store_result_of : List ℕ → ℕ → Outcome → Data
store_result_of bytes a r = data_of (store_of bytes a r.value) r.flags

-- LD A and LDI A: "LD in either direction sets Z by the byte moved"
abbrev pub load_of : List ℕ → Bool → ℕ → Data
load_of bytes carry v = store_result_of bytes 0xFF (result_of v carry)

-- LD of A to an operand
abbrev pub store_a_of : List ℕ → Bool → ℕ → Data
store_a_of bytes carry a = store_result_of bytes a (result_of (accumulator_of bytes) carry)

-- INC and DEC
abbrev pub increment_of : List ℕ → List ℕ → Bool → ℕ → Data
increment_of image bytes carry a = store_result_of bytes a (incremented_of (read_of image bytes a) carry)

abbrev pub decrement_of : List ℕ → List ℕ → Bool → ℕ → Data
decrement_of image bytes carry a = store_result_of bytes a (decremented_of (read_of image bytes a) carry)

-- ADD, SUB, AND with a source byte, their immediates too
abbrev pub add_of : List ℕ → ℕ → Data
add_of bytes v = store_result_of bytes 0xFF (added_of (accumulator_of bytes) v)

abbrev pub subtract_of : List ℕ → ℕ → Data
subtract_of bytes v = store_result_of bytes 0xFF (subtracted_of (accumulator_of bytes) v)

abbrev pub and_of : List ℕ → Bool → ℕ → Data
and_of bytes carry v = store_result_of bytes 0xFF (anded_of (accumulator_of bytes) v carry)

-- CP and CPI: flags only
abbrev pub compare_of : List ℕ → ℕ → Flags
compare_of bytes v = (subtracted_of (accumulator_of bytes) v).flags

-- COM and RLC, on A
abbrev pub complement_of : List ℕ → Data
complement_of bytes = store_result_of bytes 0xFF (complemented_of (accumulator_of bytes))

abbrev pub rotate_of : List ℕ → Bool → Data
rotate_of bytes carry = store_result_of bytes 0xFF (rotated_of (accumulator_of bytes) carry)

-- "LDI to a data address sets nothing."
abbrev pub store_immediate_of : List ℕ → Flags → ℕ → ℕ → Data
store_immediate_of bytes flags a v = data_of (store_of bytes a v) flags

-- SET and RES set no flag
abbrev pub set_bit_of : List ℕ → List ℕ → Flags → ℕ → ℕ → Data
set_bit_of image bytes flags a n = data_of (store_of bytes a (with_bit_of (read_of image bytes a) n)) flags

abbrev pub reset_bit_of : List ℕ → List ℕ → Flags → ℕ → ℕ → Data
reset_bit_of image bytes flags a n = data_of (store_of bytes a (without_bit_of (read_of image bytes a) n)) flags

-- "JRR and JRS copy the tested bit to C, jump or not."
abbrev pub test_bit_of : List ℕ → List ℕ → Bool → ℕ → ℕ → Flags
test_bit_of image bytes zero a n = record { zero = zero; carry = bit_of (read_of image bytes a) n }

-- an instruction's effect; jumps on a flag, CALL, JP, returns, STOP and WAIT leave data space and flags alone
unfoldable pub effect_of : List ℕ → Data → Instruction → Data
effect_of image d (Jrnz e) = d
effect_of image d (Jrnc e) = d
effect_of image d (Jrz e) = d
effect_of image d (Jrc e) = d
effect_of image d (Call target) = d
effect_of image d (Jp target) = d
effect_of image d (Jrr n a e) = data_of d.bytes (test_bit_of image d.bytes d.flags.zero a n)
effect_of image d (Jrs n a e) = data_of d.bytes (test_bit_of image d.bytes d.flags.zero a n)
effect_of image d (Res n a) = reset_bit_of image d.bytes d.flags a n
effect_of image d (Set n a) = set_bit_of image d.bytes d.flags a n
effect_of image d (LoadA o) = load_of d.bytes d.flags.carry (operand_of image d.bytes o)
effect_of image d (StoreA o) = store_a_of d.bytes d.flags.carry (address_of d.bytes o)
effect_of image d (LoadAImmediate v) = load_of d.bytes d.flags.carry v
effect_of image d (LoadImmediate a v) = store_immediate_of d.bytes d.flags a v
effect_of image d (Inc o) = increment_of image d.bytes d.flags.carry (address_of d.bytes o)
effect_of image d (Dec o) = decrement_of image d.bytes d.flags.carry (address_of d.bytes o)
effect_of image d (Add o) = add_of d.bytes (operand_of image d.bytes o)
effect_of image d (AddImmediate v) = add_of d.bytes v
effect_of image d (Sub o) = subtract_of d.bytes (operand_of image d.bytes o)
effect_of image d (SubImmediate v) = subtract_of d.bytes v
effect_of image d (And o) = and_of d.bytes d.flags.carry (operand_of image d.bytes o)
effect_of image d (AndImmediate v) = and_of d.bytes d.flags.carry v
effect_of image d (Cp o) = data_of d.bytes (compare_of d.bytes (operand_of image d.bytes o))
effect_of image d (CpImmediate v) = data_of d.bytes (compare_of d.bytes v)
effect_of image d Com = complement_of d.bytes
effect_of image d Rlc = rotate_of d.bytes d.flags.carry
effect_of image d Ret = d
effect_of image d Reti = d
effect_of image d Stop = d
effect_of image d Wait = d
