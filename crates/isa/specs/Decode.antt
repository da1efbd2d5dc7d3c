-- Decoding at a program address of an image (document 01, "Program space and data space" and "Decode at an address").
use Rattle.std.specs.Prelude.{ℕ, cond, List, ltb, length, Option, Some, None, Result, Ok, Err}
use Rattle.isa.specs.Refusals.{plain, located, numbered, Answer, done, refused}
use Rattle.isa.specs.Rom.{is_space, is_image, space_of, rom_at, operand_at}
use Rattle.isa.specs.Table.{bytes_of, cycles_of}
use Rattle.isa.specs.Map.{entry_of, form_of}
use Rattle.isa.specs.declared.Instruction.{Instruction}
use Rattle.isa.specs.declared.Decoded.{Decoded}
use Rattle.isa.specs.declared.Refusal.{Refusal}

-- what decoding answers where it does not refuse: an instruction with its length and its cycles
pub data Decoding : Type 0 where
  instruction : Instruction → (length cycles : ℕ) → Decoding

-- the program's answer by document 01's numbers
abbrev pub answer_of : Result Decoded Refusal → Answer Decoding
answer_of (Ok d) = done (instruction d.instruction d.length d.cycles)
answer_of (Err r) = refused (numbered r)

-- "5 undefined opcode"
abbrev pub with_form : ℕ → ℕ → Option Instruction → Answer Decoding
with_form address opcode (Some i) = done (instruction i (bytes_of (entry_of opcode)) (cycles_of (entry_of opcode)))
with_form address opcode None = refused (located 5 address)

-- "4 operand byte outside ROM". An undefined opcode has no operand bytes, so that 5 comes before this 4
abbrev pub with_second : ℕ → ℕ → ℕ → Option ℕ → Answer Decoding
with_second address opcode first (Some second) = with_form address opcode (form_of opcode first second)
with_second address opcode first None = refused (located 4 address)

abbrev pub with_first : List ℕ → ℕ → ℕ → Option ℕ → Answer Decoding
with_first image address opcode (Some first) =
    with_second address opcode first (operand_at image address 2 (bytes_of (entry_of opcode)))
with_first image address opcode None = refused (located 4 address)

-- "4 opcode byte outside ROM"
abbrev pub with_opcode : List ℕ → ℕ → Option ℕ → Answer Decoding
with_opcode image address (Some opcode) =
    with_first image address opcode (operand_at image address 1 (bytes_of (entry_of opcode)))
with_opcode image address None = refused (located 4 address)

-- "4 opcode byte outside ROM; 5 undefined opcode; 4 operand byte outside ROM": what stands at an address of program
-- space
abbrev pub decode_of : List ℕ → ℕ → Answer Decoding
decode_of image address = with_opcode image address (rom_at image address)

-- what decoding makes of an instruction's bytes: the opcode and the two bytes that follow
abbrev pub code_as : ℕ → Option (ℕ × ℕ × ℕ) → Answer Decoding
code_as address (Some bytes) = with_form address bytes.0 (form_of bytes.0 bytes.1 bytes.2)
code_as address None = refused (located 4 address)

-- "Decode at an address: 1 image length; 3 address above FFFh", of program space as it stands
unfoldable pub decode_at : List ℕ → ℕ → Answer Decoding
decode_at image address =
    cond (is_space (length image))
    (cond (ltb address 4096) (decode_of image address) (refused (plain 3)))
    (refused (plain 1))

-- "Decoding at an address takes the bank byte too."
unfoldable pub decode_in : (image : List ℕ) → (bank address : ℕ) → Answer Decoding
decode_in image bank address = cond (is_image (length image)) (decode_at (space_of image bank) address) (refused (plain 1))
