-- The ends of long displacements, and the places where the manual misleads (document 01, "The opcode map").
use Rattle.std.specs.Prelude.{ℕ, ◌-◌, ◌≡◌, true, false, List, [], ◌∷◌, ◌++◌, pos, negsuc, length, replicate, Some}
use Rattle.isa.specs.Refusals.{done}
use Rattle.isa.specs.Displacement.{long_displacement}
use Rattle.isa.specs.Map.{form_of}
use Rattle.isa.specs.Decode.{instruction, decode_in}
use Rattle.isa.specs.ControlFlow.{flow_of}
use Rattle.isa.specs.declared.Operand.TheVariants.{Direct}
use Rattle.isa.specs.declared.Instruction.{Instruction}
use Rattle.isa.specs.declared.Instruction.TheVariants as I
use Rattle.isa.specs.declared.Condition.TheVariants.{Zero, Bit}
use Rattle.isa.specs.declared.Flow.{Flow}
use Rattle.isa.specs.declared.Flow.TheVariants as flow

-- a 4K image that holds the bytes at an address, and 0 elsewhere
abbrev pub placed : ℕ → List ℕ → List ℕ
placed a bs = replicate a 0 ++ (bs ++ replicate (4096 - a - length bs) 0)

-- the bytes at an address decode to an instruction with its length and cycles, whatever the bank byte, and it may
-- continue so
abbrev pub Decodes : ℕ → List ℕ → Instruction → ℕ → ℕ → Flow → Type 0
Decodes a bs i n cycles f =
    ((bank : ℕ) → decode_in (placed a bs) bank a ≡ done (instruction i n cycles)) × (flow_of i a ≡ f)

-- "The long one is a signed byte counted from the opcode plus 2, by the manual's range −126 to +129."
-- proved by decoding_cases, proofs/Cases
pub record LongEnds : Type 0 where
  pub farthest :
      Decodes 0x200 (0x03 ∷ 0x00 ∷ 0x7F ∷ []) (I.Jrr 0 0x00 (pos 127)) 3 5 (flow.Branch (Bit 0x00 0 false) 0x281)
  pub farthest_back :
      Decodes 0x200 (0x03 ∷ 0x00 ∷ 0x80 ∷ []) (I.Jrr 0 0x00 (negsuc 127)) 3 5 (flow.Branch (Bit 0x00 0 false) 0x182)

-- "The opcode map's scan shows RET at both 4Dh and CDh: 4Dh is RETI."
-- proved by decoding_cases, proofs/Cases
pub record ReturnOpcodes : Type 0 where
  pub of_interrupt : Decodes 0x100 (0x4D ∷ []) I.Reti 1 2 flow.ReturnFromInterrupt
  pub of_subroutine : Decodes 0x100 (0xCD ∷ []) I.Ret 1 2 flow.Return

-- "A bit number is the opcode's top three bits reversed: 23h tests bit 4."
-- proved by decoding_cases, proofs/Cases
abbrev pub TestedBit : Type 0
TestedBit = (first second : ℕ) → form_of 0x23 first second ≡ Some (I.Jrr 4 first (long_displacement second))

-- "NOP is 04h, a JRZ to the next address. CLR A is DF FF, SLA A is 5F FF, and CLR of a data address is an LDI of 0.
-- None of these four, NOP included, is a form of its own."
-- proved by decoding_cases, proofs/Cases
pub record NoFormsOfTheirOwn : Type 0 where
  pub nop : Decodes 0x100 (0x04 ∷ []) (I.Jrz (pos 0)) 1 2 (flow.Branch (Zero true) 0x101)
  pub clear_a : Decodes 0x100 (0xDF ∷ 0xFF ∷ []) (I.Sub (Direct 0xFF)) 2 4 flow.Next
  pub shift_a : Decodes 0x100 (0x5F ∷ 0xFF ∷ []) (I.Add (Direct 0xFF)) 2 4 flow.Next
  pub clear : (d : ℕ) → Decodes 0x100 (0x0D ∷ d ∷ 0x00 ∷ []) (I.LoadImmediate d 0x00) 3 4 flow.Next

-- all of them; P7 to P10 stand in the one table of bench cases
-- proved by decoding_cases, proofs/Cases
pub record DecodingCases : Type 0 where
  pub long_ends : LongEnds
  pub return_opcodes : ReturnOpcodes
  pub tested_bit : TestedBit
  pub no_forms_of_their_own : NoFormsOfTheirOwn
