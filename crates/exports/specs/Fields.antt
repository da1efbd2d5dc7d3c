-- An instruction as a row of fields: form, operand kind, value low and high, second value, bit number, displacement;
-- decoding adds length, cycles and a zero.
use Rattle.std.specs.Prelude.{ℕ, ◌+◌, ◌*◌, Bool, cond, ◌&&◌, List, [], ◌∷◌, ◌++◌, length, get_or, eqb, leb, ℤ, Option, Some, None}
use Rattle.isa.specs.Displacement.{modulo, long_displacement}
use Rattle.isa.specs.declared.Operand.{Operand}
use Rattle.isa.specs.declared.Operand.TheVariants.{Direct, Short, ThroughX, ThroughY}
use Rattle.isa.specs.declared.Instruction.{Instruction}
use Rattle.isa.specs.declared.Instruction.TheVariants as I
use Rattle.exports.specs.Every.{every}
use Rattle.exports.specs.States.{low_byte, high_byte}

abbrev pub row_of : (form kind low high second bit displacement : ℕ) → List ℕ
row_of form kind low high second bit displacement = form ∷ kind ∷ low ∷ high ∷ second ∷ bit ∷ displacement ∷ []

abbrev pub bare_row : (form : ℕ) → List ℕ
bare_row form = row_of form 0 0 0 0 0 0

-- a displacement in two's complement
abbrev pub jump_row : (form : ℕ) → ℤ → List ℕ
jump_row form d = row_of form 0 0 0 0 0 (modulo 256 d)

abbrev pub to_row : (form target : ℕ) → List ℕ
to_row form target = row_of form 0 (low_byte target) (high_byte target) 0 0 0

abbrev pub bit_jump_row : (form bit a : ℕ) → ℤ → List ℕ
bit_jump_row form bit a d = row_of form 0 a 0 0 bit (modulo 256 d)

abbrev pub bit_row : (form bit a : ℕ) → List ℕ
bit_row form bit a = row_of form 0 a 0 0 bit 0

abbrev pub immediate_row : (form value second : ℕ) → List ℕ
immediate_row form value second = row_of form 0 value 0 second 0 0

-- kinds: 0 none, 1 direct, 2 short, 3 (X), 4 (Y)
abbrev pub operand_row : (form : ℕ) → Operand → List ℕ
operand_row form (Direct a) = row_of form 1 a 0 0 0 0
operand_row form (Short n) = row_of form 2 n 0 0 0 0
operand_row form ThroughX = row_of form 3 0 0 0 0 0
operand_row form ThroughY = row_of form 4 0 0 0 0 0

-- the seven fields of an instruction, with the form's place in the order of the manual's forms
unfoldable pub packed_instruction : Instruction → List ℕ
packed_instruction (I.Jrnz d) = jump_row 0 d
packed_instruction (I.Jrnc d) = jump_row 1 d
packed_instruction (I.Jrz d) = jump_row 2 d
packed_instruction (I.Jrc d) = jump_row 3 d
packed_instruction (I.Call target) = to_row 4 target
packed_instruction (I.Jp target) = to_row 5 target
packed_instruction (I.Jrr bit a d) = bit_jump_row 6 bit a d
packed_instruction (I.Jrs bit a d) = bit_jump_row 7 bit a d
packed_instruction (I.Res bit a) = bit_row 8 bit a
packed_instruction (I.Set bit a) = bit_row 9 bit a
packed_instruction (I.LoadA o) = operand_row 10 o
packed_instruction (I.StoreA o) = operand_row 11 o
packed_instruction (I.LoadAImmediate n) = immediate_row 12 n 0
packed_instruction (I.LoadImmediate a n) = immediate_row 13 a n
packed_instruction (I.Inc o) = operand_row 14 o
packed_instruction (I.Dec o) = operand_row 15 o
packed_instruction (I.Add o) = operand_row 16 o
packed_instruction (I.AddImmediate n) = immediate_row 17 n 0
packed_instruction (I.Sub o) = operand_row 18 o
packed_instruction (I.SubImmediate n) = immediate_row 19 n 0
packed_instruction (I.And o) = operand_row 20 o
packed_instruction (I.AndImmediate n) = immediate_row 21 n 0
packed_instruction (I.Cp o) = operand_row 22 o
packed_instruction (I.CpImmediate n) = immediate_row 23 n 0
packed_instruction I.Com = bare_row 24
packed_instruction I.Rlc = bare_row 25
packed_instruction I.Ret = bare_row 26
packed_instruction I.Reti = bare_row 27
packed_instruction I.Stop = bare_row 28
packed_instruction I.Wait = bare_row 29

-- the whole row that decoding answers
abbrev pub decoded_row : Instruction → (bytes cycles : ℕ) → List ℕ
decoded_row i bytes cycles = packed_instruction i ++ bytes ∷ cycles ∷ 0 ∷ []

unfoldable pub operand_by : (kind value : ℕ) → Operand
operand_by kind value =
    cond (eqb kind 1) (Direct value) (cond (eqb kind 2) (Short value) (cond (eqb kind 3) ThroughX ThroughY))

-- the instructions in the order of the forms but the last, from the fields that each form uses
unfoldable pub instructions : Operand → (n target second bit : ℕ) → ℤ → List Instruction
instructions o n target second bit d =
    I.Jrnz d ∷ I.Jrnc d ∷ I.Jrz d ∷ I.Jrc d ∷ I.Call target ∷ I.Jp target
    ∷ I.Jrr bit n d ∷ I.Jrs bit n d ∷ I.Res bit n ∷ I.Set bit n
    ∷ I.LoadA o ∷ I.StoreA o ∷ I.LoadAImmediate n ∷ I.LoadImmediate n second ∷ I.Inc o ∷ I.Dec o
    ∷ I.Add o ∷ I.AddImmediate n ∷ I.Sub o ∷ I.SubImmediate n ∷ I.And o ∷ I.AndImmediate n ∷ I.Cp o ∷ I.CpImmediate n
    ∷ I.Com ∷ I.Rlc ∷ I.Ret ∷ I.Reti ∷ I.Stop ∷ []

unfoldable pub instruction_by : (form : ℕ) → Operand → (n target second bit : ℕ) → ℤ → Instruction
instruction_by form o n target second bit d = get_or (instructions o n target second bit d) form I.Wait

-- the one instruction that seven fields can be of
unfoldable pub instruction_at : List ℕ → Instruction
instruction_at s =
    instruction_by (get_or s 0 0) (operand_by (get_or s 1 0) (get_or s 2 0)) (get_or s 2 0) (get_or s 2 0 + get_or s 3 0 * 256)
    (get_or s 4 0)
    (get_or s 5 0) (long_displacement (get_or s 6 0))

-- two lists agree at an index
abbrev pub agree : (s t : List ℕ) → (k : ℕ) → Bool
agree s t k = eqb (get_or s k 0) (get_or t k 0)

-- Fields are an instruction's where they are exactly its row: there are seven, the form and the kind exist, and a field
-- that the form does not use is 0.
unfoldable pub unpacked_instruction : List ℕ → Option Instruction
unpacked_instruction s =
    cond (leb 7 (length s) && every (agree s (packed_instruction (instruction_at s))) 7) (Some (instruction_at s)) None
