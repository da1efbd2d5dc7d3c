-- The length of each form in bytes: one, and one more for each operand byte; and that decoding answers with it.
use Rattle.std.specs.Prelude.{ℕ, ◌≡◌, List}
use Rattle.isa.specs.Refusals.{done}
use Rattle.isa.specs.declared.Operand.{Operand}
use Rattle.isa.specs.declared.Operand.TheVariants.{Direct, Short, ThroughX, ThroughY}
use Rattle.isa.specs.declared.Instruction.{Instruction}
use Rattle.isa.specs.declared.Instruction.TheVariants as I
use Rattle.isa.specs.Decode.{instruction, decode_in}

abbrev pub length_with : Operand → ℕ
length_with (Direct a) = 2
length_with (Short n) = 1
length_with ThroughX = 1
length_with ThroughY = 1

abbrev pub length_of : Instruction → ℕ
length_of (I.Jrnz d) = 1
length_of (I.Jrnc d) = 1
length_of (I.Jrz d) = 1
length_of (I.Jrc d) = 1
length_of (I.Call target) = 2
length_of (I.Jp target) = 2
length_of (I.Jrr bit a d) = 3
length_of (I.Jrs bit a d) = 3
length_of (I.Res bit a) = 2
length_of (I.Set bit a) = 2
length_of (I.LoadA o) = length_with o
length_of (I.StoreA o) = length_with o
length_of (I.LoadAImmediate n) = 2
length_of (I.LoadImmediate a n) = 3
length_of (I.Inc o) = length_with o
length_of (I.Dec o) = length_with o
length_of (I.Add o) = length_with o
length_of (I.AddImmediate n) = 2
length_of (I.Sub o) = length_with o
length_of (I.SubImmediate n) = 2
length_of (I.And o) = length_with o
length_of (I.AndImmediate n) = 2
length_of (I.Cp o) = length_with o
length_of (I.CpImmediate n) = 2
length_of I.Com = 1
length_of I.Rlc = 1
length_of I.Ret = 1
length_of I.Reti = 1
length_of I.Stop = 1
length_of I.Wait = 1

-- the length that decoding answers, from the table, is that of the instruction's form
-- proved by decoded_length, proofs/DecodedLength
abbrev pub DecodedLength : Type 0
DecodedLength =
    (image : List ℕ) (bank a : ℕ) (i : Instruction) (n cycles : ℕ) →
    decode_in image bank a ≡ done (instruction i n cycles) → n ≡ length_of i
