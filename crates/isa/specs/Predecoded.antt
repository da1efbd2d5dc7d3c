-- Predecoded instructions: what a number stands for that a run keeps of an instruction already decoded. No claim speaks
-- of numbers: what a run does is defined without them.
use Rattle.std.specs.Prelude.{ℕ, ◌+◌, ◌*◌, ◌/◌, ◌%◌, ◌<◌, ◌≡◌, List, [], ◌∷◌, get_or}
use Rattle.isa.specs.Displacement.{long_displacement}
use Rattle.isa.specs.declared.Operand.{Operand}
use Rattle.isa.specs.declared.Operand.TheVariants.{Direct, Short, ThroughX, ThroughY}
use Rattle.isa.specs.declared.Instruction.{Instruction}
use Rattle.isa.specs.declared.Instruction.TheVariants as I

-- the instructions of three operand bytes, by code; the last code is past the list
abbrev pub by_code : (a b c : ℕ) → List Instruction
by_code a b c =
    I.Jrnz (long_displacement a) ∷ I.Jrnc (long_displacement a) ∷ I.Jrz (long_displacement a) ∷
    I.Jrc (long_displacement a) ∷
    I.Call (a + b * 256) ∷ I.Jp (a + b * 256) ∷ I.Jrr a b (long_displacement c) ∷ I.Jrs a b (long_displacement c) ∷
    I.Ret ∷ I.Reti ∷ I.Stop ∷ I.Wait ∷ I.Res a b ∷ I.Set a b ∷
    I.LoadA (Direct a) ∷ I.LoadA (Short a) ∷ I.LoadA ThroughX ∷ I.LoadA ThroughY ∷
    I.StoreA (Direct a) ∷ I.StoreA (Short a) ∷ I.StoreA ThroughX ∷ I.StoreA ThroughY ∷
    I.LoadAImmediate a ∷ I.LoadImmediate a b ∷
    I.Inc (Direct a) ∷ I.Inc (Short a) ∷ I.Inc ThroughX ∷ I.Inc ThroughY ∷
    I.Dec (Direct a) ∷ I.Dec (Short a) ∷ I.Dec ThroughX ∷ I.Dec ThroughY ∷
    I.Add (Direct a) ∷ I.Add (Short a) ∷ I.Add ThroughX ∷ I.Add ThroughY ∷ I.AddImmediate a ∷
    I.Sub (Direct a) ∷ I.Sub (Short a) ∷ I.Sub ThroughX ∷ I.Sub ThroughY ∷ I.SubImmediate a ∷
    I.And (Direct a) ∷ I.And (Short a) ∷ I.And ThroughX ∷ I.And ThroughY ∷ I.AndImmediate a ∷
    I.Cp (Direct a) ∷ I.Cp (Short a) ∷ I.Cp ThroughX ∷ I.Cp ThroughY ∷ I.CpImmediate a ∷ I.Com ∷ []

unfoldable pub instruction_by_code : (code a b c : ℕ) → Instruction
instruction_by_code code a b c = get_or (by_code a b c) code I.Rlc

-- a code that has an operand, with the kind of the operand
abbrev pub on_operand_by_code : (code : ℕ) → Operand → Instruction
on_operand_by_code code (Direct a) = instruction_by_code code a 0 0
on_operand_by_code code (Short n) = instruction_by_code (code + 1) n 0 0
on_operand_by_code code ThroughX = instruction_by_code (code + 2) 0 0 0
on_operand_by_code code ThroughY = instruction_by_code (code + 3) 0 0 0

-- the instruction of a number, and its cycles
abbrev pub instruction_of_word : ℕ → Instruction
instruction_of_word w = instruction_by_code (w % 256) (w / 65536 % 256) (w / 16777216 % 256) (w / 4294967296 % 256)

abbrev pub cycles_of_word : ℕ → ℕ
cycles_of_word w = w / 256 % 16

-- the bank byte and the address of an instruction, as the top of its number has them
abbrev pub tag_for : (bank a : ℕ) → ℕ
tag_for bank a = 1048576 + bank * 4096 + a

abbrev pub tag_of_word : ℕ → ℕ
tag_of_word w = w / 1099511627776

-- a number that stands for an instruction of so many cycles, of which it has a digit, decoded with a bank byte at an
-- address
pub record Predecoded (w : ℕ) (i : Instruction) (cycles bank a : ℕ) : Type 0 where
  pub instruction : instruction_of_word w ≡ i
  pub timed : cycles_of_word w ≡ cycles % 16
  pub tagged : tag_of_word w ≡ tag_for bank a

-- a number without a tag
pub record IsWord (w : ℕ) (i : Instruction) (cycles : ℕ) : Type 0 where
  pub instruction : instruction_of_word w ≡ i
  pub timed : cycles_of_word w ≡ cycles % 16
  pub untagged : w < 1099511627776
