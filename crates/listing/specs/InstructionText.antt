-- The text of an instruction, in the manual's notation, with the targets of jumps as addresses.
use Rattle.std.specs.Prelude.{ℕ, ◌≤◌, ◌≡◌, List, [], ◌∷◌, ◌++◌, get_or, length}
use Rattle.isa.specs.Displacement.{short_target, long_target}
use Rattle.isa.specs.Refusals.{done}
use Rattle.isa.specs.Decode as decode
use Rattle.isa.specs.Decode.{decode_in}
use Rattle.isa.specs.RoundTrip.{Bytes}
use Rattle.isa.specs.declared.Instruction.{Instruction}
use Rattle.isa.specs.declared.Instruction.TheVariants as I
use Rattle.isa.specs.declared.Operand.{Operand}
use Rattle.isa.specs.declared.Operand.TheVariants as operand
use Rattle.text_line.specs.Digits.{decimal_of, three_digits, two_digits}
use Rattle.listing.specs.Words.{ascii}

-- a program address: `890h`
abbrev pub address_text : ℕ → List ℕ
address_text a = three_digits a ++ ascii "h"

-- a data address or an immediate: `12h`
abbrev pub data_text : ℕ → List ℕ
data_text n = two_digits n ++ ascii "h"

-- the short registers 0 to 3: X, Y, V, W
abbrev pub register_letter : ℕ → ℕ
register_letter n = get_or (ascii "XYV") n 0x57

-- a data operand: `12h`, `X`, `(X)`
unfoldable pub operand_text : Operand → List ℕ
operand_text (operand.Direct address) = data_text address
operand_text (operand.Short register) = register_letter register ∷ []
operand_text operand.ThroughX = ascii "(X)"
operand_text operand.ThroughY = ascii "(Y)"

-- a bit of a data byte: `4,12h`
abbrev pub bit_text : (bit address : ℕ) → List ℕ
bit_text bit address = decimal_of bit ++ (ascii "," ++ data_text address)

-- the instruction at address a: `CALL 890h`, `JRR 4,12h,136h`, `LD X,A`, `LDI 12h,34h`
unfoldable pub instruction_text : Instruction → (a : ℕ) → List ℕ
instruction_text (I.Jrnz e) a = ascii "JRNZ " ++ address_text (short_target a e)
instruction_text (I.Jrnc e) a = ascii "JRNC " ++ address_text (short_target a e)
instruction_text (I.Jrz e) a = ascii "JRZ " ++ address_text (short_target a e)
instruction_text (I.Jrc e) a = ascii "JRC " ++ address_text (short_target a e)
instruction_text (I.Call target) a = ascii "CALL " ++ address_text target
instruction_text (I.Jp target) a = ascii "JP " ++ address_text target
instruction_text (I.Jrr bit address e) a =
    (ascii "JRR " ++ bit_text bit address) ++ (ascii "," ++ address_text (long_target a e))
instruction_text (I.Jrs bit address e) a =
    (ascii "JRS " ++ bit_text bit address) ++ (ascii "," ++ address_text (long_target a e))
instruction_text (I.Res bit address) a = ascii "RES " ++ bit_text bit address
instruction_text (I.Set bit address) a = ascii "SET " ++ bit_text bit address
instruction_text (I.LoadA o) a = ascii "LD A," ++ operand_text o
instruction_text (I.StoreA o) a = (ascii "LD " ++ operand_text o) ++ ascii ",A"
instruction_text (I.LoadAImmediate n) a = ascii "LDI A," ++ data_text n
instruction_text (I.LoadImmediate address n) a = (ascii "LDI " ++ data_text address) ++ (ascii "," ++ data_text n)
instruction_text (I.Inc o) a = ascii "INC " ++ operand_text o
instruction_text (I.Dec o) a = ascii "DEC " ++ operand_text o
instruction_text (I.Add o) a = ascii "ADD A," ++ operand_text o
instruction_text (I.AddImmediate n) a = ascii "ADDI A," ++ data_text n
instruction_text (I.Sub o) a = ascii "SUB A," ++ operand_text o
instruction_text (I.SubImmediate n) a = ascii "SUBI A," ++ data_text n
instruction_text (I.And o) a = ascii "AND A," ++ operand_text o
instruction_text (I.AndImmediate n) a = ascii "ANDI A," ++ data_text n
instruction_text (I.Cp o) a = ascii "CP A," ++ operand_text o
instruction_text (I.CpImmediate n) a = ascii "CPI A," ++ data_text n
instruction_text I.Com a = ascii "COM A"
instruction_text I.Rlc a = ascii "RLC A"
instruction_text I.Ret a = ascii "RET"
instruction_text I.Reti a = ascii "RETI"
instruction_text I.Stop a = ascii "STOP"
instruction_text I.Wait a = ascii "WAIT"

-- the text of a decoded instruction has at most 16 bytes
-- proved by text_fits, proofs/Fits
abbrev pub TextFits : Type 0
TextFits =
    (image : List ℕ) → Bytes image →
    (bank a : ℕ) (i : Instruction) (n cycles : ℕ) → decode_in image bank a ≡ done (decode.instruction i n cycles) →
    length (instruction_text i a) ≤ 16
