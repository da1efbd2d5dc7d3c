-- The bytes of each instruction, by the opcodes of the manual's pages, and writing them (document 01, "Write an
-- instruction").
use Rattle.std.specs.Prelude.{ℕ, ◌+◌, ◌-◌, ◌*◌, ◌/◌, ◌%◌, ◌^◌, Bool, cond, ◌&&◌, List, [], ◌∷◌, ltb, ℤ, Option, Some, None}
use Rattle.std.specs.Int.Signed.{mag}
use Rattle.isa.specs.Displacement.{modulo}
use Rattle.isa.specs.declared.Operand.{Operand}
use Rattle.isa.specs.declared.Operand.TheVariants.{Direct, Short, ThroughX, ThroughY}
use Rattle.isa.specs.declared.Instruction.{Instruction}
use Rattle.isa.specs.declared.Instruction.TheVariants as I
use Rattle.isa.specs.declared.Encoded.{Encoded}
use Rattle.isa.specs.declared.Encoded.TheVariants.{One, Two, Three}

-- whether a displacement lies in a signed field of the given count of bits; `mag` is n for n and for -(n + 1)
abbrev pub in_field : ℕ → ℤ → Bool
in_field bits d = ltb (mag d) (2 ^ (bits - 1))

-- an opcode with one operand byte, and with two; "8 operand beyond its field": the field is a byte
abbrev pub with_byte : ℕ → ℕ → Option Encoded
with_byte opcode first = cond (ltb first 256) (Some (Two opcode first)) None

abbrev pub with_bytes : ℕ → ℕ → ℕ → Option Encoded
with_bytes opcode first second = cond (ltb first 256 && ltb second 256) (Some (Three opcode first second)) None

-- a short jump: the displacement in the top five bits
abbrev pub short_jump : ℕ → ℤ → Option Encoded
short_jump base d = cond (in_field 5 d) (Some (One (modulo 32 d * 8 + base))) None

-- CALL or JP: the target's lowest digit is the opcode's high one, its upper two are the second byte
abbrev pub extended_jump : ℕ → ℕ → Option Encoded
extended_jump base target = cond (ltb target 4096) (Some (Two (target % 16 * 16 + base) (target / 16))) None

-- an opcode with a bit number: its three bits reversed stand at the top
abbrev pub with_bit : ℕ → ℕ → ℕ
with_bit base bit = (bit % 2 * 4 + bit / 2 % 2 * 2 + bit / 4) * 32 + base

abbrev pub bit_jump : ℕ → ℕ → ℕ → ℤ → Option Encoded
bit_jump base bit address d =
    cond (ltb bit 8 && in_field 8 d) (with_bytes (with_bit base bit) address (modulo 256 d)) None

abbrev pub bit_direct : ℕ → ℕ → ℕ → Option Encoded
bit_direct base bit address = cond (ltb bit 8) (with_byte (with_bit base bit) address) None

-- an instruction on a data operand, by its opcodes for (X), (Y) and rr; "of a kind the map lacks for it": a short
-- operand
abbrev pub on_data : ℕ → ℕ → ℕ → Operand → Option Encoded
on_data x y rr (Direct address) = with_byte rr address
on_data x y rr (Short register) = None
on_data x y rr ThroughX = Some (One x)
on_data x y rr ThroughY = Some (One y)

-- the same with a short operand too, by the opcode for X
abbrev pub on_short : ℕ → ℕ → ℕ → ℕ → Operand → Option Encoded
on_short short x y rr (Direct address) = with_byte rr address
on_short short x y rr (Short register) = cond (ltb register 4) (Some (One (register * 64 + short))) None
on_short short x y rr ThroughX = Some (One x)
on_short short x y rr ThroughY = Some (One y)

-- the bytes of each instruction; none of one with an operand beyond its field or of a kind that the map lacks
unfoldable pub encode_of : Instruction → Option Encoded
encode_of (I.Jrnz d) = short_jump 0x00 d
encode_of (I.Jrnc d) = short_jump 0x02 d
encode_of (I.Jrz d) = short_jump 0x04 d
encode_of (I.Jrc d) = short_jump 0x06 d
encode_of (I.Call target) = extended_jump 0x01 target
encode_of (I.Jp target) = extended_jump 0x09 target
encode_of (I.Jrr bit address d) = bit_jump 0x03 bit address d
encode_of (I.Jrs bit address d) = bit_jump 0x13 bit address d
encode_of (I.Res bit address) = bit_direct 0x0B bit address
encode_of (I.Set bit address) = bit_direct 0x1B bit address
encode_of (I.LoadA o) = on_short 0x35 0x07 0x0F 0x1F o
encode_of (I.StoreA o) = on_short 0x3D 0x87 0x8F 0x9F o
encode_of (I.LoadAImmediate n) = with_byte 0x17 n
encode_of (I.LoadImmediate address n) = with_bytes 0x0D address n
encode_of (I.Inc o) = on_short 0x15 0x67 0x6F 0x7F o
encode_of (I.Dec o) = on_short 0x1D 0xE7 0xEF 0xFF o
encode_of (I.Add o) = on_data 0x47 0x4F 0x5F o
encode_of (I.AddImmediate n) = with_byte 0x57 n
encode_of (I.Sub o) = on_data 0xC7 0xCF 0xDF o
encode_of (I.SubImmediate n) = with_byte 0xD7 n
encode_of (I.And o) = on_data 0xA7 0xAF 0xBF o
encode_of (I.AndImmediate n) = with_byte 0xB7 n
encode_of (I.Cp o) = on_data 0x27 0x2F 0x3F o
encode_of (I.CpImmediate n) = with_byte 0x37 n
encode_of I.Com = Some (One 0x2D)
encode_of I.Rlc = Some (One 0xAD)
encode_of I.Ret = Some (One 0xCD)
encode_of I.Reti = Some (One 0x4D)
encode_of I.Stop = Some (One 0x6D)
encode_of I.Wait = Some (One 0xED)

-- the bytes as a list
abbrev pub bytes : Option Encoded → List ℕ
bytes (Some (One a)) = a ∷ []
bytes (Some (Two a b)) = a ∷ b ∷ []
bytes (Some (Three a b c)) = a ∷ b ∷ c ∷ []
bytes None = []
