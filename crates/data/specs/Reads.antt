-- Which data operand an instruction reads, and where its byte comes from (document 02, W-203).
use Rattle.std.specs.Prelude.{ℕ, List, Option, Some, None}
use Rattle.isa.specs.declared.Operand.{Operand}
use Rattle.isa.specs.declared.Operand.TheVariants.{Direct}
use Rattle.isa.specs.declared.Instruction.{Instruction}
use Rattle.isa.specs.declared.Instruction.TheVariants as I
use Rattle.data.specs.declared.Origin.{Origin}
use Rattle.data.specs.Space.{origin_of, address_of}

-- the data operand that an instruction reads, by its form, as the manual's page of each says: the source of LD A, ADD,
-- SUB, AND and CP, and the operand of INC, DEC, SET, RES, JRR and JRS. LD of A to an operand and LDI write theirs and do
-- not read it. "a pointer X or Y, and an accumulator not addressed as FFh, don't count": so LD (X),A and ADDI read none
unfoldable pub operand_read_of : Instruction → Option Operand
operand_read_of (I.LoadA o) = Some o
operand_read_of (I.Add o) = Some o
operand_read_of (I.Sub o) = Some o
operand_read_of (I.And o) = Some o
operand_read_of (I.Cp o) = Some o
operand_read_of (I.Inc o) = Some o
operand_read_of (I.Dec o) = Some o
operand_read_of (I.Set n a) = Some (Direct a)
operand_read_of (I.Res n a) = Some (Direct a)
operand_read_of (I.Jrr n a e) = Some (Direct a)
operand_read_of (I.Jrs n a e) = Some (Direct a)
operand_read_of (I.StoreA o) = None
operand_read_of (I.LoadImmediate a v) = None
operand_read_of (I.LoadAImmediate v) = None
operand_read_of (I.AddImmediate v) = None
operand_read_of (I.SubImmediate v) = None
operand_read_of (I.AndImmediate v) = None
operand_read_of (I.CpImmediate v) = None
operand_read_of I.Com = None
operand_read_of I.Rlc = None
operand_read_of (I.Jrnz e) = None
operand_read_of (I.Jrnc e) = None
operand_read_of (I.Jrz e) = None
operand_read_of (I.Jrc e) = None
operand_read_of (I.Call target) = None
operand_read_of (I.Jp target) = None
operand_read_of I.Ret = None
operand_read_of I.Reti = None
operand_read_of I.Stop = None
operand_read_of I.Wait = None

-- "the origin of the data operand": of the byte at the operand's address
abbrev pub origin_at : (image bytes : List ℕ) → Option Operand → Option Origin
origin_at image bytes (Some o) = Some (origin_of image bytes (address_of bytes o))
origin_at image bytes None = None

-- of the data operand that an instruction reads, "or that it read none"
unfoldable pub origin_read_of : (image bytes : List ℕ) → Instruction → Option Origin
origin_read_of image bytes i = origin_at image bytes (operand_read_of i)
