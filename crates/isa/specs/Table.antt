-- The length and the cycles of the map's entries, and of the table that holds them (document 01, "The opcode map").
use Rattle.std.specs.Prelude.{ℕ, ◌/◌, ◌%◌, ◌<◌, ◌≡◌, List, get_or}
use Rattle.isa.specs.Map.{Addressing, rr, short, [X], [Y], Entry, entry_of}
use Rattle.isa.specs.Map.{JRNZ, JRNC, JRZ, JRC, CALL, JP, JRR, JRS, RES, SET}
use Rattle.isa.specs.Map.{LD-A, LD-to, INC, DEC, ADD, SUB, AND, CP}
use Rattle.isa.specs.Map.{LDI-A, LDI-rr, ADDI, SUBI, ANDI, CPI, COM, RLC, RET, RETI, STOP, WAIT, #}

-- the bytes of an instruction: one, and one more for each of its operand bytes
abbrev addressing_bytes : Addressing → ℕ
addressing_bytes rr = 2
addressing_bytes (short r) = 1
addressing_bytes [X] = 1
addressing_bytes [Y] = 1

unfoldable pub bytes_of : Entry → ℕ
bytes_of JRNZ = 1
bytes_of JRNC = 1
bytes_of JRZ = 1
bytes_of JRC = 1
bytes_of CALL = 2
bytes_of JP = 2
bytes_of JRR = 3
bytes_of JRS = 3
bytes_of RES = 2
bytes_of SET = 2
bytes_of (LD-A s) = addressing_bytes s
bytes_of (LD-to s) = addressing_bytes s
bytes_of (INC s) = addressing_bytes s
bytes_of (DEC s) = addressing_bytes s
bytes_of (ADD s) = addressing_bytes s
bytes_of (SUB s) = addressing_bytes s
bytes_of (AND s) = addressing_bytes s
bytes_of (CP s) = addressing_bytes s
bytes_of LDI-A = 2
bytes_of LDI-rr = 3
bytes_of ADDI = 2
bytes_of SUBI = 2
bytes_of ANDI = 2
bytes_of CPI = 2
bytes_of COM = 1
bytes_of RLC = 1
bytes_of RET = 1
bytes_of RETI = 1
bytes_of STOP = 1
bytes_of WAIT = 1
bytes_of # = 0

-- the cycles: 2 for a short jump, RET, RETI, STOP and WAIT, 5 for a jump on a bit, else 4
unfoldable pub cycles_of : Entry → ℕ
cycles_of JRNZ = 2
cycles_of JRNC = 2
cycles_of JRZ = 2
cycles_of JRC = 2
cycles_of CALL = 4
cycles_of JP = 4
cycles_of JRR = 5
cycles_of JRS = 5
cycles_of RES = 4
cycles_of SET = 4
cycles_of (LD-A s) = 4
cycles_of (LD-to s) = 4
cycles_of (INC s) = 4
cycles_of (DEC s) = 4
cycles_of (ADD s) = 4
cycles_of (SUB s) = 4
cycles_of (AND s) = 4
cycles_of (CP s) = 4
cycles_of LDI-A = 4
cycles_of LDI-rr = 4
cycles_of ADDI = 4
cycles_of SUBI = 4
cycles_of ANDI = 4
cycles_of CPI = 4
cycles_of COM = 4
cycles_of RLC = 4
cycles_of RET = 2
cycles_of RETI = 2
cycles_of STOP = 2
cycles_of WAIT = 2
cycles_of # = 0

-- "Length and cycles stand in a table of 256 entries": the length in an entry's high digit, the cycles in its low one
abbrev pub length_in : (table : List ℕ) → (opcode : ℕ) → ℕ
length_in table opcode = get_or table opcode 0 / 16

abbrev pub cycles_in : (table : List ℕ) → (opcode : ℕ) → ℕ
cycles_in table opcode = get_or table opcode 0 % 16

-- "the map's rule holds at every entry"
pub record Timings (table : List ℕ) : Type 0 where
  pub lengths : (k : ℕ) → k < 256 → length_in table k ≡ bytes_of (entry_of k)
  pub cycles : (k : ℕ) → k < 256 → cycles_in table k ≡ cycles_of (entry_of k)
