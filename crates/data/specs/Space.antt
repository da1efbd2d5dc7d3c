-- Data space and the ROM window (document 01, "Program space and data space"), the two registers that can't be read
-- (document 02, W-204), and where a byte comes from (document 02, W-203).
use Rattle.std.specs.Prelude.{ℕ, ◌+◌, ◌-◌, ◌*◌, ◌%◌, Bool, cond, ◌&&◌, ◌||◌, List, get_or, set, ltb, leb, eqb, Option, Some, None}
use Rattle.isa.specs.Rom.{space_of, rom_at}
use Rattle.isa.specs.declared.Operand.{Operand}
use Rattle.isa.specs.declared.Operand.TheVariants.{Direct, Short, ThroughX, ThroughY}
use Rattle.data.specs.declared.Origin.{Origin}
use Rattle.data.specs.declared.Origin.TheVariants.{Ram, Register, Rom, NoRom}

-- program space as it stands, with the bank byte at 0CAh (W-210)
abbrev pub program_of : (image bytes : List ℕ) → List ℕ
program_of image bytes = space_of image (get_or bytes 0xCA 0)

-- "40h–7Fh show ROM"
abbrev pub in_window : ℕ → Bool
in_window a = leb 0x40 a && ltb a 0x80

-- "0C8h and 0C9h write-only" (W-204)
abbrev pub is_write_only : ℕ → Bool
is_write_only a = eqb a 0xC8 || eqb a 0xC9

-- "ROM that the image lacks reads 0"
abbrev pub shown_of : Option ℕ → ℕ
shown_of (Some byte) = byte
shown_of None = 0

-- "w being the low six bits of 0C9h": of the byte stored there, not of a program's read, which gives 0. "The stored
-- bytes still drive the enable and the window." (W-204)
abbrev pub window_page : List ℕ → ℕ
window_page bytes = get_or bytes 0xC9 0 % 64

-- "address d reads the ROM byte at 64 × w + (d − 40h)"
abbrev pub window_address : List ℕ → ℕ → ℕ
window_address bytes a = 64 * window_page bytes + (a - 0x40)

-- the byte that stands at a data address: "00h–3Fh are 64 RAM bytes. 40h–7Fh show ROM [..]. 80h–FFh are plain bytes."
abbrev pub held_of : (image bytes : List ℕ) → (a : ℕ) → ℕ
held_of image bytes a =
    cond (in_window a) (shown_of (rom_at image (window_address bytes a))) (get_or bytes a 0)

-- the one read of a data byte: of 0C8h and 0C9h "a program's read of either gives 0" (W-204), of any other address the
-- byte that stands there
unfoldable pub read_of : (image bytes : List ℕ) → (a : ℕ) → ℕ
read_of image bytes a = cond (is_write_only a) 0 (held_of image bytes a)

-- "the ROM window with its ROM address, or the window where the image has nothing"
abbrev pub window_origin : (address : ℕ) → Option ℕ → Origin
window_origin address (Some byte) = Rom address
window_origin address None = NoRom

-- where the byte of `read_of` comes from: "RAM, a register from 80h up" (0C8h and 0C9h too), or the window, at the
-- address that is read there
unfoldable pub origin_of : (image bytes : List ℕ) → (a : ℕ) → Origin
origin_of image bytes a =
    cond (in_window a) (window_origin (window_address bytes a) (rom_at image (window_address bytes a)))
    (cond (leb 0x80 a) Register Ram)

-- the one store of a data byte: in the window "a store there does nothing"
unfoldable pub store_of : (bytes : List ℕ) → (a value : ℕ) → List ℕ
store_of bytes a value = cond (in_window a) bytes (set bytes a value)

-- the data address of an operand: "X, Y, V, W are 80h–83h"
unfoldable pub address_of : (bytes : List ℕ) → Operand → ℕ
address_of bytes (Direct a) = a
address_of bytes (Short n) = 0x80 + n % 4
address_of bytes ThroughX = get_or bytes 0x80 0
address_of bytes ThroughY = get_or bytes 0x81 0

-- the byte of an operand
unfoldable pub operand_of : (image bytes : List ℕ) → Operand → ℕ
operand_of image bytes o = read_of image bytes (address_of bytes o)
