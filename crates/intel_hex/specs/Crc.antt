-- The CRC-32 of bytes: the polynomial EDB88320h with the lowest bit first; the register starts as FFFFFFFFh, and is
-- inverted at the end.
use Rattle.std.specs.Prelude.{ℕ, zero, suc, ◌/◌, ◌%◌, cond, List, eqb, fold}
use Rattle.std.specs.Int.Bits.{bit_xor}

-- one bit: the register is halved, and takes the polynomial where a 1 falls out
unfoldable pub after_bit : (register : ℕ) → ℕ
after_bit r = cond (eqb (r % 2) 1) (bit_xor (r / 2) 0xEDB88320) (r / 2)

unfoldable pub after_bits : (bits register : ℕ) → ℕ
after_bits zero r = r
after_bits (suc n) r = after_bits n (after_bit r)

-- one byte: added to the register, then its eight bits
abbrev pub after_byte : (register byte : ℕ) → ℕ
after_byte r byte = after_bits 8 (bit_xor r byte)

abbrev pub after_bytes : (register : ℕ) → (bytes : List ℕ) → ℕ
after_bytes = fold after_byte

-- the CRC-32
unfoldable pub crc_of : (bytes : List ℕ) → ℕ
crc_of bytes = bit_xor (after_bytes 0xFFFFFFFF bytes) 0xFFFFFFFF
