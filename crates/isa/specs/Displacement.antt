-- Signed displacements, as the manual's relative addressing has them.
use Rattle.std.specs.Prelude.{ℕ, ◌+◌, ◌-◌, ◌/◌, ◌%◌, ◌^◌, cond, ltb, ℤ, pos, negsuc, ◌+ℤ◌, ◌-ℤ◌}

-- the number n of the given count of bits, read as signed: from half their range up it stands for a negative number
abbrev pub signed : ℕ → ℕ → ℤ
signed bits n = cond (ltb n (2 ^ (bits - 1))) (pos n) (pos n -ℤ pos (2 ^ bits))

-- "The short displacement is the opcode's top five bits, signed, −16 to 15": below 16 the number itself, else less 32
abbrev pub short_displacement : ℕ → ℤ
short_displacement opcode = signed 5 (opcode / 8)

-- a byte, signed: -128 to 127
abbrev pub long_displacement : ℕ → ℤ
long_displacement byte = signed 8 byte

-- a whole number modulo m: the remainder from 0 to m - 1. `negsuc n` is -(n + 1)
abbrev pub modulo : ℕ → ℤ → ℕ
modulo m (pos n) = n % m
modulo m (negsuc n) = (m - 1) - n % m

-- "The program counter has 12 bits and all its arithmetic is modulo 4096": the address so many bytes on
abbrev pub forward_of : ℕ → ℕ → ℕ
forward_of address count = (address + count) % 4096

-- the program address that lies a displacement from another
abbrev pub target_of : ℕ → ℤ → ℕ
target_of address displacement = modulo 4096 (pos address +ℤ displacement)

-- "The short displacement is [..] counted from the next address": the target of a branch at an address, of one byte
abbrev pub short_target : ℕ → ℤ → ℕ
short_target address displacement = target_of (forward_of address 1) displacement

-- "The long one is a signed byte counted from the opcode plus 2"
abbrev pub long_target : ℕ → ℤ → ℕ
long_target address displacement = target_of (forward_of address 2) displacement
