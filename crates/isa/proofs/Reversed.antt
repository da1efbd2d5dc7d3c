-- Reversed bits: of an opcode the bit number, and of a bit number the bits that an opcode has at the top.
use Rattle.std.proofs.Common.{ℕ, ◌≡◌, ◌+◌, ◌*◌, ◌/◌, ◌%◌, ◌<◌, w8}
use lib.Dec.{eqb, eqb→eq}
use Rattle.std.specs.Int.{reverse_bits, reverse_bits_onto}
use Rattle.isa.specs.Map.{bit_number}
use Rattle.isa.proofs.Finite.{at, same_n}

pub number : (opcode : ℕ) → opcode < 256 → reverse_bits w8 opcode % 8 ≡ bit_number opcode
unfolding reverse_bits_onto
number = same_n (λ k. reverse_bits w8 k % 8) bit_number tt

pub bits : (bit : ℕ) → bit < 8 → reverse_bits w8 bit ≡ (bit % 2 * 4 + bit / 2 % 2 * 2 + bit / 4) * 32
unfolding reverse_bits_onto
bits bit h =
    eqb→eq _ _ (at (λ k. eqb (reverse_bits w8 k) ((k % 2 * 4 + k / 2 % 2 * 2 + k / 4) * 32)) 8 tt bit h)
