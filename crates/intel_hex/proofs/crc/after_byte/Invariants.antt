-- `crc::after_byte` meets its contract. The loop's invariant: the bits that are left decide.
use Rattle.std.proofs.Common.{◌≡◌, ◌-◌}
use Rattle.intel_hex.specs.Crc.{after_bits, after_byte}
use Rattle.intel_hex.proofs.crc.after_byte.Given as goal

abbrev pub invariant-loop : goal.invariant-loop
invariant-loop l = after_bits (8 - l.counter) l.r ≡ after_byte l.register l.byte
