-- The cases, computed.
use mathlib.Core.Path.{refl}
use Rattle.intel_hex.specs.Cases.{CheckValue, ExampleIsPlaced}
use Rattle.intel_hex.specs.Crc.{after_bit, after_bits, crc_of}
use Rattle.intel_hex.specs.Digits.{bytes_of, digit_of, total}
use Rattle.intel_hex.specs.Place.{placed}
use Rattle.intel_hex.specs.Take.{after_digits, after_line, after_record}

pub check_value : CheckValue
unfolding after_bit after_bits crc_of
check_value = refl

pub example_is_placed : ExampleIsPlaced
unfolding after_digits after_line after_record bytes_of digit_of placed total
example_is_placed = refl
