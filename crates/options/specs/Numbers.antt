-- Numbers on the command line.
use Rattle.std.specs.Prelude.{ℕ, ◌+◌, ◌-◌, ◌*◌, Bool, true, ◌&&◌, List, [], ◌∷◌, eqb, leb, length, get_or, Option, None, Some}
use Rattle.isa.specs.Refusals.{unless}
use Rattle.intel_hex.specs.Digits.{digit_of}

-- every letter is one of `0` to `9`
unfoldable pub are_decimal : (text : List ℕ) → Bool
are_decimal [] = true
are_decimal (c ∷ rest) = (leb 0x30 c && leb c 0x39) && are_decimal rest

-- the value of decimal digits after a value
unfoldable pub value_after : (value : ℕ) → (digits : List ℕ) → ℕ
value_after value [] = value
value_after value (c ∷ rest) = value_after (value * 10 + (c - 0x30)) rest

-- a value up to 65,535 of decimal digits
unfoldable pub parsed_after : (value : ℕ) → (digits : List ℕ) → Option ℕ
parsed_after value digits =
    unless (are_decimal digits) None
    (unless (leb (value_after value digits) 65535) None
    (Some (value_after value digits)))

-- a decimal number has a digit
unfoldable pub decimal_named : (text : List ℕ) → Option ℕ
decimal_named text = unless (leb 1 (length text)) None (parsed_after 0 text)

-- the byte of two hexadecimal digits
abbrev pub byte_of : (high low : Option ℕ) → Option ℕ
byte_of None low = None
byte_of (Some high) None = None
byte_of (Some high) (Some low) = Some (high * 16 + low)

-- a byte in two hexadecimal digits
unfoldable pub byte_named : (text : List ℕ) → Option ℕ
byte_named text =
    unless (eqb (length text) 2) None (byte_of (digit_of (get_or text 0 0)) (digit_of (get_or text 1 0)))
