-- Numbers in ASCII digits.
use Rattle.std.specs.Prelude.{ℕ, zero, suc, ◌+◌, ◌-◌, ◌/◌, ◌%◌, cond, List, [], ◌∷◌, ◌++◌, ltb}

-- a digit below 16: 0 to 9, then A to F in upper case, as the papers write them
abbrev pub glyph : ℕ → ℕ
glyph d = cond (ltb d 10) (0x30 + d) (0x41 + (d - 10))

-- the decimal digits of a number below 10 to the given power: its last digit, after those of its tenth part where that
-- is not 0
abbrev pub decimal_below : (power : ℕ) → ℕ → List ℕ
decimal_below zero n = []
decimal_below (suc k) n = cond (ltb n 10) (glyph n ∷ []) (decimal_below k (n / 10) ++ (glyph (n % 10) ∷ []))

-- a number in decimal, without leading zeros; n is below 10 to the power n + 1
unfoldable pub decimal_of : ℕ → List ℕ
decimal_of n = decimal_below (suc n) n

-- "address in three hex digits"
abbrev pub three_digits : ℕ → List ℕ
three_digits a = glyph (a / 256 % 16) ∷ glyph (a / 16 % 16) ∷ glyph (a % 16) ∷ []

-- a byte in two hexadecimal digits
abbrev pub two_digits : ℕ → List ℕ
two_digits n = glyph (n / 16 % 16) ∷ glyph (n % 16) ∷ []
