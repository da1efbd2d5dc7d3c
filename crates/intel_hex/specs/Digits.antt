-- Pairs of hexadecimal digits, each a byte.
use Rattle.std.specs.Prelude.{ℕ, ◌+◌, ◌-◌, ◌*◌, Bool, cond, List, [], ◌∷◌, ltb, get_or, Option, None, Some, is_some, unwrap_or}
use Rattle.std.specs.List.{list_all}

-- the value of a digit, `0` to `9`, `A` to `F` or `a` to `f`; none for a character below, between or above them
unfoldable pub digit_of : (character : ℕ) → Option ℕ
digit_of c =
    cond (ltb c 48) None
    (cond (ltb c 58) (Some (c - 48))
    (cond (ltb c 65) None
    (cond (ltb c 71) (Some (c - 55))
    (cond (ltb c 97) None
    (cond (ltb c 103) (Some (c - 87))
    None)))))

-- every character is a hexadecimal digit
abbrev pub are_digits : (characters : List ℕ) → Bool
are_digits = list_all (λ c. is_some (digit_of c))

-- the value that a character has in a byte: 16 for one that is no digit
abbrev pub value_of : (character : ℕ) → ℕ
value_of c = unwrap_or (digit_of c) 16

-- two digits are a byte, the high one first
unfoldable pub bytes_of : (digits : List ℕ) → List ℕ
bytes_of [] = []
bytes_of (high ∷ []) = []
bytes_of (high ∷ low ∷ rest) = (value_of high * 16 + value_of low) ∷ bytes_of rest

-- the byte of the pair k, from 0
abbrev pub byte_at : (digits : List ℕ) → (k : ℕ) → ℕ
byte_at digits k = get_or (bytes_of digits) k 0

-- the sum of bytes
unfoldable pub total : (bytes : List ℕ) → ℕ
total [] = 0
total (b ∷ rest) = b + total rest
