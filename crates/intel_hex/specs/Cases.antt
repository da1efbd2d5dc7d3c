-- Cases from outside: the check value that the CRC-32 is known by, and a line that is a common example of the format.
use Rattle.std.specs.Prelude.{ℕ, ◌≡◌, false, List, [], ◌∷◌, ◌++◌, replicate, map, None, Some}
use Rattle.intel_hex.specs.Crc.{crc_of}
use Rattle.intel_hex.specs.Place.{goes}
use Rattle.intel_hex.specs.Take.{after_line}

-- the CRC-32 of `123456789`
-- proved by check_value, proofs/Cases
abbrev pub CheckValue : Type 0
CheckValue = crc_of (49 ∷ 50 ∷ 51 ∷ 52 ∷ 53 ∷ 54 ∷ 55 ∷ 56 ∷ 57 ∷ []) ≡ 0xCBF43926

-- `:0B0010006164647265737320676170A7`
abbrev pub example_line : List ℕ
example_line =
    58 ∷ 48 ∷ 66 ∷ 48 ∷ 48 ∷ 49 ∷ 48 ∷ 48 ∷ 48 ∷ 54 ∷ 49 ∷ 54 ∷ 52 ∷ 54 ∷ 52 ∷ 55 ∷ 50 ∷ 54 ∷ 53 ∷ 55 ∷ 51 ∷ 55 ∷ 51
    ∷ 50 ∷ 48 ∷ 54 ∷ 55 ∷ 54 ∷ 49 ∷ 55 ∷ 48 ∷ 65 ∷ 55 ∷ []

-- .. names eleven bytes from 010h on, the letters `address gap`; the memory is shown as far as 01Fh
-- proved by example_is_placed, proofs/Cases
abbrev pub ExampleIsPlaced : Type 0
ExampleIsPlaced =
    after_line 0 false (replicate 32 None) example_line
    ≡ goes false
    (replicate 16 None
    ++ (map Some (97 ∷ 100 ∷ 100 ∷ 114 ∷ 101 ∷ 115 ∷ 115 ∷ 32 ∷ 103 ∷ 97 ∷ 112 ∷ []) ++ replicate 5 None))
