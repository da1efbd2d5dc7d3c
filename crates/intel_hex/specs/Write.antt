-- An image written as HEX, and the claim that it is read again.
use Rattle.std.specs.Prelude.{ℕ, zero, suc, ◌+◌, ◌-◌, ◌/◌, ◌%◌, ◌≡◌, true, cond, List, [], ◌∷◌, ◌++◌, ltb, length, take, drop, Ok}
use Rattle.isa.specs.Rom.{is_space}
use Rattle.isa.specs.RoundTrip.{Bytes}
use Rattle.intel_hex.specs.Digits.{total}
use Rattle.intel_hex.specs.Read.{first_of, outcome_of, answer_of, image_after}

-- a hexadecimal digit in upper case
unfoldable pub glyph : (digit : ℕ) → ℕ
glyph d = cond (ltb d 10) (48 + d) (55 + d)

-- each byte as two digits, the high one first
unfoldable pub digits_for : (bytes : List ℕ) → List ℕ
digits_for [] = []
digits_for (b ∷ bytes) = glyph (b / 16) ∷ glyph (b % 16) ∷ digits_for bytes

-- the byte that makes a sum 0 modulo 256
abbrev pub checksum_of : (bytes : List ℕ) → ℕ
checksum_of bytes = (256 - total bytes % 256) % 256

-- a line: colon, bytes, checksum, 0Ah
abbrev pub line_for : (bytes : List ℕ) → List ℕ
line_for bytes = 58 ∷ (digits_for (bytes ++ (checksum_of bytes ∷ [])) ++ (10 ∷ []))

-- a data record: count, address, type 00, data
abbrev pub data_for : (address : ℕ) → (bytes : List ℕ) → List ℕ
data_for address bytes = length bytes ∷ address / 256 ∷ address % 256 ∷ 0 ∷ bytes

-- the data records of so many rows of 16 bytes
unfoldable pub rows_for : (rows address : ℕ) → (bytes : List ℕ) → List ℕ
rows_for zero address bytes = []
rows_for (suc rows) address bytes =
    line_for (data_for address (take 16 bytes)) ++ rows_for rows (address + 16) (drop 16 bytes)

-- the image in rows, then the end record `:00000001FF`
unfoldable pub hex_of : (image : List ℕ) → List ℕ
hex_of image =
    rows_for (length image / 16) (first_of (length image)) image ++ line_for (0 ∷ 0 ∷ 0 ∷ 1 ∷ [])

-- an image of either length, written, is read as that image, whatever the fill and whatever the lent image held; its
-- first address is the lowest
-- proved by written_is_read, proofs/WrittenIsRead
pub record WrittenIsRead : Type 0 where
  pub answer :
      (image : List ℕ) → Bytes image → is_space (length image) ≡ true
      → answer_of (outcome_of (hex_of image) (length image)) ≡ Ok (first_of (length image))
  pub image :
      (image lent : List ℕ) (fill : ℕ) → Bytes image → is_space (length image) ≡ true → length lent ≡ length image
      → image_after fill lent (outcome_of (hex_of image) (length lent)) ≡ image
