-- The image that a file holds: Intel HEX, which begins with a colon, or raw bytes.
use Rattle.std.specs.Prelude.{ℕ, ◌+◌, ◌*◌, ◌-◌, ◌≤◌, ◌<◌, ◌≡◌, Bool, true, false, cond, List, [], ◌∷◌, ◌++◌, eqb, leb, length, take, drop, get_or, codes, Option, None, Some, Result, Ok, Err}
use Rattle.isa.specs.Refusals.{unless}
use Rattle.isa.specs.Rom.{is_image, spaces_in}
use Rattle.intel_hex.specs.declared.HexError.{HexError}
use Rattle.intel_hex.specs.declared.HexError.TheVariants.{Line, ImageLength}
use Rattle.intel_hex.specs.Read.{answer_of, image_after, outcome_of}
use Rattle.options.specs.declared.image.Rom.{Rom}
use Rattle.options.specs.declared.image.Rom.TheVariants as rom
use Rattle.options.specs.declared.image.Asked.{Asked}
use Rattle.options.specs.declared.image.Asked.TheVariants as asked
use Rattle.options.specs.declared.image.ChosenBy.{ChosenBy}
use Rattle.options.specs.declared.image.ChosenBy.TheVariants as by
use Rattle.options.specs.declared.image.ImageFound.{ImageFound}
use Rattle.options.specs.declared.image.ImageError.{ImageError}
use Rattle.options.specs.declared.image.ImageError.TheVariants as error
use Rattle.options.specs.Words.{look_up, named}

-- a file is Intel HEX where it begins with a colon, unless it is said to be raw
unfoldable pub is_hex : (file : List ℕ) → (raw : Bool) → Bool
is_hex file raw = cond raw false (eqb (get_or file 0 0) 0x3A)

-- the sizes by name
unfoldable pub size_named : (word : List ℕ) → Option Asked
size_named = look_up (named (codes "2K") asked.Small ∷ named (codes "4K") asked.Large ∷ [])

-- how many bytes an image has: a paged one its pages and the fixed half
abbrev pub bytes_of : Rom → ℕ
bytes_of rom.Small = 2048
bytes_of rom.Large = 4096
bytes_of (rom.Paged pages) = (pages + 1) * 2048

-- the size of an image of so many bytes
unfoldable pub size_of : (bytes : ℕ) → Rom
size_of n = cond (eqb n 2048) rom.Small (cond (eqb n 4096) rom.Large (rom.Paged (spaces_in n)))

-- a size may be that which is asked for; no word asks for pages
abbrev pub may_be : Option Asked → Rom → Bool
may_be (Some asked.Small) rom.Small = true
may_be (Some asked.Small) rom.Large = false
may_be (Some asked.Small) (rom.Paged pages) = false
may_be (Some asked.Large) rom.Small = false
may_be (Some asked.Large) rom.Large = true
may_be (Some asked.Large) (rom.Paged pages) = false
may_be None size = true

-- an image of a size, or why there is none
abbrev pub Found : Type 0
Found = Result ImageFound ImageError

abbrev pub whole : Rom → ChosenBy → Found
whole size b = Ok (record { rom = size; by = b })

-- what came of a file, and the space after it
pub data Got : Type 0 where
  got : (r : Found) (space : List ℕ) → Got

-- why there is no image, where a HEX file could not be read
abbrev pub error_of : HexError → ImageError
error_of (Line fault) = error.Fault fault
error_of ImageLength = error.NoSize

-- a HEX file's image, of a size that was asked for
abbrev pub sized_by : Rom → Result ℕ HexError → Found
sized_by size (Ok lowest) = whole size by.Option
sized_by size (Err hex) = Err (error_of hex)

-- .. and of the size for the lowest address that it names: 2K from 800h on, else 4K; at 4096 it names none
unfoldable pub sized_for : (lowest : ℕ) → Found
sized_for lowest =
    cond (leb 4096 lowest) (Err error.Unnamed)
    (whole (cond (leb 2048 lowest) rom.Small rom.Large) (by.Lowest lowest))

abbrev pub sized_by_lowest : Result ℕ HexError → Found
sized_by_lowest (Ok lowest) = sized_for lowest
sized_by_lowest (Err hex) = Err (error_of hex)

-- a HEX file read into the last bytes of a space, as many as an image of that size has; where a line is at fault, the
-- space stays as it was
abbrev pub hex_put : (file : List ℕ) → (size : Rom) → (fill : ℕ) → (space : List ℕ) → List ℕ
hex_put file size fill space =
    let start = 20480 - bytes_of size in
    take start space ++ image_after fill (drop start space) (outcome_of file (bytes_of size))

-- .. as 2K where that is asked for, else as 4K, also where the file names no address
unfoldable pub hex_got : (file : List ℕ) → Option Asked → (fill : ℕ) → (space : List ℕ) → Got
hex_got file (Some asked.Small) fill space =
    got (sized_by rom.Small (answer_of (outcome_of file 2048))) (hex_put file rom.Small fill space)
hex_got file (Some asked.Large) fill space =
    got (sized_by rom.Large (answer_of (outcome_of file 4096))) (hex_put file rom.Large fill space)
hex_got file None fill space =
    got (sized_by_lowest (answer_of (outcome_of file 4096))) (hex_put file rom.Large fill space)

-- a raw file has 1 to 10 halves, and is put into the last bytes of a space where it may be of that size
unfoldable pub raw_got : (file : List ℕ) → Option Asked → (space : List ℕ) → Got
raw_got file a space =
    let size = size_of (length file) in
    unless (is_image (length file)) (got (Err error.NoSize) space)
    (unless (may_be a size) (got (Err error.OtherSize) space)
    (got (whole size by.Size) (take (20480 - length file) space ++ file)))

-- a file read into a space, which has as many bytes as the longest image
unfoldable pub image_got : (file : List ℕ) → Option Asked → (fill : ℕ) → (raw : Bool) → (space : List ℕ) → Got
image_got file a fill raw space =
    unless (eqb (length space) 20480) (got (Err error.NoSize) space)
    (cond (is_hex file raw) (hex_got file a fill space) (raw_got file a space))

-- where no size is asked for, that of a HEX file's image is chosen by the lowest address that the file names
pub record ByLowest (file : List ℕ) (size : Rom) (b : ChosenBy) : Type 0 where
  pub lowest : ℕ
  pub is_named : answer_of (outcome_of file 4096) ≡ Ok lowest
  pub chosen : b ≡ by.Lowest lowest
  pub small : 2048 ≤ lowest → size ≡ rom.Small
  pub large : lowest < 2048 → size ≡ rom.Large

-- the size of an image is never guessed: a HEX file's is that which is asked for, or where none is, that for the lowest
-- address that the file names; and a raw file's is its own
-- proved by size_is_never_guessed, proofs/NeverGuessed
pub record SizeIsNeverGuessed
    (file : List ℕ) (fill : ℕ) (raw : Bool) (space after : List ℕ) (size : Rom) (b : ChosenBy) : Type 0 where
  pub asks_2k :
      is_hex file raw ≡ true → image_got file (Some asked.Small) fill raw space ≡ got (whole size b) after
      → size ≡ rom.Small
  pub asks_4k :
      is_hex file raw ≡ true → image_got file (Some asked.Large) fill raw space ≡ got (whole size b) after
      → size ≡ rom.Large
  pub asks_nothing :
      is_hex file raw ≡ true → image_got file None fill raw space ≡ got (whole size b) after
      → ByLowest file size b
  pub is_raw :
      is_hex file raw ≡ false → (a : Option Asked) → image_got file a fill raw space ≡ got (whole size b) after
      → length file ≡ bytes_of size
