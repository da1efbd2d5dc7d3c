-- Program space with a page in place: its bytes, and addresses with the page that they lie in (document 02, W-210).
use Rattle.std.specs.Prelude.{ℕ, ◌%◌, cond, List, [], ◌++◌, leb, length, Option, None}
use Rattle.isa.specs.Rom.{is_image, spaces_in, space_of, rom_at}
use Rattle.text_line.specs.Digits.{decimal_of, three_digits}
use Rattle.listing.specs.Words.{ascii}

-- the ROM byte at an address of an image with a bank byte
unfoldable pub rom_in : (image : List ℕ) → (bank a : ℕ) → Option ℕ
rom_in image bank a = cond (is_image (length image)) (rom_at (space_of image bank) a) None

-- how many pages an image of so many bytes has to choose from: 1 where there is no choice
unfoldable pub choices_in : (bytes : ℕ) → ℕ
choices_in n = cond (is_image n) (spaces_in n) 1

-- the page in place, as `2:`, where there are several and address a lies in it
unfoldable pub page_text : (bytes bank a : ℕ) → List ℕ
page_text n bank a =
    cond (leb (choices_in n) 1) [] (cond (leb 2048 a) [] (decimal_of (bank % choices_in n) ++ ascii ":"))

-- an address with its page: `2:3F0`
abbrev pub paged_text : (bytes bank a : ℕ) → List ℕ
paged_text n bank a = page_text n bank a ++ three_digits a
