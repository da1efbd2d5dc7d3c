-- The image's bytes by program address (document 01, "Program space and data space"; document 02, W-210).
use Rattle.std.specs.Prelude.{ℕ, suc, ◌+◌, ◌-◌, ◌*◌, ◌/◌, ◌%◌, ◌≡◌, ◌⊎◌, Bool, true, cond, ◌||◌, ◌&&◌, List, ◌++◌, eqb, ltb, leb, length, get_or, take, drop, Option, Some, None}
use Rattle.isa.specs.Displacement.{forward_of}
use Rattle.isa.specs.declared.rom.Space.{Space}

-- how many bytes program space can have as it stands: 2048 (800h to FFFh), or 4096 (000h to FFFh) with a page in place
abbrev pub is_space : ℕ → Bool
is_space n = eqb n 2048 || eqb n 4096

-- "images of 2 to 10 halves of 2,048 bytes", and of one: "neither these nor 2,048" are refused (document 02, W-210)
abbrev pub is_image : ℕ → Bool
is_image n = eqb (n % 2048) 0 && (leb 2048 n && leb n 20480)

abbrev pub IsImage : List ℕ → Type 0
IsImage image = is_image (length image) ≡ true

-- "pages first, the fixed half last": how many pages an image of so many bytes has
abbrev pub pages_in : ℕ → ℕ
pages_in n = n / 2048 - 1

-- in how many ways program space can stand: one for each page, and one where there are none
abbrev pub spaces_in : ℕ → ℕ
spaces_in n = suc (pages_in n - 1)

-- "The byte at 0CAh, modulo the number of pages, picks what stands at 000h-7FFh", of what stands before the fixed half:
-- nothing where there are no pages
unfoldable pub page_of : (image : List ℕ) → (bank : ℕ) → List ℕ
page_of image bank =
    take 2048 (drop (bank % spaces_in (length image) * 2048) (take (length image - 2048) image))

-- "the fixed half last, seen at 800h"
unfoldable pub fixed_of : (image : List ℕ) → List ℕ
fixed_of image = drop (length image - 2048) image

-- program space as it stands: the page, then the fixed half. Of 2048 and of 4096 bytes it is the image
unfoldable pub space_of : (image : List ℕ) → (bank : ℕ) → List ℕ
space_of image bank = page_of image bank ++ fixed_of image

-- a page, or nothing, and a fixed half
abbrev pub Halves : List ℕ → List ℕ → Type 0
Halves page fixed = ((length page ≡ 0) ⊎ (length page ≡ 2048)) × (length fixed ≡ 2048)

-- .. of a space, and its bytes
abbrev pub IsWhole : Space → Type 0
IsWhole space = Halves space.page.now space.fixed.now

abbrev pub bytes_in : Space → List ℕ
bytes_in space = space.page.now ++ space.fixed.now

-- "Instruction bytes are handed over from the page or from the fixed half": the one in which an address lies
unfoldable pub half_of : (page fixed : List ℕ) → (address : ℕ) → List ℕ
half_of page fixed address = cond (ltb address 2048) page fixed

-- the ROM byte at a program address of an image as it stands in program space: its last byte stands at FFFh; none
-- outside ROM
unfoldable pub rom_at : List ℕ → ℕ → Option ℕ
rom_at image address =
    cond (ltb address 4096)
    (cond (leb 4096 (address + length image)) (Some (get_or image (address + length image - 4096) 0)) None)
    None

-- "an operand byte after FFFh is the one at 000h": the byte at an offset from the opcode, and 0 where the instruction
-- is shorter
unfoldable pub operand_at : List ℕ → ℕ → ℕ → ℕ → Option ℕ
operand_at image address offset bytes =
    cond (ltb offset bytes) (rom_at image (forward_of address offset)) (Some 0)
