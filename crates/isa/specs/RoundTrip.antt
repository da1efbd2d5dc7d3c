-- Writing and decoding undo one another (document 01, "The opcode map" and "Write an instruction").
use Rattle.std.specs.Prelude.{ℕ, ◌<◌, ◌≡◌, ◌↔◌, true, List, length, get_or, Some, None}
use Rattle.isa.specs.Refusals.{plain, done, refused}
use Rattle.isa.specs.Displacement.{forward_of}
use Rattle.isa.specs.Table.{cycles_of}
use Rattle.isa.specs.Map.{entry_of}
use Rattle.isa.specs.Rom.{is_image, space_of, rom_at}
use Rattle.isa.specs.Decode.{instruction, decode_in}
use Rattle.isa.specs.Write.{outcome}
use Rattle.isa.specs.Encode.{encode_of, bytes}
use Rattle.isa.specs.declared.Instruction.{Instruction}

-- every element is a byte: what a slice of u8 holds
abbrev pub Bytes : List ℕ → Type 0
Bytes image = (j : ℕ) → get_or image j 0 < 256

-- the bytes stand in program space from an address on; "an operand byte after FFFh is the one at 000h"
abbrev pub Holds : List ℕ → ℕ → List ℕ → Type 0
Holds image a bs = (j : ℕ) → j < length bs → rom_at image (forward_of a j) ≡ Some (get_or bs j 0)

-- "An instruction decodes to one of the manual's forms with its operands": every instruction that is not refused does,
-- wherever its bytes stand, in a page too, and with the length and the cycles of its opcode
-- proved by written_decodes, proofs/InImage
abbrev pub WrittenDecodes : Type 0
WrittenDecodes =
    (i : Instruction) → (encode_of i ≡ None → ⊥) →
    (image : List ℕ) → is_image (length image) ≡ true →
    (bank a : ℕ) → a < 4096 → Holds (space_of image bank) a (bytes (encode_of i)) →
    decode_in image bank a ≡
    done (instruction i (length (bytes (encode_of i))) (cycles_of (entry_of (get_or (bytes (encode_of i)) 0 0))))

-- "It is written from the buffer's first byte": what was decoded is written as the bytes that stand there, as many as
-- decoding answered
-- proved by decoded_writes, proofs/InImage
abbrev pub DecodedWrites : Type 0
DecodedWrites =
    (image : List ℕ) → Bytes image →
    (bank a : ℕ) (i : Instruction) (n cycles : ℕ) → decode_in image bank a ≡ done (instruction i n cycles) →
    (length (bytes (encode_of i)) ≡ n) × Holds (space_of image bank) a (bytes (encode_of i))

-- no image has the instruction at any address, whatever the bank byte
abbrev pub Undecoded : Instruction → Type 0
Undecoded i =
    (image : List ℕ) → Bytes image → (bank a n cycles : ℕ) → decode_in image bank a ≡ done (instruction i n cycles) → ⊥

-- "8 operand beyond its field, or of a kind the map lacks for it", and "never where it doesn't apply": refused are the
-- instructions that no bytes decode to
-- proved by refused_exactly, proofs/RefusedExactly
abbrev pub RefusedExactly : Type 0
RefusedExactly = (i : Instruction) (size : ℕ) → (outcome (encode_of i) size ≡ refused (plain 8)) ↔ Undecoded i
