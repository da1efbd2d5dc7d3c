-- When decoding refuses, and with which number (document 01, "What each operation turns down"; document 02, W-210:
-- "Decoding at an address takes the bank byte too.").
use Rattle.std.specs.Prelude.{ℕ, ◌<◌, ◌≤◌, ◌≡◌, true, false, List, length, Some, None}
use Rattle.isa.specs.Refusals.{Numbered, plain, located, refused}
use Rattle.isa.specs.Displacement.{forward_of}
use Rattle.isa.specs.Table.{bytes_of}
use Rattle.isa.specs.Map.{entry_of}
use Rattle.isa.specs.Rom.{is_image, space_of, rom_at}
use Rattle.isa.specs.Decode.{decode_in}
use Rattle.isa.specs.Counts.{undefined_opcodes, member}

-- the opcode k stands at a program address, in program space as it stands with a bank byte
pub record Opcode (image : List ℕ) (bank a k : ℕ) : Type 0 where
  pub size : is_image (length image) ≡ true
  pub below : a < 4096
  pub here : rom_at (space_of image bank) a ≡ Some k
  pub byte : k < 256

-- a byte of the instruction with the opcode k lies outside ROM
pub record Cut (image : List ℕ) (bank a k : ℕ) : Type 0 where
  pub offset : ℕ
  pub inside : offset < bytes_of (entry_of k)
  pub outside : rom_at (space_of image bank) (forward_of a offset) ≡ None

-- "Decode at an address: 1 image length; 3 address above FFFh; 4 opcode byte outside ROM; 5 undefined opcode; 4 operand
-- byte outside ROM." "The first that applies is given, and never where it doesn't apply." 4 and 5 "also give the
-- instruction's address"
-- proved by decode_refusals, proofs/DecodeRefusals
pub record DecodeRefusals : Type 0 where
  pub image_length :
      (image : List ℕ) (bank a : ℕ) → is_image (length image) ≡ false → decode_in image bank a ≡ refused (plain 1)
  pub address_range :
      (image : List ℕ) (bank a : ℕ) → is_image (length image) ≡ true → 4096 ≤ a →
      decode_in image bank a ≡ refused (plain 3)
  pub opcode_outside :
      (image : List ℕ) (bank a : ℕ) → is_image (length image) ≡ true → a < 4096 →
      rom_at (space_of image bank) a ≡ None →
      decode_in image bank a ≡ refused (located 4 a)
  pub undefined_opcode :
      (image : List ℕ) (bank a k : ℕ) → Opcode image bank a k → member k undefined_opcodes ≡ true →
      decode_in image bank a ≡ refused (located 5 a)
  pub operand_outside :
      (image : List ℕ) (bank a k : ℕ) → Opcode image bank a k → Cut image bank a k →
      decode_in image bank a ≡ refused (located 4 a)
  pub none_else :
      (image : List ℕ) (bank a k : ℕ) → Opcode image bank a k → member k undefined_opcodes ≡ false →
      (Cut image bank a k → ⊥) → (r : Numbered) → decode_in image bank a ≡ refused r → ⊥
