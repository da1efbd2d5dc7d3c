-- What callers may rely on of a byte of data space and its origin (document 02, W-203).
use Rattle.std.specs.Prelude.{ℕ, ◌≤◌, ◌<◌, ◌≡◌, true, false, List, get_or, Some, None}
use Rattle.isa.specs.Rom.{rom_at}
use Rattle.data.specs.declared.Origin.{Origin}
use Rattle.data.specs.declared.Origin.TheVariants.{Ram, Register, Rom, NoRom}
use Rattle.data.specs.Space.{is_write_only, window_address, read_of, origin_of}

-- a byte that is read at a data address comes from an origin
pub data ComesFrom (image bytes : List ℕ) (a : ℕ) : (byte : ℕ) → Origin → Type 0 where
  -- "00h–3Fh are 64 RAM bytes."
  ram : a < 0x40 → ComesFrom image bytes a (get_or bytes a 0) Ram
  -- "a register from 80h up"
  register : 0x80 ≤ a → is_write_only a ≡ false → ComesFrom image bytes a (get_or bytes a 0) Register
  -- .. of which 0C8h and 0C9h give 0 (document 02, W-204)
  write_only : is_write_only a ≡ true → ComesFrom image bytes a 0 Register
  -- "the ROM window with its ROM address": the image has the byte there
  rom :
      (byte : ℕ) → 0x40 ≤ a → a < 0x80 → rom_at image (window_address bytes a) ≡ Some byte →
      ComesFrom image bytes a byte (Rom (window_address bytes a))
  -- "the window where the image has nothing": "ROM that the image lacks reads 0"
  no_rom :
      0x40 ≤ a → a < 0x80 → rom_at image (window_address bytes a) ≡ None → ComesFrom image bytes a 0 NoRom

-- the byte that is read comes from the origin that is told
-- proved by byte_comes_from, proofs/Origins
abbrev pub ByteComesFrom : Type 0
ByteComesFrom = (image bytes : List ℕ) (a : ℕ) → ComesFrom image bytes a (read_of image bytes a) (origin_of image bytes a)
