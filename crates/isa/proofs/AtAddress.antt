-- What decoding can refuse at an address of program space: 4 and 5, with that address.
use Prim.Native.Nat.{ℕ, ◌<◌}
use native.Mathlib.Omega.{arith}
use mathlib.Core.Path.{◌≡◌, refl}
use mathlib.Core.Logic.{◌⊎◌, inl, inr}
use mathlib.Core.Bool.{Bool, true, false, cond}
use mathlib.Core.List.{List}
use lib.ListN.{length}
use borrow.Author.Tests.{lt-ltb}
use Rattle.isa.specs.Decode as decode
use Rattle.isa.specs.Rom.{is_space, is_image, IsImage, space_of, rom_at, operand_at}
use Rattle.isa.specs.Decode.{Decoding, with_form, with_second, with_first, with_opcode, decode_of, decode_at, decode_in}
use Rattle.isa.specs.Table.{bytes_of}
use Rattle.isa.specs.Map.{entry_of, form_of}
use Rattle.isa.specs.Refusals.{Numbered, plain, located, Answer, done, refused}
use Rattle.isa.specs.declared.Instruction.{Instruction}
use Rattle.std.specs.Prelude.{Option, Some, None}

-- 4 or 5 with the address, where decoding refuses
abbrev pub AtAddress : ℕ → Answer Decoding → Type 0
AtAddress a (done (decode.instruction i bytes cycles)) = Unit
AtAddress a (refused r) = (r ≡ located 4 a) ⊎ (r ≡ located 5 a)

-- an instruction is no refusal
pub defined : {i : Instruction} {n c : ℕ} {r : Numbered} → done (decode.instruction i n c) ≡ refused r → ⊥
defined e = let z : ◌≡◌ {A = ℕ} 0 1 = cc in omega arith

at_form : (a opcode : ℕ) (f : Option Instruction) → AtAddress a (with_form a opcode f)
at_form a opcode (Some i) = tt
at_form a opcode None = inr refl

at_second : (a opcode first : ℕ) (b : Option ℕ) → AtAddress a (with_second a opcode first b)
at_second a opcode first (Some second) = at_form a opcode (form_of opcode first second)
at_second a opcode first None = inl refl

at_first : (image : List ℕ) (a opcode : ℕ) (b : Option ℕ) → AtAddress a (with_first image a opcode b)
at_first image a opcode (Some first) = at_second a opcode first (operand_at image a 2 (bytes_of (entry_of opcode)))
at_first image a opcode None = inl refl

at_opcode : (image : List ℕ) (a : ℕ) (b : Option ℕ) → AtAddress a (with_opcode image a b)
at_opcode image a (Some opcode) = at_first image a opcode (operand_at image a 1 (bytes_of (entry_of opcode)))
at_opcode image a None = inl refl

pub at_address : (image : List ℕ) (a : ℕ) → is_space (length image) ≡ true → a < 4096 → AtAddress a (decode_at image a)
unfolding decode_at
at_address image a e h = rw (e, lt-ltb a 4096 h) (at_opcode image a (rom_at image a))

-- where length and address are tested already
pub in_range : (image : List ℕ) (a : ℕ) → is_space (length image) ≡ true → a < 4096 → decode_of image a ≡ decode_at image a
unfolding decode_at
in_range image a e h = rw (e, lt-ltb a 4096 h)

-- decoding with a bank byte is decoding in program space as it stands
pub in_space : (image : List ℕ) (bank a : ℕ) → IsImage image → decode_in image bank a ≡ decode_at (space_of image bank) a
unfolding decode_in
in_space image bank a is = rw is

-- .. wherever it answers an instruction
pub from_space : (image : List ℕ) (bank a : ℕ) (i : Instruction) (n c : ℕ)
    → decode_in image bank a ≡ done (decode.instruction i n c)
    → decode_at (space_of image bank) a ≡ done (decode.instruction i n c)
unfolding decode_in
from_space image bank a i n c = by_length (is_image (length image))
  where
    by_length : (b : Bool) → cond b (decode_at (space_of image bank) a) (refused (plain 1)) ≡ done (decode.instruction i n c)
        → decode_at (space_of image bank) a ≡ done (decode.instruction i n c)
    by_length true q = q
    by_length false q = let z : ◌≡◌ {A = ℕ} 0 1 = cc in absurd (omega arith)
