-- Decoding refuses by document 01's numbers, in its order, and nowhere else.
use mathlib.Core.Path.{◌≡◌, refl, sym, ◌∙◌}
use mathlib.Core.Bool.{Bool, true, false}
use mathlib.Core.List.{List}
use Prim.Native.Nat.{ℕ, ◌<◌}
use native.Mathlib.Omega.{arith}
use borrow.Author.Tests.{lt-ltb, le-ltb, ltb-true}
use lib.Dec.{ltb}
use Rattle.std.specs.Prelude.{Option, Some, None}
use Rattle.isa.specs.declared.Instruction.{Instruction}
use Rattle.isa.specs.Refusals.{Numbered, located, refused}
use Rattle.isa.specs.Displacement.{forward_of}
use Rattle.isa.specs.Table.{bytes_of}
use Rattle.isa.specs.Map.{entry_of, form_of}
use Rattle.isa.specs.Rom.{space_of, rom_at, operand_at}
use Rattle.isa.specs.Decode.{with_form, with_second, with_first, decode_at, decode_in}
use Rattle.isa.specs.Counts.{is_undefined, member, undefined_opcodes}
use Rattle.isa.specs.DecodeRefusals.{Opcode, Cut, DecodeRefusals}
use Rattle.isa.proofs.AtAddress.{in_space}
use Rattle.isa.proofs.Halves.{is_space_lem}
use Rattle.isa.proofs.Column.{pick}
use Rattle.isa.proofs.Counts.{undefined_listed}
use Rattle.isa.proofs.InImage.{bytes_few}

-- decoding goes on from an opcode that stands in ROM
from_opcode :
    (image : List ℕ) (bank a k : ℕ) → Opcode image bank a k →
    decode_in image bank a
    ≡ with_first (space_of image bank) a k (operand_at (space_of image bank) a 1 (bytes_of (entry_of k)))
unfolding decode_at
from_opcode image bank a k o =
    in_space image bank a o.size
    ∙ rw (is_space_lem image bank o.size, lt-ltb a 4096 o.below, o.here)

undefined_form : (x : Option Instruction) → is_undefined x ≡ true → x ≡ None
undefined_form (Some i) e = cc
undefined_form None e = refl

undefined_opcode :
    (image : List ℕ) (bank a k : ℕ) → Opcode image bank a k → member k undefined_opcodes ≡ true
    → decode_in image bank a ≡ refused (located 5 a)
unfolding operand_at
undefined_opcode image bank a k o m =
    let empty : bytes_of (entry_of k) ≡ 0 = undefined_listed.no_length k o.byte m in
    let form : form_of k 0 0 ≡ None =
    undefined_form (form_of k 0 0) (undefined_listed.exactly k 0 0 o.byte ∙ m) in
    from_opcode image bank a k o ∙ rw (empty, empty, form)

-- an operand byte outside ROM
second_outside :
    (image : List ℕ) (a k : ℕ) (r : Option ℕ) → operand_at image a 2 (bytes_of (entry_of k)) ≡ None →
    with_first image a k r ≡ refused (located 4 a)
second_outside image a k (Some f) e = rw e
second_outside image a k None e = refl

operand_outside :
    (image : List ℕ) (a k : ℕ) → a < 4096 → rom_at image a ≡ Some k → (j : ℕ) → j < 3 → j < bytes_of (entry_of k) →
    rom_at image (forward_of a j) ≡ None →
    with_first image a k (operand_at image a 1 (bytes_of (entry_of k))) ≡ refused (located 4 a)
unfolding operand_at
operand_outside image a k below opcode =
    let n : ℕ = bytes_of (entry_of k) in
    pick
    (λ j. j < n → rom_at image (forward_of a j) ≡ None
    → with_first image a k (operand_at image a 1 n) ≡ refused (located 4 a))
    3 (
      λ h e. (let here : forward_of a 0 ≡ a = omega arith in
          let z : None ≡ Some k = sym (rw here at e) ∙ opcode in cc),
      (
        λ h e. rw (lt-ltb 1 n h, e),
        (λ h e. second_outside image a k (operand_at image a 1 n) (rw (lt-ltb 2 n h, e)), tt),
      ),
    )

-- with a defined opcode and all its bytes in ROM nothing is left to refuse
module _
    (image : List ℕ) (bank a k : ℕ) (o : Opcode image bank a k)
    (defined : member k undefined_opcodes ≡ false) (whole : Cut image bank a k → ⊥) (r : Numbered) where
  in_rom : (j : ℕ) (b : Bool) → ltb j (bytes_of (entry_of k)) ≡ b
      → operand_at (space_of image bank) a j (bytes_of (entry_of k)) ≡ None → ⊥
  unfolding operand_at
  in_rom j true t e =
      whole (record { offset = j; inside = ltb-true j (bytes_of (entry_of k)) t; outside = rw t at e })
  in_rom j false t e = let z : Some 0 ≡ None = rw t at e in let y : ◌≡◌ {A = ℕ} 0 1 = cc in omega arith

  not_form : (f s : ℕ) (x : Option Instruction) → form_of k f s ≡ x → with_form a k x ≡ refused r → ⊥
  not_form f s (Some i) e q = let y : ◌≡◌ {A = ℕ} 0 1 = cc in omega arith
  not_form f s None e q =
      let z : true ≡ false = (rw e at (undefined_listed.exactly k f s o.byte)) ∙ defined in
      let y : ◌≡◌ {A = ℕ} 0 1 = cc in omega arith

  not_second : (f : ℕ) (x : Option ℕ) → operand_at (space_of image bank) a 2 (bytes_of (entry_of k)) ≡ x
      → with_second a k f x ≡ refused r → ⊥
  not_second f (Some s) e q = not_form f s (form_of k f s) refl q
  not_second f None e q = in_rom 2 (ltb 2 (bytes_of (entry_of k))) refl e

  not_first : (x : Option ℕ) → operand_at (space_of image bank) a 1 (bytes_of (entry_of k)) ≡ x
      → with_first (space_of image bank) a k x ≡ refused r → ⊥
  not_first (Some f) e q = not_second f (operand_at (space_of image bank) a 2 (bytes_of (entry_of k))) refl q
  not_first None e q = in_rom 1 (ltb 1 (bytes_of (entry_of k))) refl e

  none_else : decode_in image bank a ≡ refused r → ⊥
  none_else q =
      not_first (operand_at (space_of image bank) a 1 (bytes_of (entry_of k))) refl
      (sym (from_opcode image bank a k o) ∙ q)

pub decode_refusals : DecodeRefusals
unfolding decode_in decode_at
decode_refusals =
    record {
      image_length = λ image bank a e. rw e;
      address_range = λ image bank a e h. rw (e, is_space_lem image bank e, le-ltb a 4096 h);
      opcode_outside = λ image bank a e h here. rw (e, is_space_lem image bank e, lt-ltb a 4096 h, here);
      undefined_opcode = undefined_opcode;
      operand_outside = λ image bank a k o cut.
          (let few : bytes_of (entry_of k) < 4 = bytes_few k o.byte in
          from_opcode image bank a k o
          ∙ operand_outside (space_of image bank) a k o.below o.here cut.offset (omega (arith, cut.inside))
          cut.inside cut.outside);
      none_else = none_else;
    }
