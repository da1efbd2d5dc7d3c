-- What decoding has read where it answers an instruction: the law that takes `decode_at` apart.
use mathlib.Core.Path.{◌≡◌, refl}
use mathlib.Core.Bool.{Bool, true, false, cond}
use mathlib.Core.List.{List}
use Prim.Native.Nat.{ℕ, ◌+◌, ◌-◌, ◌<◌}
use native.Mathlib.Omega.{arith}
use borrow.Author.Tests.{ltb-true}
use lib.Dec.{ltb, leb}
use lib.ListN.{length, get_or}
use Rattle.isa.specs.declared.Instruction.{Instruction}
use Rattle.std.specs.Prelude.{Option, Some, None}
use Rattle.isa.specs.Refusals.{Numbered, plain, Answer, done, refused}
use Rattle.isa.specs.Displacement.{forward_of}
use Rattle.isa.specs.Table.{bytes_of}
use Rattle.isa.specs.Map.{entry_of, form_of}
use Rattle.isa.specs.Rom.{is_space, rom_at, operand_at}
use Rattle.isa.specs.Decode.{Decoding, instruction, with_form, with_second, with_first, with_opcode, decode_at}
use Rattle.isa.specs.RoundTrip.{Bytes}

-- the opcode k and the operand bytes f and s at an address, from which the map makes the instruction
pub record Read (image : List ℕ) (a : ℕ) (i : Instruction) (n : ℕ) : Type 0 where
  pub k : ℕ
  pub f : ℕ
  pub s : ℕ
  pub below : a < 4096
  pub opcode : rom_at image a ≡ Some k
  pub first : operand_at image a 1 (bytes_of (entry_of k)) ≡ Some f
  pub second : operand_at image a 2 (bytes_of (entry_of k)) ≡ Some s
  pub form : form_of k f s ≡ Some i
  pub count : bytes_of (entry_of k) ≡ n

-- a test before a refusal has passed where the answer is an instruction
passed :
    (b : Bool) (x : Answer Decoding) (r : Numbered) (i : Instruction) (n c : ℕ)
    → cond b x (refused r) ≡ done (instruction i n c) →
    (b ≡ true) × (x ≡ done (instruction i n c))
passed true x r i n c q = (refl, q)
passed false x r i n c q = let z : ◌≡◌ {A = ℕ} 0 1 = cc in absurd (omega arith)

module _ (image : List ℕ) (a : ℕ) (below : a < 4096) (i : Instruction) (n c : ℕ) where
  from_form :
      (k f s : ℕ) → rom_at image a ≡ Some k → operand_at image a 1 (bytes_of (entry_of k)) ≡ Some f →
      operand_at image a 2 (bytes_of (entry_of k)) ≡ Some s → (x : Option Instruction) → form_of k f s ≡ x → with_form a k x ≡ done
      (instruction i n c) →
      Read image a i n
  from_form k f s e0 e1 e2 None e q = let z : ◌≡◌ {A = ℕ} 0 1 = cc in absurd (omega arith)
  from_form k f s e0 e1 e2 (Some j) e q =
      record {
        k = k;
        f = f;
        s = s;
        below = below;
        opcode = e0;
        first = e1;
        second = e2;
        form = cc;
        count = cc;
      }

  from_second :
      (k f : ℕ) → rom_at image a ≡ Some k → operand_at image a 1 (bytes_of (entry_of k)) ≡ Some f → (r : Option ℕ) →
      operand_at image a 2 (bytes_of (entry_of k)) ≡ r → with_second a k f r ≡ done (instruction i n c) → Read image a i n
  from_second k f e0 e1 (Some s) e2 q = from_form k f s e0 e1 e2 (form_of k f s) refl q
  from_second k f e0 e1 None e2 q = let z : ◌≡◌ {A = ℕ} 0 1 = cc in absurd (omega arith)

  from_first :
      (k : ℕ) → rom_at image a ≡ Some k → (r : Option ℕ) → operand_at image a 1 (bytes_of (entry_of k)) ≡ r →
      with_first image a k r ≡ done (instruction i n c) → Read image a i n
  from_first k e0 (Some f) e1 q = from_second k f e0 e1 (operand_at image a 2 (bytes_of (entry_of k))) refl q
  from_first k e0 None e1 q = let z : ◌≡◌ {A = ℕ} 0 1 = cc in absurd (omega arith)

  from_opcode : (r : Option ℕ) → rom_at image a ≡ r → with_opcode image a r ≡ done (instruction i n c) → Read image a i n
  from_opcode (Some k) e0 q = from_first k e0 (operand_at image a 1 (bytes_of (entry_of k))) refl q
  from_opcode None e0 q = let z : ◌≡◌ {A = ℕ} 0 1 = cc in absurd (omega arith)

pub reading : (image : List ℕ) (a : ℕ) (i : Instruction) (n c : ℕ) → decode_at image a ≡ done (instruction i n c)
    → Read image a i n
unfolding decode_at
reading image a i n c q =
    let sized : (is_space (length image) ≡ true)
    × (cond (ltb a 4096) (with_opcode image a (rom_at image a)) (refused (plain 3)) ≡ done (instruction i n c)) =
    passed (is_space (length image)) _ (plain 1) i n c q in
    let ranged : (ltb a 4096 ≡ true) × (with_opcode image a (rom_at image a) ≡ done (instruction i n c)) =
    passed (ltb a 4096) _ (plain 3) i n c sized.1 in
    from_opcode image a (ltb-true a 4096 ranged.0) i n c (rom_at image a) refl ranged.1

-- what a ROM byte or an operand byte of an image of bytes holds is a byte
same_byte : (x k : ℕ) → x < 256 → Some x ≡ Some k → k < 256
same_byte x k h e = let q : x ≡ k = cc in omega arith

chosen_byte :
    (b : Bool) (r t : Option ℕ) → ((k : ℕ) → r ≡ Some k → k < 256) → ((k : ℕ) → t ≡ Some k → k < 256) → (k : ℕ) →
    cond b r t ≡ Some k → k < 256
chosen_byte true r t h g k e = h k e
chosen_byte false r t h g k e = g k e

no_byte : (k : ℕ) → None ≡ Some k → k < 256
no_byte k e = let z : ◌≡◌ {A = ℕ} 0 1 = cc in omega arith

pub rom_byte : (image : List ℕ) → Bytes image → (a k : ℕ) → rom_at image a ≡ Some k → k < 256
unfolding rom_at
rom_byte image all a =
    let at : ℕ = a + length image - 4096 in
    chosen_byte (ltb a 4096) _ None
    (chosen_byte (leb 4096 (a + length image)) (Some (get_or image at 0)) None
    (λ k. same_byte (get_or image at 0) k (all at)) no_byte)
    no_byte

pub operand_byte : (image : List ℕ) → Bytes image → (a j n k : ℕ) → operand_at image a j n ≡ Some k → k < 256
unfolding operand_at
operand_byte image all a j n =
    chosen_byte (ltb j n) (rom_at image (forward_of a j)) (Some 0) (rom_byte image all (forward_of a j))
    (λ k. same_byte 0 k (omega arith))
