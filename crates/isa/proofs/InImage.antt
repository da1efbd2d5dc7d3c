-- Writing and decoding undo one another in an image.
use mathlib.Core.Path.{◌≡◌, refl, sym, ap, ◌∙◌}
use mathlib.Core.Bool.{Bool, true, false}
use mathlib.Core.List.{List, [], ◌∷◌}
use Prim.Native.Nat.{ℕ, ◌+◌, ◌%◌, ◌<◌, min}
use native.Mathlib.Omega.{arith}
use borrow.Author.Tests.{ltb-true, ltb-false, lt-ltb}
use lib.Dec.{ltb}
use lib.ListN.{length, get_or, take, length-take, get_or-eq_default}
use lib.Seq.{get_or-take}
use Rattle.isa.specs.declared.Encoded.{Encoded}
use Rattle.std.specs.Prelude.{Option, Some, None}
use Rattle.isa.specs.declared.Encoded.TheVariants.{One, Two, Three}
use Rattle.isa.specs.Displacement.{forward_of}
use Rattle.isa.specs.Table.{bytes_of}
use Rattle.isa.specs.Map.{entry_of}
use Rattle.isa.specs.Rom.{is_space, space_of, rom_at, operand_at}
use Rattle.isa.specs.Decode.{decode_at}
use Rattle.isa.specs.Encode.{encode_of, bytes}
use Rattle.isa.specs.RoundTrip.{Bytes, Holds, WrittenDecodes, DecodedWrites}
use Rattle.isa.proofs.AtAddress.{in_space, from_space}
use Rattle.isa.proofs.Halves.{is_space_lem, space_bytes}
use Rattle.isa.proofs.Column.{pick}
use Rattle.isa.proofs.Finite.{bounded}
use Rattle.isa.proofs.Reading.{Read, reading, rom_byte, operand_byte}
use Rattle.isa.proofs.RoundTrip.{decodes_back, writes_back}

some : (e : Option Encoded) → (e ≡ None → ⊥) → 0 < length (bytes e)
some (Some (One a)) n = omega arith
some (Some (Two a b)) n = omega arith
some (Some (Three a b c)) n = omega arith
some None n = absurd (n refl)

-- an operand byte of an instruction that stands in the image: 0 past its end
operand_held :
    (image : List ℕ) (a : ℕ) (bs : List ℕ) → Holds image a bs → (j : ℕ) (b : Bool) → ltb j (length bs) ≡ b →
    operand_at image a j (length bs) ≡ Some (get_or bs j 0)
unfolding operand_at
operand_held image a bs held j true e = rw e (held j (ltb-true j (length bs) e))
operand_held image a bs held j false e = rw e (ap Some (sym (get_or-eq_default bs 0 (ltb-false j (length bs) e))))

pub written_decodes : WrittenDecodes
unfolding decode_at
written_decodes i n whole is bank a h held =
    let image : List ℕ = space_of whole bank in
    let size : is_space (length image) ≡ true = is_space_lem whole bank is in
    let bs : List ℕ = bytes (encode_of i) in
    let here : (a + 0) % 4096 ≡ a = omega arith in
    let opcode : rom_at image a ≡ Some (get_or bs 0 0) = rw here at (held 0 (some (encode_of i) n)) in
    let count : bytes_of (entry_of (get_or bs 0 0)) ≡ length bs = (decodes_back i n).1 in
    let first : operand_at image a 1 (length bs) ≡ Some (get_or bs 1 0) =
    operand_held image a bs held 1 (ltb 1 (length bs)) refl in
    let second : operand_at image a 2 (length bs) ≡ Some (get_or bs 2 0) =
    operand_held image a bs held 2 (ltb 2 (length bs)) refl in
    in_space whole bank a is
    ∙ rw (size, lt-ltb a 4096 h, opcode, count, first, count, second, (decodes_back i n).0, count)

-- three bytes that were read stand in the image, as far as the instruction goes
held_by :
    (image : List ℕ) (a k f s n : ℕ) → a < 4096 → rom_at image a ≡ Some k → operand_at image a 1 n ≡ Some f →
    operand_at image a 2 n ≡ Some s → (j : ℕ) → j < 3 → j < n → rom_at image (forward_of a j) ≡ Some
    (get_or (k ∷ f ∷ s ∷ []) j 0)
unfolding operand_at
held_by image a k f s n h e0 e1 e2 =
    pick (λ j. j < n → rom_at image (forward_of a j) ≡ Some (get_or (k ∷ f ∷ s ∷ []) j 0)) 3 (
      λ m. (let here : (a + 0) % 4096 ≡ a = omega arith in rw here e0),
      (
        λ m. rw (lt-ltb 1 n m) at e1,
        (λ m. rw (lt-ltb 2 n m) at e2, tt),
      ),
    )

holds_taken :
    (image : List ℕ) (a k f s n : ℕ) → a < 4096 → rom_at image a ≡ Some k → operand_at image a 1 n ≡ Some f →
    operand_at image a 2 n ≡ Some s → Holds image a (take n (k ∷ f ∷ s ∷ []))
holds_taken image a k f s n h e0 e1 e2 j m =
    let both : j < min n 3 = rw (length-take n (k ∷ f ∷ s ∷ [])) at m in
    let within : j < n = omega arith in
    rw (get_or-take n (k ∷ f ∷ s ∷ []) j 0 within) (held_by image a k f s n h e0 e1 e2 j (omega arith) within)

pub bytes_few : (k : ℕ) → k < 256 → bytes_of (entry_of k) < 4
unfolding bytes_of entry_of
bytes_few k h = bounded (λ k. bytes_of (entry_of k)) 4 tt k h

pub decoded_writes : DecodedWrites
decoded_writes whole bytes-all bank a i n c q =
    let image : List ℕ = space_of whole bank in
    let all : Bytes image = space_bytes whole bank bytes-all in
    let r : Read image a i n = reading image a i n c (from_space whole bank a i n c q) in
    let size : ℕ = bytes_of (entry_of r.k) in
    let hk : r.k < 256 = rom_byte image all a r.k r.opcode in
    let hf : r.f < 256 = operand_byte image all a 1 size r.f r.first in
    let hs : r.s < 256 = operand_byte image all a 2 size r.s r.second in
    let few : size < 4 = bytes_few r.k hk in
    let are : bytes (encode_of i) ≡ take size (r.k ∷ r.f ∷ r.s ∷ []) =
    rw r.form at (writes_back r.k r.f r.s hk hf hs) in (
      ap length are ∙ length-take size (r.k ∷ r.f ∷ r.s ∷ []) ∙ omega arith,
      rw are (holds_taken image a r.k r.f r.s size r.below r.opcode r.first r.second),
    )
