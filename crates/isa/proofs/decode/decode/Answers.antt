-- `decode::decode` meets its contract.
use borrow.Author.Tests.{lt-ltb, le-ltb}
use Rattle.std.proofs.Common.{◌≡◌, ℕ, List, ◌<◌, sym, ◌∙◌}
use Rattle.std.specs.Prelude.{Result}
use Rattle.isa.specs.Rom.{IsImage, space_of}
use Rattle.isa.specs.Decode.{answer_of, decode_at, decode_in, decode_of}
use Rattle.isa.specs.declared.Decoded.{Decoded}
use Rattle.isa.specs.declared.Refusal.{Refusal}
use Rattle.isa.proofs.Halves.{is_space_lem}
use Rattle.isa.proofs.decode.decode.Goals as goal

-- what the tests and the answer of decoding in range say together, by the answer's case
decoded : (image : List ℕ) (bank a : ℕ) (d x : Result Decoded Refusal) → IsImage image → a < 4096
    → answer_of d ≡ decode_of (space_of image bank) a → d ≡ x → answer_of x ≡ decode_in image bank a
unfolding decode_in decode_at
decoded image bank a d x is low e q =
    rw (is, is_space_lem image bank is, lt-ltb _ _ low) (rw q at e)

pub returns-then-not-is_image_length : goal.returns-then-not-is_image_length
unfolding decode_in decode_at
returns-then-not-is_image_length c = rw (← c.is_image_length.ensures, c.if-not-is_image_length.true)

pub returns-then-address-ge4096 : goal.returns-then-address-ge4096
unfolding decode_in decode_at
returns-then-address-ge4096 c =
    rw (
      ← c.is_image_length.ensures,
      c.if-not-is_image_length.false,
      is_space_lem c.args.image.now c.args.bank
          (sym c.is_image_length.ensures
          ∙ c.if-not-is_image_length.false),
      le-ltb _ _ c.if-address-ge4096.true,
    )

pub returns-in-Err : goal.returns-in-Err
returns-in-Err c =
    let is : IsImage c.args.image.now = sym c.is_image_length.ensures ∙ c.if-not-is_image_length.false in
    decoded c.args.image.now c.args.bank c.args.address _ _ is c.if-address-ge4096.false
    (c.decode_in_range.ensures is c.if-address-ge4096.false) c.in-Err.is

pub returns-in-Ok : goal.returns-in-Ok
returns-in-Ok c =
    let is : IsImage c.args.image.now = sym c.is_image_length.ensures ∙ c.if-not-is_image_length.false in
    decoded c.args.image.now c.args.bank c.args.address _ _ is c.if-address-ge4096.false
    (c.decode_in_range.ensures is c.if-address-ge4096.false) c.in-Ok.is
