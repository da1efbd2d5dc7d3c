-- An image of either length, written as HEX, is read as that image.
use Prim.Native.Nat.{ℕ, zero, suc, ◌+◌, ◌*◌, ◌/◌, ◌<◌}
use native.Mathlib.Omega.{arith}
use mathlib.Core.Path.{◌≡◌, refl, sym, ap, ◌∙◌}
use mathlib.Core.Bool.{true}
use mathlib.Core.List.{List, [], ◌∷◌, ◌++◌}
use lib.ListN.{length, get_or, length-append, length-replicate, replicate-append-replicate}
use lib.Seq.{get_or-append-add, ext_get_or}
use borrow.Author.Tests.{lt-ltb}
use Rattle.std.specs.Prelude.{Option, None, Some, is_some}
use Rattle.std.specs.List.{position_or_len}
use Rattle.std.proofs.lemmas.List.{get_or-map, length-map}
use Rattle.isa.specs.Rom.{is_space}
use Rattle.isa.specs.RoundTrip.{Bytes}
use Rattle.isa.proofs.Halves.{by_length, space_most}
use Rattle.intel_hex.specs.Image.{filled, lowest_in}
use Rattle.intel_hex.specs.Place.{Memory, none_named}
use Rattle.intel_hex.specs.Read.{whole, first_of, outcome_of, image_after}
use Rattle.intel_hex.specs.Write.{hex_of, WrittenIsRead}
use Rattle.intel_hex.proofs.ImageLaws.{filled_length, filled_at}
use Rattle.intel_hex.proofs.WrittenRows.{rows_read, unnamed, named}

-- an image is whole rows of 16 bytes, and not empty
rows_of : (n : ℕ) → is_space n ≡ true → (n ≡ n / 16 * 16) × (0 < n)
rows_of = by_length (λ n. (n ≡ n / 16 * 16) × (0 < n)) (refl, omega arith) (refl, omega arith)

-- cells that are not named
unnamed_length : (n : ℕ) → length (unnamed n) ≡ n
unnamed_length n = length-replicate {A = Option ℕ} n None

-- the memory before the first row: nothing below the image's first address, nothing from there on
none_named_split : (below size : ℕ) → below + size ≡ 4096 → none_named ≡ unnamed below ++ unnamed size
unfolding none_named
none_named_split below size e =
    sym (replicate-append-replicate below size None ∙ ap (λ (n : ℕ). unnamed n) e)

-- cells that are not named are passed over
passed_over :
    (n : ℕ) (bytes : List ℕ) → 0 < length bytes → position_or_len is_some (unnamed n ++ named bytes) ≡ n
passed_over zero [] h = absurd (omega arith)
passed_over zero (b ∷ bytes) h = refl
passed_over (suc n) bytes h = omega (arith, passed_over n bytes h)

module _ (image : List ℕ) (bytes : Bytes image) (is : is_space (length image) ≡ true) where
  below : first_of (length image) + length image ≡ 4096
  below = omega (arith, space_most (length image) is)

  -- what the rows leave
  memory : Memory
  memory = unnamed (first_of (length image)) ++ named image

  outcome : outcome_of (hex_of image) (length image) ≡ whole memory
  unfolding outcome_of hex_of memory
  outcome =
      let front = unnamed_length (first_of (length image)) in
      let all =
      rows_read (length image / 16) (first_of (length image)) 1 (unnamed (first_of (length image))) image bytes
      (rows_of (length image) is).0 (omega arith) (omega (arith, below)) in
      rw (is, none_named_split (first_of (length image)) (length image) below) (rw front at all)

  at_image : (j : ℕ) → j < length image → get_or memory (first_of (length image) + j) None ≡ Some (get_or image j 0)
  unfolding memory
  at_image j h =
      (rw (unnamed_length (first_of (length image)))
      at (get_or-append-add (unnamed (first_of (length image))) (named image) j None))
      ∙ get_or-map (λ b. Some b) image j 0 None h

  lowest : lowest_in memory ≡ first_of (length image)
  unfolding memory
  lowest =
      let first = first_of (length image) in
      let some : 0 < length image = (rows_of (length image) is).1 in
      let all : length (unnamed first ++ named image) ≡ 4096 =
      omega (arith, length-append (unnamed first) (named image), unnamed_length first, length-map {B = Option ℕ} image, below) in
      rw (passed_over first image some, all, lt-ltb first 4096 (omega (arith, below)))

  image_back : (fill : ℕ) → filled fill memory (first_of (length image)) (length image) ≡ image
  image_back fill =
      let first = first_of (length image) in
      let size = filled_length fill memory first (length image) in
      ext_get_or 0 (filled fill memory first (length image)) image size
      (λ j h.
      let within : j < length image = rw size at h in
      filled_at fill memory first (length image) j within ∙ rw (at_image j within))

  lent_back :
      (lent : List ℕ) (fill : ℕ) → length lent ≡ length image
      → image_after fill lent (outcome_of (hex_of image) (length lent)) ≡ image
  lent_back lent fill same = rw (same, outcome) (rw same (image_back fill))

pub written_is_read : WrittenIsRead
written_is_read =
    record {
      answer = λ image bytes is. rw (outcome image bytes is, lowest image bytes is);
      image = λ image lent fill bytes is same. lent_back image bytes is lent fill same;
    }
