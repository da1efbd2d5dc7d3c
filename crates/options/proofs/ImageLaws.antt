-- Laws of the image that a file holds.
use Prim.Native.Nat.{ℕ, ◌+◌, ◌-◌, ◌≤◌}
use native.Mathlib.Omega.{arith}
use mathlib.Core.Path.{◌≡◌, refl}
use mathlib.Core.Bool.{Bool, true, false, cond}
use mathlib.Core.List.{List, [], ◌++◌, append-nil}
use lib.ListN.{length, take, drop, drop_of_length-le, length-drop}
use lib.Seq.{take_all}
use lib.Dec.{eqb}
use borrow.Author.Tests.{eqb-true, eqb-false}
use borrow.Rule.Slice.PartMut.{put_mid, mid_of, Post-is}
use Rattle.isa.specs.Rom.{is_image, spaces_in}
use Rattle.isa.proofs.Halves.{Sized, sized}
use Rattle.std.specs.Prelude.{None, Some, Result}
use Rattle.intel_hex.specs.declared.HexError.{HexError}
use Rattle.intel_hex.specs.Read.{answer_of, image_after, outcome_of, Reads}
use Rattle.options.specs.declared.image.Rom.TheVariants as rom
use Rattle.options.specs.declared.image.Asked.TheVariants as asked
use Rattle.options.specs.Image.{bytes_of, Found, got, hex_got, sized_by, sized_by_lowest, size_of}

module _ (space : List ℕ) (start : ℕ) (fits : start ≤ length space) where
  -- the last bytes of a space, as they are lent
  part : mid_of start (length space - start) space ≡ drop start space
  part = take_all (length space - start) (drop start space) (rw length-drop (omega arith))

  part_length : length (drop start space) ≡ length space - start
  part_length = rw length-drop (omega arith)

  -- .. and as they come back
  part_back : (new : List ℕ) → put_mid start (length space - start) space new ≡ take start space ++ new
  part_back new =
      let none : drop (length space) space ≡ [] = drop_of_length-le space {i = length space} (omega arith) in
      rw (Post-is start (length space) space (omega arith), none, append-nil new)

  -- a file copied there, which fills them
  pub part_filled :
      (file new : List ℕ) → new ≡ file → put_mid start (length space - start) space new ≡ take start space ++ file
  part_filled file new e = rw (part_back new, e)

  pub part_fits :
      (file : List ℕ) → start + length file ≡ length space
      → length (mid_of start (length space - start) space) ≡ length file
  part_fits file e = rw part (omega (arith, part_length))

  -- a HEX file read there
  module _ (size : ℕ) (e : length space - start ≡ size) (file : List ℕ) (fill : ℕ) (after : List ℕ) (answer : Result ℕ HexError)
      (reads : Reads file fill (mid_of start (length space - start) space) after answer) where
    pub part_answer : answer ≡ answer_of (outcome_of file size)
    part_answer = rw (part, part_length, e) at reads.answer

    pub part_read :
        put_mid start (length space - start) space after
        ≡ take start space ++ image_after fill (drop start space) (outcome_of file size)
    part_read =
        let i : after ≡ image_after fill (drop start space) (outcome_of file size) =
        rw (part, part_length, e) at reads.image in
        rw (part_back after, i)

module _ (space : List ℕ) (whole : length space ≡ 20480) where
  module _ (file : List ℕ) (fill : ℕ) (after : List ℕ) (answer : Result ℕ HexError) (r : Found) where
    -- a HEX file read as 2K, as 4K, and by the lowest address that it names
    pub small_read :
        Reads file fill (mid_of 18432 (length space - 18432) space) after answer → r ≡ sized_by rom.Small answer
        → got r (put_mid 18432 (length space - 18432) space after) ≡ hex_got file (Some asked.Small) fill space
    unfolding hex_got
    small_read reads e =
        rw (
          e,
          part_answer space 18432 (omega arith) 2048 (omega arith) file fill after answer reads,
          part_read space 18432 (omega arith) 2048 (omega arith) file fill after answer reads,
        )

    pub large_read :
        Reads file fill (mid_of 16384 (length space - 16384) space) after answer → r ≡ sized_by rom.Large answer
        → got r (put_mid 16384 (length space - 16384) space after) ≡ hex_got file (Some asked.Large) fill space
    unfolding hex_got
    large_read reads e =
        rw (
          e,
          part_answer space 16384 (omega arith) 4096 (omega arith) file fill after answer reads,
          part_read space 16384 (omega arith) 4096 (omega arith) file fill after answer reads,
        )

    pub lowest_read :
        Reads file fill (mid_of 16384 (length space - 16384) space) after answer → r ≡ sized_by_lowest answer
        → got r (put_mid 16384 (length space - 16384) space after) ≡ hex_got file None fill space
    unfolding hex_got
    lowest_read reads e =
        rw (
          e,
          part_answer space 16384 (omega arith) 4096 (omega arith) file fill after answer reads,
          part_read space 16384 (omega arith) 4096 (omega arith) file fill after answer reads,
        )

-- an image's bytes are those of its size
pub size_bytes : (n : ℕ) → is_image n ≡ true → n ≡ bytes_of (size_of n)
unfolding size_of
size_bytes n is = by_tests (eqb n 2048) (eqb n 4096) refl refl
  where
    by_tests : (t u : Bool) → eqb n 2048 ≡ t → eqb n 4096 ≡ u
        → n ≡ bytes_of (cond t rom.Small (cond u rom.Large (rom.Paged (spaces_in n))))
    by_tests true u p q = eqb-true n 2048 p
    by_tests false true p q = eqb-true n 4096 q
    by_tests false false p q =
        let size : Sized n = sized n is in
        omega (arith, size.whole, size.least, eqb-false n 2048 p)
